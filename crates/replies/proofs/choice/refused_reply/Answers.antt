-- The raw line is written behind the letter and the number; where it is refused, the output is as it was.
use Prim.Native.Nat.{◌+◌, ◌≤◌}
use mathlib.Core.Path.{◌≡◌}
use native.Mathlib.Omega.{arith}
use lib.ListN.{set, length-set}
use Rattle.rules.specs.BankNumbers.{tag_of_bank}
use Rattle.replies.specs.Replies.{space, of_bank}
use Rattle.replies.specs.Writing.{Wrote, after_number}
use Rattle.replies.proofs.Screens.{raw_shown, raw_hidden}
use Rattle.replies.proofs.choice.refused_reply.Goals as goal
use Rattle.replies.proofs.choice.refused_reply.Goals.{After-put_number-end}

-- the raw line, the letter and the number are written
shown : (c : After-put_number-end) → let put = c.put_number-end in
    let n = c.in-Ok.written.length in
    (n ≤ 145) × (put.result ≡ 4) × Wrote (of_bank c.args.bank.now (tag_of_bank c.args.bank.now)) c.args.out.now (n + after_number) (set put.new.out put.result space)
shown c =
    let put = c.put_number-end in
    let raw = c.raw_line in
    raw_shown c.args.bank.now c.args.out.now raw.new.out c.in-Ok.written.length c.requires.1 c.args.number put.result put.new.out c.requires.0 _
    (rw c.in-Ok.is at raw.ensures) put.ensures

pub bounds-out-end : goal.bounds-out-end
bounds-out-end c = omega (arith, (shown (goal.at.bounds-out-end c).After-put_number-end).1, c.put_number-end.auto.out)

pub returns-in-Err : goal.returns-in-Err
returns-in-Err c =
    let put = c.put_number in
    let raw = c.raw_line in
    raw_hidden c.args.bank.now c.args.out.now raw.new.out _ c.requires.1 c.args.number put.result put.new.out c.requires.0 _
    (rw c.in-Err.is at raw.ensures) put.ensures

pub overflow_add-result : goal.overflow_add-result
overflow_add-result c = omega (arith, (shown (goal.at.overflow_add-result c).After-put_number-end).0)

pub shape_of-out-in-Ok : goal.shape_of-out-in-Ok
shape_of-out-in-Ok c = simp length-set (omega arith)

pub returns-in-Ok : goal.returns-in-Ok
returns-in-Ok c = (shown (goal.at.returns-in-Ok c).After-put_number-end).2
