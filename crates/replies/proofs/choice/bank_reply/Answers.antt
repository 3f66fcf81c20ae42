-- The text is written behind the letter; where the bank is refused, the output is as it was.
use Prim.Native.Nat.{◌-◌}
use mathlib.Core.Path.{◌≡◌, ap}
use native.Mathlib.Omega.{arith}
use lib.ListN.{length}
use borrow.Rule.Slice.PartMut.{put_mid}
use Rattle.replies.specs.Replies.{RefusedWith}
use Rattle.replies.proofs.Screens.{text_shown, text_hidden}
use Rattle.scheme.specs.Refusals.{number}
use Rattle.replies.proofs.choice.bank_reply.Goals as goal
use Rattle.replies.proofs.choice.bank_reply.Goals.{In-Err, In-Ok}

hidden : (c : In-Err) → let n = number c.in-Err.refusal.rule in
    let e = c.bank_to_text.new.out in
    RefusedWith c.args.bank.now n × (put_mid 2 (length c.args.out.now - 2) c.args.out.now e ≡ c.args.out.now)
hidden c =
    let text = c.bank_to_text in
    text_hidden c.args.bank.now c.args.out.now text.new.out (number c.in-Err.refusal.rule) c.requires _ (rw c.in-Err.is at text.ensures)

pub refused_reply-requires : goal.refused_reply-requires
refused_reply-requires c =
    let (a, e) = hidden (goal.at.refused_reply-requires c).In-Err in
    (rw c.number.ensures a, omega (arith, ap length e, c.requires))

pub returns-in-Err : goal.returns-in-Err
returns-in-Err c =
    let (a, e) = hidden (goal.at.returns-in-Err c).In-Err in
    rw e at c.refused_reply.ensures

-- where it is written, it stands behind the place of its letter
pub put_letter-requires : goal.put_letter-requires
put_letter-requires c = let w = text_shown c.args.bank.now c.args.out.now c.bank_to_text.new.out c.in-Ok.written.length c.requires _ (rw c.in-Ok.is at c.bank_to_text.ensures) in omega (arith, w.0)

pub returns-in-Ok : goal.returns-in-Ok
returns-in-Ok c =
    let w = text_shown c.args.bank.now c.args.out.now c.bank_to_text.new.out c.in-Ok.written.length c.requires _ (rw c.in-Ok.is at c.bank_to_text.ensures) in
    w.1 c.put_letter.result c.put_letter.new.out c.put_letter.ensures
