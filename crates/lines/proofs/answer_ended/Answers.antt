use Prim.Native.Nat.{◌+◌}
use native.Mathlib.Omega.{arith}
use lib.ListN.{length}
use borrow.Author.Tests.{le-leb}
use Rattle.replies.specs.Writing.{reply_room}
use Rattle.replies.proofs.Pieces.{part, back}
use Rattle.lines.proofs.Passes.{Passed, has_room, passed_more, passed_all}
use Rattle.lines.proofs.answer_ended.Goals as goal
use Rattle.lines.proofs.answer_ended.Goals.{After-reply-written}

-- one more line is answered
next : (c : After-reply-written) → Passed c.args.program c.args.input.now (part c.loop-n.rest.now (c.in-Some.n + 1)) c.args.out.now (back c.loop-n.out c.loop-n.written c.reply-written.new.out) (c.loop-n.written + c.reply-written.result)
next c =
    let v = c.loop-n in
    let room = has_room c.args.program c.args.input.now v.rest.now c.args.out.now v.out v.written v.invariant in
    passed_more c.args.program c.args.input.now v.rest.now c.args.out.now v.out v.written v.invariant c.in-Some.n c.in-Some.ensures.0 c.in-Some.ensures.1
    c.reply-written.result c.reply-written.new.out (rw (le-leb reply_room (length (part v.out v.written)) room) at c.reply-written.ensures)

pub overflow_add-written : goal.overflow_add-written
overflow_add-written c = let n = next (goal.at.overflow_add-written c).After-reply-written in omega (arith, n.few, n.room, n.within)

pub loop-n-preserved : goal.loop-n-preserved
loop-n-preserved c = next (goal.at.loop-n-preserved c).After-reply-written

pub returns : goal.returns
returns c =
    let v = c.loop-n in
    let all = passed_all c.args.program c.args.input.now v.rest.now c.args.out.now v.out v.written v.invariant c.in_default.ensures in
    record { read_value = all.0; wrote = all.1 }
