-- Each of the three ways is a law of `Turns`.
use Prim.Native.Nat.{◌≤◌}
use mathlib.Core.Path.{sym, ◌∙◌}
use native.Mathlib.Omega.{arith}
use lib.ListN.{length}
use borrow.Author.Tests.{leb-true, leb-false}
use Rattle.lines.specs.Lines.{input_room}
use Rattle.lines.proofs.Turns.{whole_within, no_room, at_end, goes_on}
use Rattle.lines.proofs.turn.Goals as goal
use Rattle.lines.proofs.turn.Goals.{Else-not-has_room}

pub returns-then-not-has_room : goal.returns-then-not-has_room
returns-then-not-has_room c =
    no_room c.args.program c.args.kept c.args.input.now c.args.out.now (leb-false _ _ (sym c.has_room.ensures ∙ c.if-not-has_room.true))

-- the output has the room
room : (c : Else-not-has_room) → input_room c.args.input.now ≤ length c.args.out.now
room c = leb-true _ _ (sym c.has_room.ensures ∙ c.if-not-has_room.false)

pub end_reply-written-requires : goal.end_reply-written-requires
end_reply-written-requires c = omega (arith, room (goal.at.end_reply-written-requires c).Else-not-has_room)

pub returns-then-input-kept : goal.returns-then-input-kept
returns-then-input-kept c =
    let r = c.end_reply-written in
    at_end c.args.program c.args.kept c.args.input.now c.args.out.now (room (goal.at.returns-then-input-kept c).Else-not-has_room) r.result r.new.out c.if-input-kept.true r.ensures

pub answer_ended-done-requires : goal.answer_ended-done-requires
answer_ended-done-requires c = room (goal.at.answer_ended-done-requires c).Else-not-has_room

pub hold-held-requires : goal.hold-held-requires
hold-held-requires c = omega (arith, c.answer_ended-done.ensures.read_value, whole_within c.args.input.now)

pub returns : goal.returns
returns c =
    goes_on c.args.program c.args.kept c.args.input.now c.args.out.now (room (goal.at.returns c).Else-not-has_room) c.answer_ended-done.result.written c.answer_ended-done.new.out c.if-input-kept.false c.answer_ended-done.ensures.wrote
    c.hold-held.result c.hold-held.new.input (rw c.answer_ended-done.ensures.read_value at c.hold-held.ensures)
