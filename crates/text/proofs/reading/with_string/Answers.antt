-- `with_string` meets its contract: the reference stands before its dot, the string is the rest.
use mathlib.Core.Path.{sym, ap, ◌∙◌}
use Rattle.std.specs.Prelude.{Ok, Err}
use Rattle.parts.proofs.Standing.{ahead_is}
use Rattle.text.proofs.Found.{Standing, stands}
use Rattle.text.proofs.Lasts.{behind_none, behind_long, behind_taken}
use Rattle.text.proofs.reading.with_string.Goals as goal
use Rattle.text.proofs.reading.with_string.Goals.{In_ok-part}

-- the reference, from the place where it is read
reference : (c : In_ok-part) → Standing 6 c.args.reference c.args.rest.text.now c.args.rest.at c.in_ok-part.part
reference c = let x = c.args in stands 6 x.reference x.rest.text.now x.rest.at x.rest.inside c.in_ok-part.part (sym c.in_ok-part.was ∙ c.part_at.ensures)

pub slice_bounds-read-count : goal.slice_bounds-read-count
slice_bounds-read-count c = (reference (goal.at.slice_bounds-read-count c).In_ok-part).within

pub slice_bounds-read-start : goal.slice_bounds-read-start
slice_bounds-read-start c = (reference (goal.at.slice_bounds-read-start c).In_ok-part).within

pub returns-in_default : goal.returns-in_default
returns-in_default c =
    let x = c.args in
    ap Err c.at.ensures
    ∙ behind_none x.head x.reference x.bits x.rest.text.now x.rest.at _ (reference (goal.at.returns-in_default c).In_ok-part) (rw (ahead_is x.rest.text.now c.in_ok-part.part.next) at (sym c.in_default.is ∙ c.read.ensures))

pub returns-then-bits-s : goal.returns-then-bits-s
returns-then-bits-s c =
    let x = c.args in
    ap Err c.at-then-bits-s.ensures
    ∙ behind_long x.head x.reference x.bits x.rest.text.now x.rest.at _ (reference (goal.at.returns-then-bits-s c).In_ok-part) _ (rw (ahead_is x.rest.text.now c.in_ok-part.part.next) at (sym c.in-Some.is ∙ c.read.ensures)) c.if-bits-s.true

pub returns : goal.returns
returns c =
    let x = c.args in
    ap Ok c.tagged.ensures
    ∙ behind_taken x.head x.reference x.bits x.rest.text.now x.rest.at _ (reference (goal.at.returns c).In_ok-part) _ (rw (ahead_is x.rest.text.now c.in_ok-part.part.next) at (sym c.in-Some.is ∙ c.read.ensures)) c.if-bits-s.false
