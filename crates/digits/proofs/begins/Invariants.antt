-- The invariant: the bytes so far are the same and the rest of the text begins with the rest of `start`, or the answer is no.
use Rattle.std.proofs.Common.{◌≡◌, ◌≤◌, length}
use mathlib.Core.Bool.{◌&&◌}
use Rattle.rules.specs.TextNumbers.{after}
use Rattle.digits.specs.Starts.{begun}
use Rattle.digits.proofs.begins.Given as goal

abbrev pub invariant-loop-x : goal.invariant-loop-x
invariant-loop-x l =
    (length l.x-iterator.a.rest.now ≤ length l.x-iterator.b.rest.now)
    × (begun (after l.start l.text) ≡ l.same && begun (after l.x-iterator.a.rest.now l.x-iterator.b.rest.now))
