-- The invariant: the first one of all bits is the first one of those from `at` on, of which `width` are in its byte. The measure is what is left of
-- them.
use Prim.Native.Nat.{◌-◌, ◌%◌, ◌≤◌}
use mathlib.Core.Path.{◌≡◌}
use Rattle.fields.specs.BitReaders.{first_one}
use Rattle.fields.proofs.bitreader.first_one.Given as goal

abbrev pub invariant-loop-at : goal.invariant-loop-at
invariant-loop-at l = (l.at.0 ≤ l.end) × (first_one l.bank l.initial.at.0 l.end ≡ first_one l.bank l.at.0 l.end) × (l.width ≡ 8 - l.at.0 % 8)

abbrev pub decreases-loop-at : goal.decreases-loop-at
decreases-loop-at l = l.end - l.at.0
