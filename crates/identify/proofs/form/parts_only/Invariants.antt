-- The invariant: the whole text is right exactly if it is from i on.
use Prim.Native.Nat.{◌-◌, ◌≤◌}
use mathlib.Core.Path.{◌≡◌}
use lib.ListN.{length, drop}
use Rattle.identities.specs.Numbers.{parts_only}
use Rattle.identify.proofs.form.parts_only.Given as goal

abbrev pub invariant-loop-i : goal.invariant-loop-i
invariant-loop-i l = (l.i ≤ length l.x) × (parts_only l.x ≡ parts_only (drop l.i l.x))

abbrev pub decreases-loop-i : goal.decreases-loop-i
decreases-loop-i l = length l.x - l.i
