-- The invariant: the digits from index i on are stored, and with those that are left, of what is left of the number, all are.
use mathlib.Core.Path.{◌≡◌}
use Prim.Native.Nat.{◌-◌, ◌≤◌}
use Rattle.numeral.specs.Numeral.{numeral, splice}
use Rattle.bits.proofs.split.Given as goal

abbrev pub invariant-loop-i : goal.invariant-loop-i
invariant-loop-i l =
    (l.from ≤ l.i) × (splice l.out l.from (numeral l.base (l.i - l.from) l.rest) ≡ splice l.initial.out l.from (numeral l.base l.n l.v))
