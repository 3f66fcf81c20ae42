-- The invariant: the first i bytes are copied.
use mathlib.Core.Path.{◌≡◌}
use lib.ListN.{take}
use Rattle.numeral.specs.Numeral.{splice}
use Rattle.digits.proofs.put_bytes.Given as goal

abbrev pub invariant-loop-i : goal.invariant-loop-i
invariant-loop-i l = l.out ≡ splice l.initial.out l.at (take l.i l.src)
