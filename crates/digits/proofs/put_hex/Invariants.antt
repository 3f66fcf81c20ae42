-- The invariant: the first i bytes are written.
use mathlib.Core.Path.{◌≡◌}
use lib.ListN.{take}
use Rattle.numeral.specs.Numeral.{splice}
use Rattle.rules.specs.Bytes.{hex_text}
use Rattle.digits.proofs.put_hex.Given as goal

abbrev pub invariant-loop-i : goal.invariant-loop-i
invariant-loop-i l = l.out ≡ splice l.initial.out l.at (hex_text (take l.i l.src))
