-- The invariant: i digits are left to write, of the value `rest`; once they are written, the whole text is.
use mathlib.Core.Path.{◌≡◌}
use Rattle.numeral.specs.Numeral.{numeral, splice}
use Rattle.rules.specs.Bytes.{digits_text}
use Rattle.digits.proofs.put_digits.Given as goal

abbrev pub invariant-loop-i : goal.invariant-loop-i
invariant-loop-i l = splice l.out l.at (digits_text (numeral 10 l.i l.rest)) ≡ splice l.initial.out l.at (digits_text (numeral 10 l.n l.v))
