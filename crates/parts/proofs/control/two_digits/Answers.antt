-- Each digit is worth less than 16.
use mathlib.Core.Path.{sym, ◌∙◌}
use native.Mathlib.Omega.{arith}
use Rattle.digits.proofs.Hexes.{digit_of_value}
use Rattle.parts.proofs.control.two_digits.Goals as goal

pub overflow_mul-result : goal.overflow_mul-result
overflow_mul-result c = omega (arith, (digit_of_value c.args.first c.in_ok-high.high (sym c.hex_value.ensures ∙ c.in_ok-high.was)).0)

pub overflow_add-result : goal.overflow_add-result
overflow_add-result c = omega (arith, (digit_of_value c.args.first c.in_ok-high.high (sym c.hex_value.ensures ∙ c.in_ok-high.was)).0, (digit_of_value c.args.second c.in_ok-low.low (sym c.hex_value-2.ensures ∙ c.in_ok-low.was)).0)
