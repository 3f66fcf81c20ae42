-- The 1 stands at the highest power of ten that is not above the integer, or it is no such integer.
use mathlib.Core.Path.{◌∙◌}
use native.Mathlib.Omega.{arith}
use Rattle.tens.proofs.Numerals.{none_in_zero, none_there, numeric_read}
use Rattle.tens.proofs.behind_one.Goals as goal

pub returns-in_err-count : goal.returns-in_err-count
returns-in_err-count c = c.from_residual.ensures ∙ none_in_zero _ _ c.in_err-count.ensures.none

pub returns-then-count-eq0 : goal.returns-then-count-eq0
returns-then-count-eq0 c = let e = c.in_ok-count.ensures in none_there _ _ _ e.power_le e.next_power_gt λ r. omega arith

pub returns-then-one-value : goal.returns-then-one-value
returns-then-one-value c = let e = c.in_ok-count.ensures in none_there _ _ _ e.power_le e.next_power_gt λ r. omega arith

pub returns : goal.returns
returns c = numeric_read _ _ _ _ (omega arith) (omega arith) (omega arith) (omega (arith, c.in_ok-count.ensures))
