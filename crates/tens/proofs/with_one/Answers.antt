-- The power and the digits behind it are the integer, which is below 2 * 10^17.
use mathlib.Core.Path.{◌∙◌, ap}
use Prim.Native.Nat.{◌+◌}
use native.Mathlib.Omega.{arith}
use Rattle.tens.proofs.Numerals.{power_le, one_before_lem}
use Rattle.tens.proofs.with_one.Goals as goal

pub overflow_add-result : goal.overflow_add-result
overflow_add-result c = let s = c.before in omega (arith, c.power.ensures, s.requires, power_le s.args.count 17 s.requires.0)

pub returns : goal.returns
returns c = let s = c.before in ap (◌+ s.args.value) c.power.ensures ∙ one_before_lem s.args.count s.args.value s.requires.1
