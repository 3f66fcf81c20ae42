-- The invariant: n digits of the run are passed, and `value` is their value.
use Rattle.digits.proofs.Runs.{Passed}
use Rattle.digits.proofs.leading_digits.Given as goal

abbrev pub invariant-loop-n : goal.invariant-loop-n
invariant-loop-n l = Passed 19 l.text l.n l.value
