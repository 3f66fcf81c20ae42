-- `screen` meets its contract: each arm rewrites the definition's tests.
use Rattle.std.proofs.Common.{arith}
use Rattle.std.proofs.lemmas.Bool.Decides.{nat_tests}
use Rattle.rules.specs.Screen.{screen}
use Rattle.codec.proofs.screen.Goals as goal

pub returns-in-0-clause-shown : goal.returns-in-0-clause-shown
unfolding screen
returns-in-0-clause-shown c = grind (arith, nat_tests)

pub returns-in-11-to-19-clause-shown : goal.returns-in-11-to-19-clause-shown
unfolding screen
returns-in-11-to-19-clause-shown c = grind (arith, nat_tests)

pub returns-in_default-clause-shown : goal.returns-in_default-clause-shown
unfolding screen
returns-in_default-clause-shown c = grind (arith, nat_tests)
