use mathlib.Core.Path.{sym}
use native.Mathlib.Omega.{arith}
use Rattle.numeral.proofs.Values.{value_nil}
use Rattle.bank.proofs.Strings.{next_character, fits}
use Rattle.bank.proofs.eights.joined.Goals as goal

pub loop-c-init : goal.loop-c-init
loop-c-init c = sym (value_nil 128)

pub overflow_mul-v : goal.overflow_mul-v
overflow_mul-v c = omega (arith, fits c.args.characters.now c.requires.0 c.requires.1 c.loop-c.c-index c.loop-c-test.true)

pub overflow_add-v : goal.overflow_add-v
overflow_add-v c = omega (arith, fits c.args.characters.now c.requires.0 c.requires.1 c.loop-c.c-index c.loop-c-test.true)

pub loop-c-preserved : goal.loop-c-preserved
loop-c-preserved c = omega (arith, next_character c.args.characters.now c.requires.0 c.requires.1 c.loop-c.c-index c.loop-c-test.true)
