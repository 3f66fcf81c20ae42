-- A word of 64 bits has its own zeros in front of those of the narrower number.
use native.Mathlib.Omega.{arith}
use Rattle.fields.proofs.Zeros.{zeros_before}
use Rattle.fields.proofs.bitreader.zeros_before.Goals as goal

pub overflow_sub-result : goal.overflow_sub-result
overflow_sub-result c = omega (arith, zeros_before c.args.v c.args.width c.requires.0 c.requires.1)

pub returns : goal.returns
returns c = omega (arith, zeros_before c.args.v c.args.width c.requires.0 c.requires.1)
