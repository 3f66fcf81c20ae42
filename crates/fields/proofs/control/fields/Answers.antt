-- A field of one bit, and one of eight, each fits a byte.
use native.Mathlib.Omega.{arith}
use Rattle.rules.proofs.BankReads.{at_lt}
use Rattle.fields.proofs.control.fields.Goals as goal

pub overflow_cast-result : goal.overflow_cast-result
overflow_cast-result c = omega (arith, c.field_at.ensures, at_lt c.args.bank.now 0x15 1)

pub overflow_cast-result-2 : goal.overflow_cast-result-2
overflow_cast-result-2 c = omega (arith, c.field_at-2.ensures, at_lt c.args.bank.now 0x18 8)
