-- Five bits count the words.
use native.Mathlib.Omega.{arith}
use Rattle.rules.proofs.BankReads.{at_lt}
use Rattle.fields.proofs.control.words.Goals as goal

pub size-requires : goal.size-requires
size-requires c = omega (arith, c.word_count-words.ensures, at_lt c.args.bank.now 0x10 5)
