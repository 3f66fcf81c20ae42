-- A word has at most 20 digits.
use native.Mathlib.Omega.{arith}
use borrow.Author.Rules.{rules}
use Rattle.digits.proofs.Joins.{integer_end}
use Rattle.text.proofs.Rooms.{word_short}
use Rattle.text.proofs.writing.put_integer.Goals as goal

pub decimal-requires : goal.decimal-requires
decimal-requires c = omega (arith, word_short c.args.v (search rules), c.requires)

pub returns : goal.returns
returns c =
    let adds = c.decimal.ensures in
    record { adds = adds; upper_bound = omega (arith, integer_end c.args.v adds, word_short c.args.v (search rules)) }
