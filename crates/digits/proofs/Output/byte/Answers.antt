-- One store is a piece of one byte.
use Rattle.std.proofs.Common.{refl}
use Rattle.digits.proofs.Joins.{byte_put}
use Rattle.digits.proofs.Output.byte.Goals as goal
use borrow.Author.Rules.{rules}

pub returns : goal.returns
returns c =
    let w = c.args.self.now in
    record { output = refl; size = search rules; puts = byte_put w.out.now w.at c.args.b (search rules) }
