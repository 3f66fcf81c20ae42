-- The piece is the n lowest digits of v.
use Rattle.std.proofs.Common.{refl}
use Rattle.digits.proofs.Joins.{number_put}
use Rattle.digits.proofs.Output.digits.Goals as goal

pub returns : goal.returns
returns c =
    let put = c.put_digits in
    record { output = refl; size = put.auto.out; puts = number_put c.args.n c.args.v c.args.self.now.at put.ensures }
