-- The piece is the digits of v.
use Rattle.std.proofs.Common.{refl}
use Rattle.digits.proofs.Joins.{integer_put}
use Rattle.digits.proofs.Output.decimal.Goals as goal

pub returns : goal.returns
returns c =
    let put = c.put_decimal-self in
    record { output = refl; size = put.auto.out; puts = integer_put c.args.v put.ensures.value put.ensures.out_after }
