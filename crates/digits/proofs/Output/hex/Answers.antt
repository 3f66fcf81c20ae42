-- The piece is two digits for each byte.
use Rattle.std.proofs.Common.{refl}
use Rattle.digits.proofs.Texts.{length_hex}
use Rattle.digits.proofs.Output.hex.Goals as goal

pub returns : goal.returns
returns c =
    let put = c.put_hex in
    record { output = refl; size = put.auto.out; puts = record { end = rw length_hex; bytes = put.ensures } }
