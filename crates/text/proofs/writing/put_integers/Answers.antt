-- Five pieces: three integers, and the dots between them.
use Rattle.digits.proofs.Joins.{then}
use Rattle.text.proofs.writing.put_integers.Goals as goal

pub returns : goal.returns
returns c =
    then c.put_integer.ensures.adds (then c.byte.ensures (then c.put_integer-2.ensures.adds (then c.byte-2.ensures c.put_integer-3.ensures.adds)))
