-- In each arm the last part is known: an integer, the characters of the record, or the digits of a numeric string.
use native.Mathlib.Omega.{arith}
use lib.Seq.{length-take-le}
use Rattle.text.proofs.writing.put_last.Goals as goal

pub write-requires : goal.write-requires
write-requires c =
    let held = rw c.in-String.is at c.requires.0 in
    let n = length-take-le c.args.tag.count c.args.tag.characters (omega (arith, held)) in
    omega (arith, n, held, c.requires.1)

pub digits-requires : goal.digits-requires
digits-requires c =
    let held = rw c.in-Numeric.is at c.requires.0 in
    omega (arith, held, c.requires.1)

pub returns-in-Integer : goal.returns-in-Integer
returns-in-Integer c = rw c.in-Integer.is c.put_integer.ensures.adds

pub returns-in-String : goal.returns-in-String
returns-in-String c = rw c.in-String.is c.write.ensures

pub returns-in-Numeric : goal.returns-in-Numeric
returns-in-Numeric c = rw c.in-Numeric.is c.digits.ensures
