-- The company comes first; in each arm what follows it is known, and the pieces are joined.
use native.Mathlib.Omega.{arith}
use Rattle.digits.proofs.Joins.{then}
use Rattle.text.proofs.writing.put_body.Goals as goal

pub put_last-requires : goal.put_last-requires
put_last-requires c =
    (rw c.in-Then.is at c.requires.1, omega (arith, c.byte.ensures.puts.end, c.byte.ensures.size, c.put_reference.ensures.upper_bound, c.put_reference.ensures.adds.size, c.put_company.ensures.upper_bound, c.put_company.ensures.adds.size, c.requires.2))

pub returns-in-Then : goal.returns-in-Then
returns-in-Then c =
    rw c.in-Then.is (then c.put_company.ensures.adds (then c.put_reference.ensures.adds (then c.byte.ensures c.put_last.ensures)))

pub returns-in-Zeros : goal.returns-in-Zeros
returns-in-Zeros c =
    rw c.in-Zeros.is (then c.put_company.ensures.adds c.put_reference-in-Zeros.ensures.adds)

pub returns-in-E : goal.returns-in-E
returns-in-E c =
    rw c.in-E.is (then c.put_company.ensures.adds c.put_integer.ensures.adds)
