-- The start of the identity is written, and the parts behind it.
use mathlib.Core.Path.{ap}
use native.Mathlib.Omega.{arith}
use borrow.Author.Rules.{rules}
use lib.ListN.{length}
use Rattle.digits.proofs.Joins.{then, begun}
use Rattle.identify.proofs.Names.{start_size}
use Rattle.identify.proofs.put_identity.Goals as goal

pub put_start-requires : goal.put_start-requires
put_start-requires c = omega (arith, c.new-w.ensures.start, ap length c.new-w.ensures.bytes, c.requires.1)

pub put-requires : goal.put-requires
put-requires c =
    omega (arith, c.put_start.ensures.puts.end, c.put_start.ensures.size, start_size c.family_of.result, c.new-w.ensures.start, ap length c.new-w.ensures.bytes, c.requires.0, c.requires.1)

pub returns : goal.returns
returns c =
    let identity = rw c.family_of.ensures at (begun c.new-w.ensures (then c.put_start.ensures c.put.ensures)) in
    record { end = identity.end; bytes = search rules }
