-- Two pieces: the literal is the start, and the label stands behind it.
use mathlib.Core.Path.{ap}
use native.Mathlib.Omega.{arith}
use lib.ListN.{length}
use Rattle.identities.specs.Grammar.{start}
use Rattle.digits.proofs.Joins.{then}
use Rattle.identify.proofs.Names.{label_size}
use Rattle.identify.proofs.families.put_start.Goals as goal

pub put-requires-2 : goal.put-requires-2
put-requires-2 c = omega (arith, c.put.ensures.puts.end, c.put.ensures.size, ap length c.label.ensures, label_size c.args.f, c.requires)

pub returns : goal.returns
unfolding start
returns c = then c.put.ensures (rw c.label.ensures at c.put-2.ensures)
