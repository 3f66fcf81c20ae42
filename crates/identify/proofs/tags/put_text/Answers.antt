-- The pieces of a tag text, one after the other.
use Prim.Native.Nat.{◌≤◌}
use mathlib.Core.Path.{◌≡◌, ap}
use native.Mathlib.Omega.{arith}
use borrow.Author.Rules.{rules}
use lib.ListN.{length}
use Rattle.rules.specs.Schemes.{about}
use Rattle.rules.specs.Grammar.{start}
use Rattle.digits.specs.Pieces.{Puts}
use Rattle.digits.proofs.Joins.{then, begun}
use Rattle.text.proofs.Rooms.{label_short}
use Rattle.identities.specs.Numbers.{tag_text}
use Rattle.identities.proofs.Lengths.{filter_length}
use Rattle.identify.proofs.tags.put_text.Goals as goal
use Rattle.identify.proofs.tags.put_text.Goals.{After-put-2, After-put-3}

pub put-requires : goal.put-requires
put-requires c = omega (arith, c.new-w.ensures.start, ap length c.new-w.ensures.bytes, c.requires.1)

pub put-requires-2 : goal.put-requires-2
put-requires-2 c =
    omega (arith, c.put.ensures.puts.end, c.put.ensures.size, c.new-w.ensures.start, ap length c.new-w.ensures.bytes, ap length c.label.ensures, label_short c.args.s, c.requires.1)

-- the name ends at most 22 bytes behind the start, and the output is as long as the lent one
behind_name : (c : After-put-2) → (c.put-2.new.self.at ≤ 22) × (length c.put-2.new.self.out.now ≡ length c.args.out.now)
behind_name c = (
  omega (arith, c.put-2.ensures.puts.end, ap length c.label.ensures, label_short c.args.s, c.put.ensures.puts.end, c.new-w.ensures.start),
  omega (arith, c.put-2.ensures.size, c.put.ensures.size, ap length c.new-w.ensures.bytes),
)

pub put_filter-requires : goal.put_filter-requires
put_filter-requires c =
    let (e, l) = behind_name (goal.at.put_filter-requires c).After-put-2 in
    (c.requires.0, omega (arith, e, l, c.requires.1))

pub put-requires-3 : goal.put-requires-3
put-requires-3 c =
    let (e, l) = behind_name (goal.at.put-requires-3 c).After-put-2 in
    omega (arith, e, l, c.put_filter.ensures.puts.end, c.put_filter.ensures.size, filter_length (about c.args.s).parts c.args.filter, c.requires.1)

-- the pieces together
pieces : (c : After-put-3) → Puts (tag_text c.args.filter c.args.body.now c.args.s) 0 c.args.out.now c.put-3.new.self.at c.put-3.new.self.out.now
unfolding start
pieces c =
    let name = rw c.label.ensures at c.put-2.ensures in
    begun c.new-w.ensures (then c.put.ensures (then name (then c.put_filter.ensures c.put-3.ensures)))

pub returns : goal.returns
returns c =
    let text = pieces (goal.at.returns c).After-put-3 in
    record { end = text.end; bytes = search rules }
