-- The filter and the partition value are six bits, and the row's bits of the prefix follow.
use Prim.Native.Nat.{◌+◌, ◌*◌, ◌<◌}
use mathlib.Core.Path.{◌≡◌, ap, ap₂, ◌∙◌}
use mathlib.Core.List.{◌++◌}
use native.Mathlib.Omega.{arith}
use lib.Dec.{lit≤}
use Rattle.numeral.specs.Numeral.{numeral}
use Rattle.numeral.proofs.Values.{length_numeral}
use Rattle.rules.specs.Schemes.{prefix_bits, row_at, row_of}
use Rattle.bank.proofs.PackedRows.{company_row, company_narrow, prefix_lt, company_is}
use Rattle.bank.proofs.Rooms.{takes, left, same_bits, then}
use Rattle.bank.proofs.writing.put_company.Goals as goal
use Rattle.bank.proofs.writing.put_company.Goals.{After-by_digits-p, After-prefix-cell}

pub prefix-cell-requires : goal.prefix-cell-requires
prefix-cell-requires c = rw c.by_digits-p.ensures (company_row c.requires.1)

-- the bits of the prefix, and the six before it
width : (c : After-prefix-cell) → c.prefix-cell.result.bits ≡ prefix_bits (row_of c.args.tag.digits)
width c = ap (λ k. k.bits) c.prefix-cell.ensures ∙ ap (λ p. prefix_bits (row_at p)) c.by_digits-p.ensures

six : (c : After-by_digits-p) → c.args.tag.filter * 8 + c.by_digits-p.result < 64
six c = omega (arith, c.by_digits-p.ensures, company_row c.requires.1, c.requires.1.filter)

pub push-requires : goal.push-requires
push-requires c = takes c.requires.0 6 _ (lit≤ tt) (lit≤ tt) (six (goal.at.push-requires c).After-by_digits-p)

pub push-requires-2 : goal.push-requires-2
push-requires-2 c =
    let cell = (goal.at.push-requires-2 c).After-prefix-cell in
    rw (width cell)
    (takes (left c.push.ensures {m = 40} c.requires.0 (rw length_numeral (lit≤ tt))) (prefix_bits (row_of c.args.tag.digits)) c.args.tag.prefix (omega (arith, company_narrow c.requires.1)) (company_narrow c.requires.1) (prefix_lt c.requires.1))

pub returns : goal.returns
returns c =
    let cell = (goal.at.returns c).After-prefix-cell in
    let tag = c.args.tag in
    let bits = ap₂ (λ v w. numeral 2 6 (tag.filter * 8 + v) ++ numeral 2 w tag.prefix) c.by_digits-p.ensures (width cell) in
    same_bits (then c.push.ensures c.push-2.ensures) (bits ∙ company_is c.requires.1)

pub overflow_add-tag : goal.overflow_add-tag
overflow_add-tag c = omega (arith, six (goal.at.overflow_add-tag c).After-by_digits-p)
