-- The row that the digits pick has the reference's digits, at most eleven.
use Prim.Native.Nat.{◌≤◌}
use mathlib.Core.Path.{◌≡◌, ap, ◌∙◌}
use native.Mathlib.Omega.{arith}
use Rattle.rules.specs.Schemes.{cell, row_of, row_at}
use Rattle.rules.proofs.Rows.{row_picked}
use Rattle.digits.proofs.Joins.{digits_end}
use Rattle.text.proofs.Rooms.{reference_short}
use Rattle.text.proofs.writing.put_row.Goals as goal
use Rattle.text.proofs.writing.put_row.Goals.{After-reference-cell}

pub reference-cell-requires : goal.reference-cell-requires
reference-cell-requires c =
    let company = c.requires.0 in
    omega (arith, c.by_digits.ensures, (row_picked c.args.tag.digits company.least company.most).0)

module _ (c : After-reference-cell) where
  digits_are : c.reference-cell.result.digits ≡ (cell c.args.table (row_of c.args.tag.digits)).1
  digits_are = ap (λ x. x.digits) c.reference-cell.ensures ∙ ap (λ p. (cell c.args.table (row_at p)).1) c.by_digits.ensures

  few : c.reference-cell.result.digits ≤ 11
  few =
      rw digits_are (reference_short c.args.table c.args.tag.digits c.requires.0.least c.requires.0.most)

pub digits-requires : goal.digits-requires
digits-requires c = omega (arith, few (goal.at.digits-requires c).After-reference-cell, c.requires.1)

pub returns : goal.returns
returns c =
    let reference = (goal.at.returns c).After-reference-cell in
    let adds = c.digits.ensures in
    record { adds = rw (← digits_are reference) adds; upper_bound = omega (arith, digits_end c.reference-cell.result.digits c.args.tag.reference adds, few reference) }
