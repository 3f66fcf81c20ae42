-- The reference goes into the bits that the row has for it.
use mathlib.Core.Path.{◌≡◌, ap, ◌∙◌}
use native.Mathlib.Omega.{arith}
use Rattle.rules.specs.Schemes.{cell, row_at, row_of}
use Rattle.bank.proofs.PackedRows.{reference_row, reference_narrow, reference_lt}
use Rattle.bank.proofs.Rooms.{takes}
use Rattle.bank.proofs.writing.put_reference.Goals as goal
use Rattle.bank.proofs.writing.put_reference.Goals.{After-reference-cell}

pub reference-cell-requires : goal.reference-cell-requires
reference-cell-requires c = rw c.by_digits.ensures (reference_row c.requires.1)

width : (c : After-reference-cell) → let s = c.args in c.reference-cell.result.bits ≡ (cell s.t (row_of s.tag.digits)).0
width c = ap (λ k. k.bits) c.reference-cell.ensures ∙ ap (λ p. (cell c.args.t (row_at p)).0) c.by_digits.ensures

pub push-requires : goal.push-requires
push-requires c =
    rw (width (goal.at.push-requires c).After-reference-cell) (takes c.requires.0 (cell c.args.t (row_of c.args.tag.digits)).0 c.args.tag.reference (omega (arith, reference_narrow c.requires.1)) (reference_narrow c.requires.1) (reference_lt c.requires.1))
