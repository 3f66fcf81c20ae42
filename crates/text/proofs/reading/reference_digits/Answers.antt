-- `reference_digits` meets its contract: the prefix picks a row, whose reference has few digits.
use Prim.Native.Nat.{◌<◌}
use mathlib.Core.Path.{ap, ◌∙◌}
use native.Mathlib.Omega.{arith}
use Rattle.rules.specs.Schemes.{row_at, cell}
use Rattle.rules.proofs.Rows.{row_picked}
use Rattle.scheme.proofs.Widths.{few_digits}
use Rattle.text.proofs.reading.reference_digits.Goals as goal
use Rattle.text.proofs.reading.reference_digits.Goals.{After-by_digits}

-- the partition value is one of the seven
row : (c : After-by_digits) → c.by_digits.result < 7
row c = rw c.by_digits.ensures (row_picked c.args.prefix c.requires.0 c.requires.1).0

pub returns : goal.returns
returns c =
    let t = c.args.t in
    let p = c.by_digits.result in
    let e = ap (λ x. x.digits) c.reference.ensures in
    record { value = e ∙ ap (λ p. (cell t (row_at p)).1) c.by_digits.ensures; upper_bound = rw e (omega (arith, few_digits t p (row (goal.at.returns c).After-by_digits))) }

pub reference-requires : goal.reference-requires
reference-requires c = row c
