-- The prefix picks the row, and the row the integer's bits.
use Prim.Native.Nat.{◌<◌}
use mathlib.Core.Path.{refl, sym, ap, ◌∙◌}
use native.Mathlib.Omega.{arith}
use lib.ListN.{length}
use Rattle.std.proofs.lemmas.List.{take_rest}
use Rattle.rules.specs.declared.Scheme.TheVariants.{Giai96}
use Rattle.rules.specs.declared.Body.TheVariants.{E}
use Rattle.rules.specs.Schemes.{company, integer, asset_bits, row_at, row_of}
use Rattle.rules.specs.Bytes.{behind, dot}
use Rattle.rules.specs.Grammar.{prefix, body_layout}
use Rattle.rules.proofs.Rows.{row_picked}
use Rattle.parts.specs.declared.parts.Form.TheVariants.{Prefix}
use Rattle.text.proofs.Found.{Standing, stands, no_part}
use Rattle.identify.specs.Words.{fitting}
use Rattle.identify.proofs.Pieces.{held_body, part_fits, part_not, six_to_twelve}
use Rattle.scheme.proofs.Widths.{few_bits}
use Rattle.identify.proofs.judge.asset.Goals as goal
use Rattle.identify.proofs.judge.asset.Goals.{After-by_digits-row, In-Ok}

-- the prefix, from the place where it is known
there : (c : In-Ok) → Standing 5 Prefix c.args.x.now 0 c.in-Ok.prefix
there c = stands 5 Prefix c.args.x.now 0 (omega arith) c.in-Ok.prefix (rw (c.start.ensures.text, c.start.ensures.at) at c.in-Ok.ensures)

row : (c : After-by_digits-row) → c.by_digits-row.result < 7
row c = let (l, u) = six_to_twelve (there (goal.at.After-by_digits-row c).In-Ok) in rw c.by_digits-row.ensures (row_picked _ l u).0

pub by_digits-row-requires : goal.by_digits-row-requires
by_digits-row-requires c = six_to_twelve (there c)

pub asset-requires : goal.asset-requires
asset-requires c = row (goal.at.asset-requires c).After-by_digits-row

pub is_integer-requires : goal.is_integer-requires
is_integer-requires c =
    omega (arith, c.asset.ensures, few_bits c.by_digits-row.result (row (goal.at.is_integer-requires c).After-by_digits-row))

pub slice_bounds-is_integer-count : goal.slice_bounds-is_integer-count
slice_bounds-is_integer-count c = (there (goal.at.slice_bounds-is_integer-count c).In-Ok).within

pub slice_bounds-is_integer-start : goal.slice_bounds-is_integer-start
slice_bounds-is_integer-start c = (there (goal.at.slice_bounds-is_integer-start c).In-Ok).within

pub returns : goal.returns
returns c =
    let x = c.args.x.now in
    let s = there (goal.at.returns c).In-Ok in
    let bits = c.asset.ensures ∙ ap (λ p. asset_bits (row_at p)) c.by_digits-row.ensures ∙ ap (λ n. asset_bits (row_of n)) s.digits_are in
    c.is_integer.ensures ∙ ap (fitting (integer c.asset.result)) (take_rest x c.in-Ok.prefix.next ∙ s.rest) ∙ ap (λ n. fitting (integer n) (behind dot x)) bits
    ∙ sym (held_body Giai96 E x refl ∙ part_fits prefix company (λ ds. body_layout E (length ds)) x 5 0 s.part s.read)

pub returns-in_default : goal.returns-in_default
returns-in_default c =
    let x = c.args.x.now in
    let (m, j, q, _) = no_part 0 _ _ (rw (c.start.ensures.text, c.start.ensures.at) at c.in_default.ensures) in
    sym (held_body Giai96 E x refl ∙ part_not prefix company (λ ds. body_layout E (length ds)) x 5 0 m j q)
