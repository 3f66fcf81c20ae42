-- The prefix picks the row, and the row the digits of the reference.
use Prim.Native.Nat.{◌<◌}
use mathlib.Core.Path.{sym, ap, ◌∙◌}
use native.Mathlib.Omega.{arith}
use lib.ListN.{length}
use Rattle.std.proofs.lemmas.List.{take_rest}
use Rattle.rules.specs.declared.Body.TheVariants.{Then}
use Rattle.rules.specs.Bytes.{behind, dot}
use Rattle.rules.specs.Schemes.{company, counted, last_form, cell, row_at, row_of}
use Rattle.rules.specs.Grammar.{prefix, body_layout, part, end, reference, last}
use Rattle.rules.proofs.Rows.{row_picked}
use Rattle.parts.specs.Parts.{form_of}
use Rattle.parts.specs.declared.parts.Form.TheVariants.{Prefix}
use Rattle.scheme.proofs.Widths.{few_digits}
use Rattle.text.proofs.Found.{Standing, stands}
use Rattle.identify.specs.Words.{fits_in}
use Rattle.identify.proofs.Pieces.{part_fits, any_bits, six_to_twelve}
use Rattle.identify.proofs.fits.spelled.Goals as goal
use Rattle.identify.proofs.fits.spelled.Goals.{After-by_digits-row, In-Ok}

-- the prefix, from the place where it is known
there : (c : In-Ok) → Standing 5 Prefix c.args.x.now 0 c.in-Ok.prefix
there c = stands 5 Prefix c.args.x.now 0 (omega arith) c.in-Ok.prefix (rw (c.start.ensures.text, c.start.ensures.at) at c.in-Ok.ensures)

row : (c : After-by_digits-row) → c.by_digits-row.result < 7
row c = let (l, u) = six_to_twelve (there (goal.at.After-by_digits-row c).In-Ok) in rw c.by_digits-row.ensures (row_picked _ l u).0

pub by_digits-row-requires : goal.by_digits-row-requires
by_digits-row-requires c = six_to_twelve (there c)

pub reference-requires : goal.reference-requires
reference-requires c = row c

pub reference_form-reference-requires : goal.reference_form-reference-requires
reference_form-reference-requires c =
    omega (arith, ap (λ r. r.digits) c.reference.ensures, few_digits c.args.t c.by_digits-row.result (row (goal.at.reference_form-reference-requires c).After-by_digits-row))

pub then-requires : goal.then-requires
then-requires c = (c.reference_form-reference.ensures.short, c.requires)

pub slice_bounds-then-count : goal.slice_bounds-then-count
slice_bounds-then-count c = (there (goal.at.slice_bounds-then-count c).In-Ok).within

pub slice_bounds-then-start : goal.slice_bounds-then-start
slice_bounds-then-start c = (there (goal.at.slice_bounds-then-start c).In-Ok).within

pub returns : goal.returns
returns c =
    let x = c.args.x.now in
    let t = c.args.t in
    let l = c.args.l in
    let s = there (goal.at.returns c).In-Ok in
    let n = length s.part in
    let most = ap (λ r. r.digits) c.reference.ensures ∙ ap (λ p. (cell t (row_at p)).1) c.by_digits-row.ensures ∙ ap (λ n. (cell t (row_of n)).1) s.digits_are in
    let form = c.reference_form-reference.ensures.result_value ∙ ap (counted t 0) most in
    c.then.ensures
    ∙ ap (fits_in (part reference (form_of c.reference_form-reference.result) λ _. end last (last_form l))) (take_rest x c.in-Ok.prefix.next ∙ s.rest)
    ∙ ap (λ f. fits_in (part reference f λ _. end last (last_form l)) (behind dot x)) form
    ∙ any_bits t 0 (cell t (row_of n)).0 (cell t (row_of n)).1 (λ _. end last (last_form l)) (behind dot x)
    ∙ sym (part_fits prefix company (λ ds. body_layout (Then t l) (length ds)) x 5 0 s.part s.read)
