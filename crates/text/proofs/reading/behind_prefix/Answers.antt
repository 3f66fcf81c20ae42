-- `behind_prefix` meets its contract: in each arm what follows the prefix is known.
use Prim.Native.Nat.{◌<◌}
use mathlib.Core.Path.{◌≡◌, sym, ap, ◌∙◌}
use native.Mathlib.Omega.{arith}
use lib.ListN.{drop}
use Rattle.rules.specs.declared.Last.{Last}
use Rattle.rules.specs.declared.Body.TheVariants.{Then}
use Rattle.rules.specs.declared.Parts.TheVariants.{F}
use Rattle.rules.specs.declared.Last.TheVariants.{Integer, String, Numeric}
use Rattle.rules.specs.Schemes.{Form, integer, string, numeric, counted, cell, row_at, row_of, asset_bits}
use Rattle.rules.specs.Grammar.{last, end}
use Rattle.rules.proofs.Rows.{row_picked}
use Rattle.scheme.specs.Outlines.{Narrow}
use Rattle.scheme.proofs.Widths.{few_bits}
use Rattle.parts.specs.Parts.{form_of}
use Rattle.text.specs.Reading.{referred, with_last, reference_alone, asset_alone, parts_of}
use Rattle.text.proofs.Lasts.{row_behind, row_alone, numeric_alike}
use Rattle.text.proofs.reading.behind_prefix.Goals as goal
use Rattle.text.proofs.reading.behind_prefix.Goals.{After-by_digits, After-reference_form-reference}

-- the limits of a last part, once it is known
limits : (form : After-reference_form-reference) {l : Last} → form.in-Then.l ≡ l → Narrow (F (Then form.in-Then.t l))
limits form e =
    rw (form.in-Then.is, e) at form.requires.0

pub with_integer-requires : goal.with_integer-requires
with_integer-requires c =
    let form = (goal.at.with_integer-requires c).After-reference_form-reference in
    (c.reference_form-reference.ensures.short, omega (arith, limits form c.in-Integer.is))

pub with_numeric-requires : goal.with_numeric-requires
with_numeric-requires c =
    let form = (goal.at.with_numeric-requires c).After-reference_form-reference in
    (c.reference_form-reference.ensures.short, omega (arith, limits form c.in-Numeric.is))

-- the reference has the form of the row's digits
of_row : (form : After-reference_form-reference) (l : Last) (g : Form)
    → let t = form.in-Then.t in
    let x = form.args in
    with_last x.head l (parts_of x.rest (referred (form_of form.reference_form-reference.result) g))
    ≡ with_last x.head l (parts_of x.rest (referred (counted t (cell t (row_of x.head.digits)).0 form.reference_digits.result) g))
of_row form l g =
    let t = form.in-Then.t in
    let x = form.args in
    row_behind x.head l t x.rest.at (cell t (row_of x.head.digits)).0 form.reference_digits.result (form_of form.reference_form-reference.result) g (drop x.rest.at x.rest.text.now) form.reference_form-reference.ensures.result_value

pub returns-in-Integer : goal.returns-in-Integer
returns-in-Integer c =
    let form = (goal.at.returns-in-Integer c).After-reference_form-reference in
    rw (c.in-Then.is, c.in-Integer.is, sym c.reference_digits.ensures.value)
    (c.with_integer.ensures ∙ of_row form (Integer c.in-Integer.bits) (integer c.in-Integer.bits))

pub returns-in-String : goal.returns-in-String
returns-in-String c =
    let form = (goal.at.returns-in-String c).After-reference_form-reference in
    rw (c.in-Then.is, c.in-String.is, sym c.reference_digits.ensures.value)
    (c.with_string.ensures ∙ of_row form (String c.in-String.bits) (string c.in-String.bits))

pub returns-in-Numeric : goal.returns-in-Numeric
returns-in-Numeric c =
    let form = (goal.at.returns-in-Numeric c).After-reference_form-reference in
    let t = c.in-Then.t in
    let x = c.args in
    rw (c.in-Then.is, c.in-Numeric.is, sym c.reference_digits.ensures.value)
    (c.with_numeric.ensures ∙ of_row form (Numeric 0 c.in-Numeric.most) (numeric 0 c.in-Numeric.most) ∙ numeric_alike x.head c.in-Numeric.field-0 c.in-Numeric.most (parts_of x.rest (referred (counted t (cell t (row_of x.head.digits)).0 c.reference_digits.result) (numeric 0 c.in-Numeric.most))))

-- zeros stand behind exactly the row's digits
pub returns-in-Zeros : goal.returns-in-Zeros
returns-in-Zeros c =
    let x = c.args in
    let t = c.in-Zeros.t in
    let narrow = rw c.in-Zeros.is at c.requires.0 in
    rw (c.in-Zeros.is, sym c.reference_digits-in-Zeros.ensures.value)
    (c.reference_alone.ensures ∙ ap (reference_alone c.args.head) (row_alone t x.rest.at (cell t (row_of x.head.digits)).0 c.reference_digits-in-Zeros.result (drop x.rest.at x.rest.text.now) narrow))

-- the reference of table E
row : (c : After-by_digits) → c.by_digits.result < 7
row c =
    rw c.by_digits.ensures (row_picked c.args.head.digits c.requires.1 c.requires.2).0

pub asset_alone-requires : goal.asset_alone-requires
asset_alone-requires c =
    rw c.asset.ensures (omega (arith, few_bits c.by_digits.result (row (goal.at.asset_alone-requires c).After-by_digits)))

pub returns-in-E : goal.returns-in-E
returns-in-E c =
    let x = c.args in
    let bits : c.asset.result ≡ asset_bits (row_of x.head.digits) = c.asset.ensures ∙ ap (λ p. asset_bits (row_at p)) c.by_digits.ensures in
    rw c.in-E.is (c.asset_alone.ensures ∙ ap (λ b. asset_alone x.head (parts_of x.rest (end last (integer b)))) bits)

pub asset-requires : goal.asset-requires
asset-requires c = row c
