-- The text of a tag, by the values that its record holds; and that these are as small as the writers of its pieces ask.
use Prim.Native.Nat.{ℕ, ◌/◌, ◌≤◌}
use mathlib.Core.Path.{◌≡◌, refl, sym, ap, ◌∙◌}
use mathlib.Core.Bool.{Bool, true, false, cond}
use mathlib.Core.List.{List, ◌++◌, append_assoc}
use native.Mathlib.Omega.{arith}
use lib.Dec.{leb, leb→le, ltb→lt, eqb→eq}
use lib.ListN.{length, take, replicate, length-append}
use lib.Seq.{take_at, take-take, length-take-le}
use Rattle.numeral.specs.Numeral.{value, shortest, numeral}
use Rattle.numeral.proofs.Values.{numeral_value, numeral_of_value}
use Rattle.rules.specs.Bytes.{digits_text}
use Rattle.rules.specs.declared.Table.{Table}
use Rattle.rules.specs.declared.Last.TheVariants.{Integer, String, Numeric}
use Rattle.rules.specs.declared.Body.{Body}
use Rattle.rules.specs.declared.Body.TheVariants.{Then, Zeros, E}
use Rattle.rules.specs.declared.Parts.{Parts}
use Rattle.rules.specs.declared.Parts.TheVariants.{F, Integers}
use Rattle.rules.specs.Schemes.{digits, integer, at_most, exact, counted, asset_bits, row_of, cell, about}
use Rattle.rules.specs.ControlFields.{control_text, ControlFits}
use Rattle.rules.specs.Grammar.{plain_number, spelled, Tag, text_of, start, label, written, layout, Fit, Fits}
use Rattle.rules.proofs.Tests.{both}
use Rattle.rules.proofs.Decimals.{all_digits}
use Rattle.rules.proofs.Numbers.{whole_of}
use Rattle.scheme.specs.declared.record.Record.{Record}
use Rattle.scheme.specs.Outlines.{Narrow}
use Rattle.scheme.specs.Records.{RecordIs, HasTag, Writes, record_of, padded}
use Rattle.scheme.proofs.Widths.{parts_narrow}
use Rattle.scheme.proofs.Shapes.{Partitioned, partitioned, reference_and_last, reference_alone_lem, asset_alone_lem, general}
use Rattle.digits.proofs.Joins.{from_start, begun, then}
use Rattle.std.specs.Borrow.{MutBor}
use Rattle.digits.specs.declared.Output.{Output}
use Rattle.digits.specs.Pieces.{Begins, Adds}
use Rattle.text.specs.Writing.{Company, HeldBehind, integer_text, number_text, parts_text}

-- A part that fits is the numeral of its value.
whole : (b : ℕ) (p : List ℕ) → Fit (integer b) p → shortest 10 (value 10 p) ≡ p
whole b p h = whole_of p (all_digits p h.symbols) h.shape

filled : (b n : ℕ) (p : List ℕ) → Fit (digits b n) p → numeral 10 n (value 10 p) ≡ p
filled b n p h = numeral_of_value 10 n p (all_digits p h.symbols) (eqb→eq (length p) n h.shape)

-- a reference, in the form that its table has
reference_is : (t : Table) (b n : ℕ) (p : List ℕ) → Fit (counted t b n) p → cond (exact t) (number_text n (value 10 p)) (integer_text (value 10 p)) ≡ spelled (counted t b n) p
reference_is t b n p = go (exact t)
  where
    go : (e : Bool) → Fit (cond e (digits b n) (at_most b n)) p → cond e (number_text n (value 10 p)) (integer_text (value 10 p)) ≡ spelled (cond e (digits b n) (at_most b n)) p
    go true h = ap digits_text (filled b n p h)
    go false h = ap digits_text (whole_of p (all_digits p h.symbols) (both (plain_number p) (leb (length p) n) h.shape).0)

length_padded : (cs : List ℕ) → length (padded cs) ≡ 20
length_padded cs = length-take-le 20 (cs ++ replicate 20 0) (rw length-append (omega arith))

unpadded : (cs : List ℕ) → length cs ≤ 20 → take (length cs) (padded cs) ≡ cs
unpadded cs h = take-take (length cs) 20 (cs ++ replicate 20 0) h ∙ take_at cs (replicate 20 0) (length cs) refl

-- what the writers of the parts ask of a record's values
abbrev pub Small : Parts → Record → Type 0
Small (F body) r = Company r × HeldBehind body r
Small (Integers a b c) r = Unit

-- A filter and a company prefix that fit.
module _ {body : Body} {ps : List (List ℕ)} (w : Partitioned body ps) where
  filter_is : shortest 10 (value 10 w.filter) ≡ w.filter
  filter_is = whole 3 w.filter w.filter_fits

  prefix_is : numeral 10 (length w.prefix) (value 10 w.prefix) ≡ w.prefix
  prefix_is = numeral_value 10 w.prefix (all_digits w.prefix w.prefix_fits.symbols)

  company : (r : Record) → r.filter ≡ value 10 w.filter → r.digits ≡ length w.prefix → Company r
  company r e f =
      let n = length w.prefix in
      let (l, u) = both (leb 6 n) (leb n 12) w.prefix_fits.shape in
      record { one_digit = omega (arith, ltb→lt (value 10 w.filter) 8 w.filter_fits.size); least = omega (arith, leb→le 6 n l); most = omega (arith, leb→le n 12 u) }

by_values : (τ : Tag) (p : Parts) → (about τ.scheme).parts ≡ p → Narrow p → Fits (layout τ.scheme) τ.parts
    → (written (layout τ.scheme) τ.parts ≡ parts_text p (record_of τ)) × Small p (record_of τ)
unfolding record_of
by_values τ (F (Then t (Integer n))) g k h =
    let w = partitioned (Then t (Integer n)) (rw g at h) in
    let m = length w.prefix in
    let (r, x, e, i, j) = reference_and_last t (Integer n) m w.rest_fits in
    rw (g, w.parts, e, filter_is w, prefix_is w, reference_is t (cell t (row_of m)).0 (cell t (row_of m)).1 r i, whole n x j) (simp append_assoc, (company w _ refl refl, tt))
by_values τ (F (Then t (String n))) g k h =
    let w = partitioned (Then t (String n)) (rw g at h) in
    let m = length w.prefix in
    let (r, x, e, i, j) = reference_and_last t (String n) m w.rest_fits in
    let l : length x ≤ 20 = omega (arith, leb→le (length x) (n / 7) j.size) in
    rw (g, w.parts, e, filter_is w, prefix_is w, reference_is t (cell t (row_of m)).0 (cell t (row_of m)).1 r i, unpadded x l) (simp append_assoc, (company w _ refl refl, (l, length_padded x)))
by_values τ (F (Then t (Numeric b n))) g k h =
    let w = partitioned (Then t (Numeric b n)) (rw g at h) in
    let m = length w.prefix in
    let (r, x, e, i, j) = reference_and_last t (Numeric b n) m w.rest_fits in
    let l : length x ≤ 20 = omega (arith, k, leb→le (length x) n j.size) in
    rw (g, w.parts, e, filter_is w, prefix_is w, reference_is t (cell t (row_of m)).0 (cell t (row_of m)).1 r i, numeral_value 10 x (all_digits x j.symbols)) (simp append_assoc, (company w _ refl refl, l))
by_values τ (F (Zeros t n)) g k h =
    let w = partitioned (Zeros t n) (rw g at h) in
    let m = length w.prefix in
    let (r, e, i) = reference_alone_lem t n m w.rest_fits in
    rw (g, w.parts, e, filter_is w, prefix_is w, reference_is t (cell t (row_of m)).0 (cell t (row_of m)).1 r i) (simp append_assoc, (company w _ refl refl, tt))
by_values τ (F E) g k h =
    let w = partitioned E (rw g at h) in
    let m = length w.prefix in
    let (r, e, i) = asset_alone_lem m w.rest_fits in
    rw (g, w.parts, e, filter_is w, prefix_is w, whole (asset_bits (row_of m)) r i) (simp append_assoc, (company w _ refl refl, tt))
by_values τ (Integers a b c) g k h =
    let (p, q, r, e, i, j, l) = general a b c (rw g at h) in
    rw (g, e, whole a p i, whole b q j, whole c r l) (refl, tt)

-- The record r of a tag, whose scheme has the parts p.
module _ (r : Record) (τ : Tag) (h : RecordIs r τ) (p : Parts) (e : (about r.scheme).parts ≡ p) where
  same_scheme : r.scheme ≡ τ.scheme
  unfolding record_of
  same_scheme = ap (λ x. x.scheme) h.same

  right : (written (layout τ.scheme) τ.parts ≡ parts_text p r) × Small p r
  right =
      let f : (about τ.scheme).parts ≡ p = ap (λ s. (about s).parts) (sym same_scheme) ∙ e in
      rw h.same (by_values τ p f (rw f at (parts_narrow τ.scheme)) h.fits.parts)

  same_control : r.control ≡ τ.control
  unfolding record_of
  same_control = ap (λ x. x.control) h.same

  text_is : text_of τ ≡ (start ++ (control_text r.control ++ label r.scheme)) ++ parts_text p r
  unfolding text_of
  text_is =
      let c = control_text τ.control in
      let l = label τ.scheme in
      let x = parts_text p r in
      rw right.0
      (ap (start ++◌) (sym (append_assoc c l x)) ∙ sym (append_assoc start (c ++ l) x)
      ∙ ap (λ k. (start ++ (control_text k ++ l)) ++ x) (sym same_control) ∙ ap (λ s. (start ++ (control_text r.control ++ label s)) ++ x) (sym same_scheme))

pub small : (r : Record) (p : Parts) → HasTag r → (about r.scheme).parts ≡ p → Small p r
small r p t e = (right r t.tag t.is p e).1

pub control_fits : (r : Record) → HasTag r → ControlFits r.control
unfolding record_of
control_fits r t = rw (ap (λ x. x.control) t.is.same) t.is.fits.control

-- The start and the parts, added to an output that was `o` before.
module _ (r : Record) {o : MutBor (List ℕ)} {w v u : Output} (b : Begins o w) where
  pub writes : Adds w (start ++ (control_text r.control ++ label r.scheme)) v → Adds v (parts_text (about r.scheme).parts r) u → Writes text_of r o.now u.at u.out.now
  writes x y τ i = from_start (rw (← text_is r τ i (about r.scheme).parts refl) at (begun b (then x y)))
