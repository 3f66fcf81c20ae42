-- The fields of a tag's record keep the limits of its scheme's parts, and their bits are those of the tag's parts.
use Prim.Native.Nat.{ℕ, ◌+◌, ◌-◌, ◌*◌, ◌/◌, ◌^◌, ◌≤◌, ◌<◌}
use mathlib.Core.Path.{◌≡◌, refl, sym, ap, ◌∙◌, subst⁻¹}
use mathlib.Core.List.{List, [], ◌∷◌, ◌++◌, append_assoc}
use native.Mathlib.Omega.{arith}
use native.Mathlib.Nat.{pow-le-pow_right, lt_of_lt_of_le}
use lib.Dec.{leb, leb→le, ltb→lt, eqb→eq, lit<}
use lib.ListN.{length, take, replicate, length-replicate, replicate-append-replicate}
use lib.Seq.{take_at, take-take, take-append-add}
use Rattle.numeral.specs.Numeral.{value, Digits, spread}
use Rattle.numeral.proofs.Values.{value_lt, numeral_value, digits_append, digits_take, digits_zeros}
use Rattle.rules.specs.declared.Scheme.{Scheme}
use Rattle.rules.specs.declared.ControlFields.{ControlFields}
use Rattle.rules.specs.declared.Table.{Table}
use Rattle.rules.specs.declared.Last.{Last}
use Rattle.rules.specs.declared.Last.TheVariants.{Integer, String, Numeric}
use Rattle.rules.specs.declared.Body.{Body}
use Rattle.rules.specs.declared.Body.TheVariants.{Then, Zeros, E}
use Rattle.rules.specs.declared.Parts.{Parts}
use Rattle.rules.specs.declared.Parts.TheVariants.{F, Integers}
use Rattle.rules.specs.Schemes.{digits, integer, string, at_most, numeric, counted, row_digits, asset_bits, last_form, row_of, about}
use Rattle.rules.specs.Grammar.{plain_number, Fit, Fits, laid, layout, Tag}
use Rattle.rules.specs.Coding.{binary, filled, part_bits, coded}
use Rattle.rules.proofs.Tests.{both}
use Rattle.rules.proofs.Decimals.{all_digits}
use Rattle.rules.proofs.Rows.{by_count_lem, by_row_lem}
use Rattle.rules.proofs.Numerics.{numeric_fits}
use Rattle.rules.proofs.Fields.{characters_are, filled_is}
use Rattle.rules.proofs.Codes.{RowSizes, PartSizes, content, sizes}
use Rattle.tens.specs.Numerics.{one_before}
use Rattle.scheme.specs.declared.record.Record.{Record}
use Rattle.scheme.specs.Outlines.{Narrow}
use Rattle.scheme.proofs.Widths.{parts_narrow}
use Rattle.scheme.specs.Records.{record_of, RecordIs, filter_of, prefix_of, digits_of, reference_of, last_number, serial_of, last_characters, characters_of, last_count, count_of, padded}
use Rattle.scheme.proofs.Shapes.{Partitioned, partitioned, reference_and_last, reference_alone_lem, asset_alone_lem, general}
use Rattle.bank.specs.Writing.{Company, Reference, Wide, Asset, Number, KeepsLast, last_bits, Keeps, packed}

-- A reference, of exactly or at most n digits.
module _ (t : Table) (b n : ℕ) (x : List ℕ) where
  reference_lt : Fit (counted t b n) x → value 10 x < 10 ^ n
  reference_lt = by_count_lem (λ f. Fit f x → value 10 x < 10 ^ n) t b n exactly at_most_lem
    where
      exactly : Fit (digits b n) x → value 10 x < 10 ^ n
      exactly h = rw (← eqb→eq (length x) n h.shape) (value_lt 10 x (all_digits x h.symbols))

      at_most_lem : Fit (at_most b n) x → value 10 x < 10 ^ n
      at_most_lem h =
          let l : length x ≤ n = leb→le (length x) n (both (plain_number x) (leb (length x) n) h.shape).1 in
          lt_of_lt_of_le (value_lt 10 x (all_digits x h.symbols)) (pow-le-pow_right (lit< tt) l)

  reference_bits_lem : part_bits (counted t b n) x ≡ binary b (value 10 x)
  reference_bits_lem = by_count_lem (λ f. part_bits f x ≡ binary b (value 10 x)) t b n refl refl

-- A filter and a company prefix, and a reference behind them: of table t, or of table E.
module _ {body : Body} {ps : List (List ℕ)} (a : Partitioned body ps) where
  six_to_twelve : (6 ≤ length a.prefix) × (length a.prefix ≤ 12)
  six_to_twelve =
      let n = length a.prefix in
      let (x, y) = both (leb 6 n) (leb n 12) a.prefix_fits.shape in
      (leb→le 6 n x, leb→le n 12 y)

  company_of_lem : {r : Record} → r.digits ≡ length a.prefix → r.filter ≡ value 10 a.filter → r.prefix ≡ value 10 a.prefix → Company r
  company_of_lem en ef ed = record {
    filter = rw ef (ltb→lt (value 10 a.filter) (2 ^ 3) a.filter_fits.size);
    least = rw en six_to_twelve.0;
    most = rw en six_to_twelve.1;
    prefix = rw (en, ed) (value_lt 10 a.prefix (all_digits a.prefix a.prefix_fits.symbols));
  }

  reference_of_lem : {t : Table} {x : List ℕ} {r : Record} → r.digits ≡ length a.prefix → Fit (row_digits t (row_of (length a.prefix))) x → r.reference ≡ value 10 x → Reference t r
  reference_of_lem {t} {x} en h ex = record {
    least = rw en six_to_twelve.0;
    most = rw en six_to_twelve.1;
    small = rw (en, ex) (reference_lt t _ _ x h);
  }

  asset_of : {x : List ℕ} {r : Record} → r.digits ≡ length a.prefix → Fit (integer (asset_bits (row_of (length a.prefix)))) x → r.serial ≡ value 10 x → Asset r
  asset_of {x} en h ex = record { least = rw en six_to_twelve.0; most = rw en six_to_twelve.1; small = rw (en, ex) (ltb→lt (value 10 x) (2 ^ asset_bits (row_of (length a.prefix))) h.size) }

-- A string with its zeros: n places are filled, of which the first k are taken.
zeros_front : (m n : ℕ) → m ≤ n → take {A = ℕ} m (replicate n 0) ≡ replicate m 0
zeros_front m n h =
    let e : m + (n - m) ≡ n = omega arith in
    rw (← e, ← replicate-append-replicate {A = ℕ} m (n - m) 0) (take_at (replicate m 0) (replicate (n - m) 0) m (length-replicate m 0))

filled_places : (n : ℕ) (cs : List ℕ) (k : ℕ) → length cs ≤ k → k ≤ n → take k (take n (cs ++ replicate n 0)) ≡ cs ++ replicate (k - length cs) 0
filled_places n cs k l m =
    let e : length cs + (k - length cs) ≡ k = omega arith in
    take-take k n (cs ++ replicate n 0) m ∙ rw e at (take-append-add cs (replicate n 0) (k - length cs)) ∙ ap (cs ++◌) (zeros_front (k - length cs) n (omega arith))

module _ (n : ℕ) (cs : List ℕ) (h : Fit (string n) cs) (l : (n ≡ 7 * (n / 7)) × (0 < n / 7) × (n / 7 ≤ 20)) where
  fits : length cs ≤ n / 7
  fits = leb→le (length cs) (n / 7) h.size

  string_is : spread 2 7 (take (n / 7) (padded cs)) ≡ filled n (spread 2 7 cs)
  string_is = ap (spread 2 7) (filled_places 20 cs (n / 7) fits l.2) ∙ sym (filled_is n cs l.0 fits)

  string_groups : Digits 128 (padded cs)
  string_groups = digits_take 128 20 (cs ++ replicate 20 0) (digits_append 128 cs (replicate 20 0) (characters_are cs h.symbols).1 (digits_zeros 128 20 (lit< tt)))

-- The digits of a numeric string, and the 1 before them.
numeric_room : (t : Table) (n k w : ℕ) → PartSizes (F (Then t (Numeric n k))) w → 2 * 10 ^ k ≤ 2 ^ n
numeric_room t n k w h = (by_row_lem (λ P r. RowSizes (Then t (Numeric n k)) w r) h.1 0 (lit< tt)).2.1

numeric_kept : (n k : ℕ) (ds : List ℕ) → Fit (numeric n k) ds → (32 ≤ n) × (n ≤ 62) × (0 < k) × (k ≤ 17) → 2 * 10 ^ k ≤ 2 ^ n
    → (length ds ≤ 17) × (value 10 ds < 10 ^ length ds) × Wide n (one_before (length ds) (value 10 ds))
numeric_kept n k ds h l room =
    let few : length ds ≤ k = leb→le (length ds) k h.size in
    let d = all_digits ds h.symbols in
    (omega arith, value_lt 10 ds d, record { least = l.0; most = l.1; small = rw (numeral_value 10 ds d) (numeric_fits n k ds d few room) })

-- The record of parts, and what is to be shown of it.
abbrev record_with : Scheme → ControlFields → Parts → List (List ℕ) → Record
record_with s c p ps = record {
  scheme = s;
  control = c;
  filter = filter_of p ps;
  prefix = prefix_of p ps;
  digits = digits_of p ps;
  reference = reference_of p ps;
  serial = serial_of p ps;
  characters = padded (characters_of p ps);
  count = count_of p ps;
}

abbrev Packs : Scheme → ControlFields → Parts → List (List ℕ) → Type 0
Packs s c p ps = Keeps p (record_with s c p ps) × (packed p (record_with s c p ps) ≡ coded (laid p) ps)

number : (n : ℕ) (ds : List ℕ) → n ≤ 57 → Fit (integer n) ds → Number n (value 10 ds)
number n ds l h = record { narrow = l; small = ltb→lt (value 10 ds) (2 ^ n) h.size }

-- What follows a reference: the fields that the part y makes keep the limits, and have its bits.
last_packs : (t : Table) (l : Last) (w : ℕ) (y : List ℕ) (r : Record) → r.serial ≡ last_number l y → r.characters ≡ padded (last_characters l y) → r.count ≡ last_count l y
    → Narrow (F (Then t l)) → PartSizes (F (Then t l)) w → Fit (last_form l) y → KeepsLast l r × (last_bits l r ≡ part_bits (last_form l) y)
last_packs t (Integer n) w y r es ec en l p h = rw es (number n y l h, refl)
last_packs t (String n) w y r es ec en l p h = rw ec ((string_groups n y h l, l.2), string_is n y h l)
last_packs t (Numeric n k) w y r es ec en l p h = rw (es, en) (numeric_kept n k y h l (numeric_room t n k w p), ap (λ ds. binary n (value 10 (1 ∷ ds))) (numeral_value 10 y (all_digits y h.symbols)))

packs : (s : Scheme) (fields : ControlFields) (p : Parts) (w : ℕ) (ps : List (List ℕ)) → Narrow p → PartSizes p w → Fits (laid p) ps → Packs s fields p ps
packs s fields (F (Then t l)) w ps n z h =
    let a = partitioned (Then t l) h in
    let (x, y, e, i, j) = reference_and_last t l (length a.prefix) a.rest_fits in
    let (k, bits) = last_packs t l w y (record_with s fields (F (Then t l)) (a.filter ∷ a.prefix ∷ x ∷ y ∷ [])) refl refl refl n z j in
    subst⁻¹ (Packs s fields (F (Then t l))) (a.parts ∙ ap (λ z. a.filter ∷ a.prefix ∷ z) e)
    ((company_of_lem a refl refl refl, (reference_of_lem a refl i refl, k)), rw (bits, reference_bits_lem t _ _ x) (simp append_assoc))
packs s fields (F (Zeros t n)) w ps l z h =
    let a = partitioned (Zeros t n) h in
    let (x, e, i) = reference_alone_lem t n (length a.prefix) a.rest_fits in
    subst⁻¹ (Packs s fields (F (Zeros t n))) (a.parts ∙ ap (λ z. a.filter ∷ a.prefix ∷ z) e)
    ((company_of_lem a refl refl refl, reference_of_lem a refl i refl), rw (reference_bits_lem t _ _ x) (simp append_assoc))
packs s fields (F E) w ps l z h =
    let a = partitioned E h in
    let (x, e, i) = asset_alone_lem (length a.prefix) a.rest_fits in
    subst⁻¹ (Packs s fields (F E)) (a.parts ∙ ap (λ z. a.filter ∷ a.prefix ∷ z) e)
    ((company_of_lem a refl refl refl, asset_of a refl i refl), simp append_assoc)
packs s fields (Integers a b c) w ps l u h =
    let (x, y, z, e, i, j, k) = general a b c h in
    subst⁻¹ (Packs s fields (Integers a b c)) e ((number a x l.0 i, number b y l.1 j, number c z l.2 k), refl)

pub tag_packs : (r : Record) (τ : Tag) → RecordIs r τ
    → Keeps (about τ.scheme).parts r × (packed (about τ.scheme).parts r ≡ coded (layout τ.scheme) τ.parts)
unfolding record_of
tag_packs r τ h = let s = τ.scheme in rw h.same (packs s τ.control (about s).parts (content s) τ.parts (parts_narrow s) (sizes s).parts h.fits.parts)
