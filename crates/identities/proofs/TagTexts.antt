-- The text of a tag is its filter and the parts of its identity; and the identity is of the grammar.
use Prim.Native.Nat.{ℕ, ◌+◌, ◌≤◌, ◌<◌, ◌^◌}
use Prim.Native.Char.{code}
use mathlib.Core.Path.{◌≡◌, refl, ap}
use mathlib.Core.List.{List, [], ◌∷◌, ◌++◌}
use mathlib.Core.Bool.{Bool, true, ◌&&◌}
use Rattle.std.specs.Prelude.{Some}
use native.Mathlib.Omega.{arith}
use lib.Dec.{T, leb, leb→le, ltb→lt, eqb→eq, lit<}
use lib.ListN.{length, length-map}
use Rattle.numeral.specs.Numeral.{value}
use Rattle.rules.specs.declared.Scheme.{Scheme}
use Rattle.rules.specs.declared.Scheme.TheVariants.{Sgtin96, Sgtin198, Sscc96, Sgln96, Sgln195, Grai96, Grai170, Giai96, Gsrn96, Gsrnp96, Gdti96, Gdti174, Gid96, Gdti113, Sgcn96, Cpi96}
use Rattle.rules.specs.declared.Table.{Table}
use Rattle.rules.specs.declared.Table.TheVariants.{A, B, C, D, Cpi}
use Rattle.rules.specs.declared.Last.{Last}
use Rattle.rules.specs.declared.Last.TheVariants.{Integer, String, Numeric}
use Rattle.rules.specs.declared.Body.TheVariants.{Then, Zeros, E}
use Rattle.rules.specs.declared.Parts.{Parts}
use Rattle.rules.specs.declared.Parts.TheVariants.{F, Integers}
use Rattle.rules.specs.Bytes.{all, among, dot, digits_text}
use Rattle.rules.specs.Characters.{table_a1, escaped, character, plain, string_text}
use Rattle.rules.specs.Schemes.{about as aboutScheme}
use Rattle.rules.specs.Schemes.{Form, company, digits, integer, string, at_most, numeric, rows, cell, exact, last_form, prefix_digits, row_of, partition}
use Rattle.rules.specs.Grammar.{digit, plain_number, Fit, Fits, laid, spelled, written}
use Rattle.rules.specs.Conditions.{Spelled}
use Rattle.rules.proofs.Tests.{is_true, both, and, below, below_is, eq→eqb}
use Rattle.rules.proofs.Decimals.{all_digits}
use Rattle.rules.proofs.Forms.{whole_of}
use Rattle.rules.proofs.Reading.{one_digit}
use Rattle.rules.proofs.Rows.{AllRows, by_row_lem, row_picked}
use Rattle.scheme.proofs.Shapes.{partitioned, reference_and_last, reference_alone_lem, asset_alone_lem, general}
use Rattle.identities.specs.declared.Family.{Family}
use Rattle.identities.specs.declared.Family.TheVariants.{Sgtin, Sscc, Sgln, Grai, Giai, Gsrn, Gsrnp, Gdti, Gid, Sgcn}
use Rattle.identities.specs.declared.Family.TheVariants.{Cpi as CpiFamily}
use Rattle.identities.specs.declared.Component.{Component}
use Rattle.identities.specs.declared.Component.TheVariants.{Padded, PaddedOrEmpty, UpTo, Number, Characters, PartReference}
use Rattle.identities.specs.Families.{about, family_of}
use Rattle.identities.specs.Grammar.{part_characters, PartText, done, itself, Is, none_left, next, IdentityFits, joined}
use Rattle.identities.specs.OfTags.{as_written, filter_in}
use Rattle.identities.specs.Numbers.{filter_text}

-- A filter is one digit.
pub filter_digit : (p : List ℕ) → Fit (integer 3) p → (d : ℕ) × (d < 8) × (p ≡ d ∷ [])
filter_digit p h = one_digit (whole_of p h.shape) (ltb→lt (value 10 p) (2 ^ 3) h.size)

pub value_one : (d : ℕ) → value 10 (d ∷ []) ≡ d
unfolding value
value_one d = omega arith

filtered : (p x : List ℕ) → Fit (integer 3) p → digits_text p ++ dot ∷ x ≡ (digits_text (value 10 p ∷ []) ++ dot ∷ []) ++ x
filtered p x h =
    let (d, _, e) = filter_digit p h in
    rw (e, value_one d) refl

pub written_as : (q : Parts) (ps : List (List ℕ)) → Fits (laid q) ps → written (laid q) ps ≡ filter_text q (filter_in (laid q) ps) ++ joined (as_written (laid q) ps)
written_as (F (Then t l)) ps h =
    let v = partitioned (Then t l) h in
    let (r, x, e, _, _) = reference_and_last t l (length v.prefix) v.rest_fits in
    rw (v.parts, e) (filtered v.filter _ v.filter_fits)
written_as (F (Zeros t z)) ps h =
    let v = partitioned (Zeros t z) h in
    let (r, e, _) = reference_alone_lem t z (length v.prefix) v.rest_fits in
    rw (v.parts, e) (filtered v.filter _ v.filter_fits)
written_as (F E) ps h =
    let v = partitioned E h in
    let (r, e, _) = asset_alone_lem (length v.prefix) v.rest_fits in
    rw (v.parts, e) (filtered v.filter _ v.filter_fits)
written_as (Integers a b c) ps h =
    let (p, q, r, e, _, _, _) = general a b c h in
    rw e refl

-- Digits stand for themselves, in a string and in a part reference.
abbrev stands : ℕ → Bool
stands d = character (code "0" + d) && (plain (code "0" + d) && among (code "0" + d) part_characters)

all_stand : T (below stands 10)
unfolding table_a1 escaped part_characters
all_stand = tt

digit_stands : (d : ℕ) → T (digit d) → T (character (code "0" + d)) × T (plain (code "0" + d)) × T (among (code "0" + d) part_characters)
digit_stands d h =
    let (a, r) = both (character (code "0" + d)) (plain (code "0" + d) && among (code "0" + d) part_characters) (below_is stands 10 all_stand d (ltb→lt d 10 h)) in
    let (b, c) = both (plain (code "0" + d)) (among (code "0" + d) part_characters) r in
    (a, b, c)

digits_spelled : (ds : List ℕ) → T (all digit ds) → Spelled (digits_text ds) (digits_text ds)
digits_spelled [] h = (tt, refl)
digits_spelled (d ∷ ds) h =
    let (a, b) = both (digit d) (all digit ds) h in
    let (c, e, _) = digit_stands d a in
    let (cs, t) = digits_spelled ds b in
    (and (character (code "0" + d)) (all character (digits_text ds)) c cs, rw (is_true (plain (code "0" + d)) e) (ap ((code "0" + d) ∷◌) t))

digits_referred : (ds : List ℕ) → T (all digit ds) → PartText (digits_text ds)
digits_referred [] h = done
digits_referred (d ∷ ds) h = let (a, b) = both (digit d) (all digit ds) h in itself (digit_stands d a).2 (digits_referred ds b)

digits_length : (ds : List ℕ) → length (digits_text ds) ≡ length ds
digits_length ds = length-map ds (code "0" +◌)

-- Each form's texts are among a component's.
some_digits : (p : List ℕ) → T (plain_number p) → 0 < length p
some_digits [] h = absurd h
some_digits (d ∷ ds) h = omega arith

in_padded : (p : List ℕ) → T (all digit p) → 0 < length p → Is Padded (digits_text p)
in_padded p s l = (p, (all_digits p s, refl), l)

in_characters : (p : List ℕ) → T (all digit p) → 0 < length p → Is Characters (digits_text p)
in_characters p s l = (digits_text p, digits_spelled p s, rw (digits_length p) l)

prefix_padded : {p : List ℕ} → Fit company p → Is Padded (digits_text p)
prefix_padded {p = p} h = in_padded p h.symbols (omega (arith, leb→le 6 (length p) (both (leb 6 (length p)) (leb (length p) 12) h.shape).0))

pub integer_characters : {b : ℕ} (p : List ℕ) → Fit (integer b) p → Is Characters (digits_text p)
integer_characters p h = in_characters p h.symbols (some_digits p h.shape)

integer_number : {b : ℕ} (p : List ℕ) → Fit (integer b) p → Is Number (digits_text p)
integer_number p h = (p, (all_digits p h.symbols, refl), whole_of p h.shape)

string_characters : {b : ℕ} (p : List ℕ) → Fit (string b) p → Is Characters (string_text p)
string_characters p h = (p, (h.symbols, refl), ltb→lt 0 (length p) h.shape)

numeric_characters : {b n : ℕ} (p : List ℕ) → Fit (numeric b n) p → Is Characters (digits_text p)
numeric_characters p h = in_characters p h.symbols (ltb→lt 0 (length p) h.shape)

numeric_counted : {b n : ℕ} (p : List ℕ) → Fit (numeric b n) p → Is (UpTo n) (digits_text p)
numeric_counted {n = n} p h = (p, (all_digits p h.symbols, refl), ltb→lt 0 (length p) h.shape, leb→le (length p) n h.size)

at_most_referred : {b n : ℕ} (p : List ℕ) → Fit (at_most b n) p → Is PartReference (digits_text p)
at_most_referred {n = n} p h =
    (digits_referred p h.symbols, rw (digits_length p) (some_digits p (both (plain_number p) (leb (length p) n) h.shape).0))

-- Prefix and reference of a table have as many digits in every row.
abbrev pub Sums : Table → ℕ → Type 0
Sums t N = AllRows (λ P r. prefix_digits r + (cell t r).1 ≡ N) 0 rows

pub sum_of : (t : Table) (N : ℕ) → Sums t N → (n : ℕ) → 6 ≤ n → n ≤ 12 → n + (cell t (row_of n)).1 ≡ N
sum_of t N sums n l u =
    let (k, e) = row_picked n l u in
    omega (arith, by_row_lem (λ P r. prefix_digits r + (cell t r).1 ≡ N) sums (partition n) k, e)

together : (t : Table) (N : ℕ) → Sums t N → {b : ℕ} {p r : List ℕ} → Fit company p → Fit (digits b (cell t (row_of (length p))).1) r → (length p + length r ≡ N) × (length p ≤ 12)
together t N sums {p = p} {r = r} h j =
    let (l, u) = both (leb 6 (length p)) (leb (length p) 12) h.shape in
    let m = leb→le (length p) 12 u in
    (omega (arith, eqb→eq (length r) (cell t (row_of (length p))).1 j.shape, sum_of t N sums (length p) (leb→le 6 (length p) l) m), m)

pub sums_a : Sums A 13
unfolding rows
sums_a = omega arith

pub sums_b : Sums B 17
unfolding rows
sums_b = omega arith

pub sums_c : Sums C 12
unfolding rows
sums_c = omega arith

pub sums_d : Sums D 12
unfolding rows
sums_d = omega arith

-- a reference that leaves so many digits to the prefix, which has at most 12
abbrev References : ℕ → Component → Type 0
References N c = (r : List ℕ) → T (all digit r) → N ≤ 12 + length r → Is c (digits_text r)

padded_of : (N : ℕ) → 12 < N → References N Padded
padded_of N l r s m = in_padded r s (omega arith)

empty_too : (N : ℕ) → References N PaddedOrEmpty
empty_too N r s m = (r, (all_digits r s, refl))

abbrev Lasts : Form → Component → Type 0
Lasts f c = (p : List ℕ) → Fit f p → Is c (spelled f p)

-- The identity of a tag is of the grammar, by what follows the company prefix.
abbrev Identified : Family → Parts → Type 0
Identified f q = (ps : List (List ℕ)) → Fits (laid q) ps → IdentityFits (record { family = f; parts = as_written (laid q) ps })

module _ (f : Family) (t : Table) (N : ℕ) (is_exact : exact t ≡ true) (sums : Sums t N) (count : (about f).total ≡ Some N) where
  with_last_lem : (l : Last) {c d : Component} → (about f).components ≡ Padded ∷ c ∷ d ∷ [] → References N c → Lasts (last_form l) d → Identified f (F (Then t l))
  with_last_lem l parts reference last ps h =
      let v = partitioned (Then t l) h in
      let (r, x, e, i, k) = reference_and_last t l (length v.prefix) v.rest_fits in
      let j = rw is_exact at i in
      let (sum, most) = together t N sums v.prefix_fits j in
      rw (v.parts, e, is_exact) (record {
        parts = rw parts (next (prefix_padded v.prefix_fits) (next (reference r j.symbols (omega (arith, sum, most))) (next (last x k) none_left)));
        total = rw count (rw (digits_length v.prefix, digits_length r) (eq→eqb (length v.prefix + length r) N sum));
      })

  alone : (z : ℕ) {c : Component} → (about f).components ≡ Padded ∷ c ∷ [] → References N c → Identified f (F (Zeros t z))
  alone z parts reference ps h =
      let v = partitioned (Zeros t z) h in
      let (r, e, i) = reference_alone_lem t z (length v.prefix) v.rest_fits in
      let j = rw is_exact at i in
      let (sum, most) = together t N sums v.prefix_fits j in
      rw (v.parts, e, is_exact) (record {
        parts = rw parts (next (prefix_padded v.prefix_fits) (next (reference r j.symbols (omega (arith, sum, most))) none_left));
        total = rw count (rw (digits_length v.prefix, digits_length r) (eq→eqb (length v.prefix + length r) N sum));
      })

asset : Identified Giai (F E)
asset ps h =
    let v = partitioned E h in
    let (r, e, k) = asset_alone_lem (length v.prefix) v.rest_fits in
    rw (v.parts, e) (record { parts = next (prefix_padded v.prefix_fits) (next (integer_characters r k) none_left); total = tt })

part_of_component : (b : ℕ) → Identified CpiFamily (F (Then Cpi (Integer b)))
part_of_component b ps h =
    let v = partitioned (Then Cpi (Integer b)) h in
    let (r, x, e, j, k) = reference_and_last Cpi (Integer b) (length v.prefix) v.rest_fits in
    rw (v.parts, e) (record { parts = next (prefix_padded v.prefix_fits) (next (at_most_referred r j) (next (integer_number x k) none_left)); total = tt })

three_integers : (a b c : ℕ) → Identified Gid (Integers a b c)
three_integers a b c ps h =
    let (p, q, r, e, i, j, k) = general a b c h in
    rw e (record { parts = next (integer_number p i) (next (integer_number q j) (next (integer_number r k) none_left)); total = tt })

pub identified_by : (s : Scheme) → Identified (family_of s) (aboutScheme s).parts
identified_by Sgtin96 = with_last_lem Sgtin A 13 refl sums_a refl (Integer 38) refl (padded_of 13 (lit< tt)) integer_characters
identified_by Sgtin198 = with_last_lem Sgtin A 13 refl sums_a refl (String 140) refl (padded_of 13 (lit< tt)) string_characters
identified_by Sscc96 = alone Sscc B 17 refl sums_b refl 24 refl (padded_of 17 (lit< tt))
identified_by Sgln96 = with_last_lem Sgln D 12 refl sums_d refl (Integer 41) refl (empty_too 12) integer_characters
identified_by Sgln195 = with_last_lem Sgln D 12 refl sums_d refl (String 140) refl (empty_too 12) string_characters
identified_by Grai96 = with_last_lem Grai C 12 refl sums_c refl (Integer 38) refl (empty_too 12) integer_characters
identified_by Grai170 = with_last_lem Grai C 12 refl sums_c refl (String 112) refl (empty_too 12) string_characters
identified_by Giai96 = asset
identified_by Gsrn96 = alone Gsrn B 17 refl sums_b refl 24 refl (padded_of 17 (lit< tt))
identified_by Gsrnp96 = alone Gsrnp B 17 refl sums_b refl 24 refl (padded_of 17 (lit< tt))
identified_by Gdti96 = with_last_lem Gdti D 12 refl sums_d refl (Integer 41) refl (empty_too 12) integer_characters
identified_by Gdti174 = with_last_lem Gdti D 12 refl sums_d refl (String 119) refl (empty_too 12) string_characters
identified_by Gid96 = three_integers 28 24 36
identified_by Gdti113 = with_last_lem Gdti D 12 refl sums_d refl (Numeric 58 17) refl (empty_too 12) numeric_characters
identified_by Sgcn96 = with_last_lem Sgcn D 12 refl sums_d refl (Numeric 41 12) refl (empty_too 12) numeric_counted
identified_by Cpi96 = part_of_component 31
