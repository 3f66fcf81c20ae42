-- How long texts, banks and raw lines are: at most 116, 64 and 145, and each of these is reached.
use Prim.Native.Nat.{ℕ, zero, suc, ◌+◌, ◌-◌, ◌*◌, ◌/◌, ◌^◌, ◌≤◌, ◌<◌}
use mathlib.Core.Path.{◌≡◌, refl, ap}
use mathlib.Core.List.{List, [], ◌∷◌, ◌++◌}
use mathlib.Core.Bool.{Bool, true, false, cond}
use native.Mathlib.Omega.{arith}
use native.Mathlib.Nat.{le_trans}
use lib.Dec.{T, leb, ltb, leb→le, nleb→lt, ltb→lt, eqb→eq, lit<, lit≤}
use lib.ListN.{length, drop, replicate, length-append, length-map, length-take, length-drop}
use Rattle.numeral.specs.Numeral.{value, numeral, spread, size_in, size, shortest}
use Rattle.numeral.proofs.Shortest.{length_shortest, size_le}
use Rattle.rules.specs.Bytes.{digits_text, bytes, hex_text}
use Rattle.rules.specs.declared.Scheme.{Scheme}
use Rattle.rules.specs.declared.Scheme.TheVariants.{Sgtin96, Sgtin198, Sscc96, Sgln96, Sgln195, Grai96, Grai170, Giai96, Gsrn96, Gsrnp96, Gdti96, Gdti174, Gid96, Gdti113, Sgcn96, Cpi96}
use Rattle.rules.specs.declared.ControlFields.{ControlFields}
use Rattle.rules.specs.declared.Table.{Table}
use Rattle.rules.specs.declared.Body.{Body}
use Rattle.rules.specs.declared.Body.TheVariants.{Then, Zeros, E}
use Rattle.rules.specs.declared.Parts.{Parts}
use Rattle.rules.specs.declared.Parts.TheVariants.{F, Integers}
use Rattle.rules.specs.Schemes.{Form, company, digits, integer, string, at_most, numeric, counted, Row, rows, row_of, cell, asset_bits, prefix_digits, partition, last_form, schemes, about, words}
use Rattle.rules.specs.Characters.{table_a1, escaped, plain, spelling, string_text}
use Rattle.rules.specs.declared.ControlName.TheVariants.{Umi, Att}
use Rattle.rules.specs.ControlFields.{standing, fields_text, closed, control_text}
use Rattle.rules.specs.Grammar.{plain_number, last, Layout, part, end, laid, body_layout, Fit, Fits, more, one, spelled, written, Tag, TagText, text_of, start, label}
use Rattle.rules.specs.Coding.{word_count, within, bank_of, most_words, EnoughWords}
use Rattle.rules.specs.TextNumbers.{value_in, tag_of_text, text_number}
use Rattle.rules.specs.Raw.{afi, afi_text, raw_text}
use Rattle.rules.specs.Calls.{bank_room}
use Rattle.rules.proofs.Tests.{both, every, each}
use Rattle.rules.proofs.Decimals.{all_digits}
use Rattle.rules.proofs.Numbers.{whole_of}
use Rattle.rules.proofs.Rows.{by_count_lem, AllRows, by_row_lem}
use Rattle.rules.proofs.Codes.{has_row}
use Rattle.rules.proofs.Banks.{bank_length}
use Rattle.rules.proofs.BankReads.{at_lt}

-- A part's characters.
abbrev pub longest : Form → List ℕ → ℕ
longest company ds = prefix_digits (row_of (length ds))
longest (digits b n) ds = n
longest (integer b) ds = b / 3
longest (string b) cs = 3 * (b / 7)
longest (at_most b n) ds = n
longest (numeric b n) ds = n

-- b / 3 digits are enough for b bits
abbrev pub Enough : Form → Type 0
Enough company = Unit
Enough (digits b n) = Unit
Enough (integer b) = (0 < b / 3) × (2 ^ b ≤ 10 ^ (b / 3))
Enough (string b) = Unit
Enough (at_most b n) = Unit
Enough (numeric b n) = Unit

string_length : (cs : List ℕ) → length (string_text cs) ≤ 3 * length cs
string_length [] = omega arith
string_length (c ∷ cs) = go (plain c) (string_length cs)
  where
    go : (b : Bool) → length (string_text cs) ≤ 3 * length cs → length (spelling b c ++ string_text cs) ≤ 3 * suc (length cs)
    go true h = omega arith
    go false h = omega arith

pub part_length : (f : Form) (p : List ℕ) → Enough f → Fit f p → length (spelled f p) ≤ longest f p
part_length company ds e h = rw length-map (omega (arith, (has_row ds h).1))
part_length (digits b n) ds e h = rw length-map (omega (arith, eqb→eq (length ds) n h.shape))
part_length (integer b) ds e h =
    let v = value 10 ds in
    let l : v < 10 ^ (b / 3) = le_trans (ltb→lt v (2 ^ b) h.size) e.1 in
    let n = ap length (whole_of ds (all_digits ds h.symbols) h.shape) in
    rw length-map (omega (arith, n, length_shortest 10 (lit< tt) v, size_le 10 (lit< tt) v (b / 3) e.0 l))
part_length (string b) cs e h = omega (arith, string_length cs, leb→le (length cs) (b / 7) h.size)
part_length (at_most b n) ds e h = rw length-map (omega (arith, leb→le (length ds) n (both (plain_number ds) (leb (length ds) n) h.shape).1))
part_length (numeric b n) ds e h = rw length-map (omega (arith, leb→le (length ds) n h.size))

-- What fits a layout has a text of at most m characters.
abbrev pub Within : Layout → ℕ → Type 0
Within (part r f k) m = Enough f × ((p : List ℕ) → Fit f p → (longest f p < m) × Within (k p) (m - suc (longest f p)))
Within (end r f) m = Enough f × ((p : List ℕ) → Fit f p → longest f p ≤ m)

written_length : {l : Layout} {ps : List (List ℕ)} → Fits l ps → (m : ℕ) → Within l m → length (written l ps) ≤ m
written_length (one {f = f} {p = p} h) m w = omega (arith, part_length f p w.0 h, w.1 p h)
written_length (more {f = f} {k = k} {p = p} {ps = ps} h i) m w =
    let (a, r) = w.1 p h in
    rw (length-append (spelled f p)) (omega (arith, part_length f p w.0 h, a, written_length i (m - suc (longest f p)) r))

-- b / 3 digits are enough for b bits, and are at most m
abbrev integer_tests : ℕ → ℕ → List Bool
integer_tests b m = ltb 0 (b / 3) ∷ leb (2 ^ b) (10 ^ (b / 3)) ∷ leb (b / 3) m ∷ []

integer_within : (b m : ℕ) → T (every (integer_tests b m)) → Enough (integer b) × (b / 3 ≤ m)
integer_within b m h =
    let (x, (y, (z, _))) = each (integer_tests b m) h in
    ((ltb→lt 0 (b / 3) x, leb→le (2 ^ b) (10 ^ (b / 3)) y), leb→le (b / 3) m z)

-- as it is seen row by row: behind the filter, the company prefix, the reference and what follows
abbrev EndWithin : Form → ℕ → Type 0
EndWithin company m = ⊥
EndWithin (digits b n) m = n ≤ m
EndWithin (integer b) m = T (every (integer_tests b m))
EndWithin (string b) m = 3 * (b / 7) ≤ m
EndWithin (at_most b n) m = n ≤ m
EndWithin (numeric b n) m = n ≤ m

abbrev BodyWithin : Body → ℕ → Row → Type 0
BodyWithin (Then t l) m r = ((cell t r).1 < m) × EndWithin (last_form l) (m - suc (cell t r).1)
BodyWithin (Zeros t z) m r = (cell t r).1 ≤ m
BodyWithin E m r = EndWithin (integer (asset_bits r)) m

abbrev PartsWithin : Parts → ℕ → Type 0
PartsWithin (F body) m = (2 ≤ m) × AllRows (λ P r. (prefix_digits r < m - 2) × BodyWithin body (m - 2 - suc (prefix_digits r)) r) 0 rows
PartsWithin (Integers a b c) m =
    EndWithin (integer a) m × EndWithin (integer b) (m - suc (a / 3)) × EndWithin (integer c) (m - suc (a / 3) - suc (b / 3)) × (a / 3 + b / 3 + 2 ≤ m)

end_within : (f : Form) (m : ℕ) → EndWithin f m → Within (end last f) m
end_within company m h = absurd h
end_within (digits b k) m h = (tt, λ p q. h)
end_within (integer b) m h = let (e, l) = integer_within b m h in (e, λ p q. l)
end_within (string b) m h = (tt, λ p q. h)
end_within (at_most b n) m h = (tt, λ p q. h)
end_within (numeric b n) m h = (tt, λ p q. h)

row_within : (t : Table) (b n : ℕ) (p : List ℕ) → Enough (counted t b n) × (longest (counted t b n) p ≡ n)
row_within t b n p = by_count_lem (λ f. Enough f × (longest f p ≡ n)) t b n (tt, refl) (tt, refl)

body_within : (body : Body) (n m : ℕ) → BodyWithin body m (row_of n) → Within (body_layout body n) m
body_within (Then t l) n m h =
    let (b, k) = cell t (row_of n) in
    ((row_within t b k []).0, λ p q. rw (row_within t b k p).1 (h.0, end_within (last_form l) (m - suc k) h.1))
body_within (Zeros t z) n m h =
    let (b, k) = cell t (row_of n) in
    ((row_within t b k []).0, λ p q. rw (row_within t b k p).1 h)
body_within E n m h = end_within (integer (asset_bits (row_of n))) m h

pub parts_within : (p : Parts) (m : ℕ) → PartsWithin p m → Within (laid p) m
parts_within (F body) m h = (
  (lit< tt, lit≤ tt),
  λ p q. (omega arith, (tt, λ ds q. let (a, r) = row ds q in (a, body_within body (length ds) _ r))),
)
  where
    row : (ds : List ℕ) → Fit company ds → (prefix_digits (row_of (length ds)) < m - 2) × BodyWithin body (m - 2 - suc (prefix_digits (row_of (length ds)))) (row_of (length ds))
    row ds q = by_row_lem (λ P r. (prefix_digits r < m - 2) × BodyWithin body (m - 2 - suc (prefix_digits r)) r) h.1 (partition (length ds)) (has_row ds q).0
parts_within (Integers a b c) m h =
    ((integer_within a m h.0).0, λ p q. (omega arith, ((integer_within b (m - suc (a / 3)) h.1).0, λ p q. (omega arith, end_within (integer c) (m - suc (a / 3) - suc (b / 3)) h.2))))

-- The control fields: 7 characters, 9, and the colon.
pub fields_length : (c : ControlFields) → length (fields_text c) ≤ 16
fields_length c = go c.umi c.att
  where
    go : (u a : ℕ) → length (standing Umi u ++ standing Att a) ≤ 16
    go zero zero = lit≤ tt
    go zero (suc a) = lit≤ tt
    go (suc u) zero = lit≤ tt
    go (suc u) (suc a) = lit≤ tt

closed_length : (l : List ℕ) → length (closed l) ≤ length l + 1
closed_length [] = omega arith
closed_length (x ∷ xs) = rw (length-append (x ∷ xs)) (omega arith)

pub control_length : (c : ControlFields) → length (control_text c) ≤ 17
control_length c = omega (arith, fields_length c, closed_length (fields_text c))

-- without them: 99 characters are enough, and 96 for six words
abbrev pub characters : ℕ → ℕ
characters W = cond (leb W 6) 96 99

pub characters_few : (W : ℕ) → 6 ≤ W → (96 ≤ characters W) × (characters W ≤ 99) × (characters W ≤ 16 * W)
characters_few W l = go (leb W 6) refl
  where
    go : (t : Bool) → leb W 6 ≡ t → (96 ≤ cond t 96 99) × (cond t 96 99 ≤ 99) × (cond t 96 99 ≤ 16 * W)
    go true e = (omega arith, omega arith, omega arith)
    go false e = (omega arith, omega arith, omega (arith, nleb→lt W 6 (rw e tt)))

-- what is left of them behind the start, the name and the colon
abbrev pub left : Scheme → ℕ
left s = characters (words s) - (12 + length (label s))

-- what is seen scheme by scheme: the words, the name, and that so many characters are enough
pub record Measured (s : Scheme) : Type 0 where
  pub least_words : 6 ≤ words s
  pub most_words_lem : words s ≤ 13
  pub least_name : 2 ≤ length (label s)
  pub most_name : 12 + length (label s) ≤ 96
  pub parts : PartsWithin (about s).parts (left s)

pub measured : (s : Scheme) → Measured s
unfolding rows
measured Sgtin96 = omega arith
measured Sgtin198 = omega arith
measured Sscc96 = omega arith
measured Sgln96 = omega arith
measured Sgln195 = omega arith
measured Grai96 = omega arith
measured Grai170 = omega arith
measured Giai96 = omega arith
measured Gsrn96 = omega arith
measured Gsrnp96 = omega arith
measured Gdti96 = omega arith
measured Gdti174 = omega arith
measured Gid96 = omega arith
measured Gdti113 = omega arith
measured Sgcn96 = omega arith
measured Cpi96 = omega arith

-- so a text has at most 99 characters and 17, and for a scheme of six words 113
text_within : (t : List ℕ) (τ : Tag) → TagText t τ → length t ≤ 17 + characters (words τ.scheme)
unfolding text_of start
text_within t τ r =
    let s = τ.scheme in
    let m = measured s in
    let w = written_length r.fits.parts (left s) (parts_within (about s).parts (left s) m.parts) in
    rw (r.text, length-append (control_text τ.control), length-append (label s)) (omega (arith, w, m.most_name, control_length τ.control, characters_few (words s) m.least_words))

pub text_length : (t : List ℕ) (τ : Tag) → TagText t τ → length t ≤ 116
text_length t τ r = let s = τ.scheme in omega (arith, text_within t τ r, characters_few (words s) (measured s).least_words)

pub text_of_words : (t : List ℕ) (τ : Tag) → TagText t τ → length t ≤ 17 + 16 * words τ.scheme
text_of_words t τ r = let s = τ.scheme in omega (arith, text_within t τ r, characters_few (words s) (measured s).least_words)

pub bank_size_lem : (W : ℕ) (τ : Tag) → EnoughWords W τ.scheme → length (bank_of W τ) ≤ 64
bank_size_lem W τ enough = omega (arith, bank_length W τ, enough.1)

-- The raw line.
hex_length : (l : List ℕ) → length (hex_text l) ≡ 2 * length l
hex_length [] = refl
hex_length (x ∷ xs) = omega (arith, hex_length xs)

pub afi_length : (t : Bool) (a : ℕ) → length (afi_text t a) ≤ 4
afi_length true a = lit≤ tt
afi_length false a = lit≤ tt

raw_shape : (n : ℕ) (a x : List ℕ) → n < 1000 → length a ≤ 4 → length x ≤ 62
    → length (bytes "urn:epc:raw:" ++ (digits_text (shortest 10 n) ++ (a ++ (bytes ".x" ++ hex_text x)))) ≤ 145
raw_shape n a x l m k =
    let d = size_le 10 (lit< tt) n 3 (lit< tt) l in
    simp (length-append, length-map, length_shortest 10 (lit< tt), hex_length) (omega arith)

pub raw_length : (b : List ℕ) → length (raw_text b) ≤ 145
unfolding raw_text
raw_length b = raw_shape (16 * word_count b) (afi b) (drop 2 (within b)) (omega (arith, at_lt b 0x10 5)) (search afi_length) (simp (length-drop, length-take) (omega (arith, at_lt b 0x10 5)))

pub sizes_hold : (t b : List ℕ) (W : ℕ) (τ : Tag) → TagText t τ → EnoughWords W τ.scheme → (length t ≤ 116) × (length (bank_of W τ) ≤ 64) × (length (raw_text b) ≤ 145)
sizes_hold t b W τ r enough = (text_length t τ r, bank_size_lem W τ enough, raw_length b)

-- a bank of 31 words fills the room that number 1 asks for, whatever its tag
pub bank_fills : (τ : Tag) → length (bank_of most_words τ) ≡ bank_room
bank_fills τ = bank_length most_words τ

-- a text of 116 characters that is taken, and a raw line of 145
abbrev pub longest_text : List ℕ
longest_text = bytes "urn:epc:tag:[umi=1][att=xFF]:sgtin-198:0.123456.1234567.%22%25%26%2F%3C%3E%3F%22%25%26%2F%3C%3E%3F%22%25%26%2F%3C%3E"

pub text_reached : (text_number longest_text ≡ 0) × (length longest_text ≡ 116)
unfolding text_number tag_of_text value_in value start schemes rows table_a1 escaped
text_reached = (refl, refl)

abbrev pub longest_raw : List ℕ
longest_raw = 0xF9 ∷ replicate 63 0

pub raw_reached : length (raw_text longest_raw) ≡ 145
unfolding raw_text value numeral spread size_in size shortest
raw_reached = refl
