-- When each number applies, by itself and in the words of document 01 ("Numbers given, and when") and document 02 (C-11, C-13 and C-15), and its
-- place (document 02, C-12), apart from the readers of TextNumbers and BankNumbers.
use Rattle.std.specs.Prelude.{ℕ, ◌+◌, ◌-◌, ◌*◌, ◌/◌, ◌^◌, ◌≤◌, ◌<◌, ◌≡◌, ◌⊎◌, List, [], ◌∷◌, ◌++◌, T, length, drop}
use Rattle.numeral.specs.Numeral.{value, Digits}
use Rattle.rules.specs.Bytes.{all, among, upto, behind, dot, colon, digits_text}
use Rattle.rules.specs.declared.Scheme.{Scheme}
use Rattle.rules.specs.declared.ControlFields.{ControlFields}
use Rattle.rules.specs.declared.Last.TheVariants.{Integer, String, Numeric}
use Rattle.rules.specs.declared.Body.{Body}
use Rattle.rules.specs.declared.Body.TheVariants.{Then, Zeros, E}
use Rattle.rules.specs.declared.Parts.{Parts}
use Rattle.rules.specs.declared.Parts.TheVariants.{F, Integers}
use Rattle.rules.specs.Schemes.{Form, company, digits, integer, string, at_most, numeric, last_form, Row, Cell, cell, row_digits, asset_bits, prefix_bits, prefix_digits, row_at, row_of, about, words, zero_bits}
use Rattle.rules.specs.Characters.{character, string_text}
use Rattle.rules.specs.declared.ControlName.{ControlName}
use Rattle.rules.specs.declared.ControlName.TheVariants.{Umi, Att}
use Rattle.rules.specs.ControlFields.{most, field_text, fields_text, control_text, ControlFits, bracket}
use Rattle.rules.specs.Grammar.{start, label}
use Rattle.rules.specs.Coding.{at, word_count}

-- a number, when it applies, and what its place is then
pub record Rule : Type 1 where
  pub number : ℕ
  pub applies : Type 0
  pub place : ℕ → Type 0

abbrev pub rule : ℕ → Type 0 → (ℕ → Type 0) → Rule
rule n P Q = record { number = n; applies = P; place = Q }

-- n and p are the number and the place of the first rule that applies, 0 and 0 where none does
abbrev pub First : List Rule → ℕ → ℕ → Type 0
First [] n p = (n ≡ 0) × (p ≡ 0)
First (r ∷ rs) n p = (r.applies × (n ≡ r.number) × r.place p) ⊎ ((¬ r.applies) × First rs n p)

-- TEXT TO BANK

-- p is the offset in t at which x, an end of t, begins
abbrev pub Begins : List ℕ → List ℕ → ℕ → Type 0
Begins t x p = (p ≤ length t) × (x ≡ drop p t)

-- u begins with the character x
abbrev pub Starts : ℕ → List ℕ → Type 0
Starts x u = (v : List ℕ) × (u ≡ x ∷ v)

-- u begins with the control field f of the value v, zero too
abbrev pub IsField : ControlName → ℕ → List ℕ → Type 0
IsField f v u = (v ≤ most f) × (w : List ℕ) × (u ≡ field_text f v ++ w)

abbrev pub value_of : ControlName → ControlFields → ℕ
value_of Umi c = c.umi
value_of Att c = c.att

-- a control field at w, behind the fields of c, is malformed, out of order, repeated, unknown or zero
pub data WrongField (c : ControlFields) (w : List ℕ) : Type 0 where
  malformed_or_unknown : ¬ ((f : ControlName) × (v : ℕ) × IsField f v w) → WrongField c w
  out_of_order : (v : ℕ) → IsField Umi v w → 0 < c.att → WrongField c w
  repeated : (f : ControlName) (v : ℕ) → IsField f v w → 0 < value_of f c → WrongField c w
  of_zero : (f : ControlName) → IsField f 0 w → WrongField c w

-- the colon after the last of them is missing at w
abbrev pub NoColon : ControlFields → List ℕ → Type 0
NoColon c w = (0 < length (fields_text c)) × (¬ (Starts bracket w)) × (¬ (Starts colon w))

-- 20 and its place: behind the start and control fields that are right stands such a field, or no colon
abbrev pub FaultAt : List ℕ → ℕ → Type 0
FaultAt t p =
    (c : ControlFields) × (w : List ℕ) × ControlFits c × (t ≡ start ++ (fields_text c ++ w)) × ((Starts bracket w × WrongField c w) ⊎ NoColon c w) × Begins t w p

-- t is the start, the control fields of c with their colon, and u; where no field stands, no bracket follows
abbrev pub ControlledBy : List ℕ → ControlFields → List ℕ → Type 0
ControlledBy t c u = ControlFits c × (t ≡ start ++ (control_text c ++ u)) × (fields_text c ≡ [] → ¬ (Starts bracket u))

-- the place of 3: where the name begins, or would begin
abbrev pub NameAt : List ℕ → ℕ → Type 0
NameAt t p = (c : ControlFields) × (u : List ℕ) × ControlledBy t c u × Begins t u p

-- x is the digits ds, written in decimal
abbrev pub Decimal : List ℕ → List ℕ → Type 0
Decimal x ds = Digits 10 ds × (x ≡ digits_text ds)

-- `0`, or digits with no leading zero
pub data Whole : List ℕ → Type 0 where
  zero_alone : Whole (0 ∷ [])
  leading : {d : ℕ} {ds : List ℕ} → 0 < d → Whole (d ∷ ds)

-- x is the characters cs, each as itself or as its escape
abbrev pub Spelled : List ℕ → List ℕ → Type 0
Spelled x cs = T (all character cs) × (x ≡ string_text cs)

-- the text x has the form f, whatever its size; empty is no integer, no string and no numeric string
abbrev pub Formed : Form → List ℕ → Type 0
Formed company x = (ds : List ℕ) × Decimal x ds × (6 ≤ length ds) × (length ds ≤ 12)
Formed (digits b n) x = (ds : List ℕ) × Decimal x ds × (length ds ≡ n)
Formed (integer b) x = (ds : List ℕ) × Decimal x ds × Whole ds
Formed (string b) x = (cs : List ℕ) × Spelled x cs × (0 < length cs)
Formed (at_most b n) x = (ds : List ℕ) × Decimal x ds × Whole ds × (length ds ≤ n)
Formed (numeric b n) x = (ds : List ℕ) × Decimal x ds × (0 < length ds)

-- its value, or its number of characters or digits, is too large
abbrev pub TooLarge : Form → List ℕ → Type 0
TooLarge company x = ⊥
TooLarge (digits b n) x = ⊥
TooLarge (integer b) x = (ds : List ℕ) × Decimal x ds × (2 ^ b ≤ value 10 ds)
TooLarge (string b) x = (cs : List ℕ) × Spelled x cs × (b / 7 < length cs)
TooLarge (at_most b n) x = ⊥
TooLarge (numeric b n) x = (ds : List ℕ) × Decimal x ds × (n < length ds)

-- the run of u up to the next dot is such a part, and there is a dot
abbrev pub Stands : Form → List ℕ → Type 0
Stands f u = T (among dot u) × Formed f (upto dot u) × (¬ (TooLarge f (upto dot u)))

-- t is the start, control fields, a listed name, the colon, and u
abbrev pub Named : List ℕ → Scheme → List ℕ → Type 0
Named t s u = (c : ControlFields) × ControlFits c × (t ≡ start ++ (control_text c ++ (label s ++ u)))

abbrev pub OfText : List ℕ → (Parts → List ℕ → Type 0) → Type 0
OfText t Q = (s : Scheme) × (u : List ℕ) × Named t s u × Q (about s).parts u

-- 4: filter is not one digit 0 to 7 and a dot (never for gid-96)
abbrev pub NoFilter : Parts → List ℕ → Type 0
NoFilter (F body) u = ¬ ((d : ℕ) × (v : List ℕ) × (d < 8) × (u ≡ digits_text (d ∷ []) ++ dot ∷ v))
NoFilter (Integers a b c) u = ⊥

-- 5: the run up to the next dot is not 6 to 12 digits, or there is no dot; for gid-96, it is no integer below 2^28, or there is no dot
abbrev pub NoPrefix : Parts → List ℕ → Type 0
NoPrefix (F body) u = ¬ (Stands company (behind dot u))
NoPrefix (Integers a b c) u = ¬ (Stands (integer a) u)

-- the number of the company prefix's digits, which picks the row, and the text behind the prefix and its dot
abbrev pub OfRow : List ℕ → (ℕ → List ℕ → Type 0) → Type 0
OfRow u Q = let v = behind dot u in Q (length (upto dot v)) (behind dot v)

-- 6: reference (A to D) is not the row's digits followed by a dot, or by the end for table B; cpi-96's is no integer of at most the row's
-- digits followed by a dot; for gid-96, the run up to the next dot is no integer below 2^24, or there is no dot
abbrev pub NoCell : Body → ℕ → List ℕ → Type 0
NoCell (Then t l) n w = ¬ (Stands (row_digits t (row_of n)) w)
NoCell (Zeros t z) n w = ¬ (Formed (row_digits t (row_of n)) w)
NoCell E n w = ⊥

abbrev pub NoReference : Parts → List ℕ → Type 0
NoReference (F body) u = OfRow u (NoCell body)
NoReference (Integers a b c) u = ¬ (Stands (integer b) (behind dot u))

-- the form of the last part, and the last part: the rest of the text; table B's reference is settled by 6 alone
abbrev pub OfEnd : (Form → List ℕ → Type 0) → Body → ℕ → List ℕ → Type 0
OfEnd Q (Then t l) n w = Q (last_form l) (behind dot w)
OfEnd Q (Zeros t z) n w = ⊥
OfEnd Q E n w = Q (integer (asset_bits (row_of n))) w

abbrev pub OfLast : (Form → List ℕ → Type 0) → Parts → List ℕ → Type 0
OfLast Q (F body) u = OfRow u (OfEnd Q body)
OfLast Q (Integers a b c) u = Q (integer c) (behind dot (behind dot u))

-- The text from a part on. The filter stands behind the name and its colon, and so does gid-96's first integer; the prefix behind the
-- filter and its dot; the reference behind the prefix and its dot; the last part behind the reference and its dot, or it is the reference.
abbrev pub from_filter : Parts → List ℕ → List ℕ
from_filter q u = u

abbrev pub from_prefix : Parts → List ℕ → List ℕ
from_prefix (F body) u = behind dot u
from_prefix (Integers a b c) u = u

abbrev pub from_reference : Parts → List ℕ → List ℕ
from_reference q u = behind dot (from_prefix q u)

abbrev pub from_end : Body → List ℕ → List ℕ
from_end (Then t l) w = behind dot w
from_end (Zeros t z) w = w
from_end E w = w

abbrev pub from_last : Parts → List ℕ → List ℕ
from_last (F body) u = from_end body (from_reference (F body) u)
from_last (Integers a b c) u = behind dot (from_reference (Integers a b c) u)

-- p is the offset of the first character of a part: where it begins, or would begin
abbrev pub PartAt : List ℕ → (Parts → List ℕ → List ℕ) → ℕ → Type 0
PartAt t from p = OfText t λ q u. Begins t (from q u) p

unfoldable pub text_rules : List ℕ → List Rule
text_rules t =
    -- doesn't begin with `urn:epc:tag:`
    rule 2 (¬ ((u : List ℕ) × (t ≡ start ++ u))) (◌≡ 0) ∷
    -- `[` follows, and a control field is wrong, or the colon after the last is missing
    rule 20 ((p : ℕ) × FaultAt t p) (FaultAt t) ∷
    -- what follows is not a listed name and a colon
    rule 3 (¬ ((s : Scheme) × (u : List ℕ) × Named t s u)) (NameAt t) ∷
    rule 4 (OfText t NoFilter) (PartAt t from_filter) ∷
    rule 5 (OfText t NoPrefix) (PartAt t from_prefix) ∷
    rule 6 (OfText t NoReference) (PartAt t from_reference) ∷
    -- last part has the wrong form, empty included
    rule 7 (OfText t (OfLast λ f x. ¬ (Formed f x))) (PartAt t from_last) ∷
    -- last part's value, or its number of characters or digits, is too large
    rule 8 (OfText t (OfLast TooLarge)) (PartAt t from_last) ∷ []

-- 22: W is neither 0 nor at least the scheme's count
abbrev pub TooFew : ℕ → Scheme → Type 0
TooFew W s = (¬ (W ≡ 0)) × (¬ (words s ≤ W))

-- a text, and the W asked for
unfoldable pub asked_rules : ℕ → List ℕ → List Rule
asked_rules W t =
    -- W is above 31, whatever the text
    rule 21 (31 < W) (◌≡ 0) ∷
    (text_rules t ++
    (rule 22 ((s : Scheme) × (u : List ℕ) × Named t s u × TooFew W s) (◌≡ 0) ∷ []))

-- BANK TO TEXT

abbrev pub OfBank : List ℕ → (Scheme → Type 0) → Type 0
OfBank b Q = (s : Scheme) × (at b 0x20 8 ≡ (about s).header) × Q s

-- P, and its row
abbrev pub partition_in : List ℕ → ℕ
partition_in b = at b 0x2B 3

abbrev pub row_in : List ℕ → Row
row_in b = row_at (partition_in b)

-- the code bit behind the parts, from which on all must be 0: the 24 zero bits, the fill, and the words that the scheme doesn't need
abbrev pub zeros_from : Scheme → ℕ
zeros_from s = (about s).bits - zero_bits (about s).parts

-- 15: a fill bit, one of the 24 zero bits or a bit of the further words, the bits from code bit n to the last of the W words, is 1
abbrev pub MustBeZero : List ℕ → ℕ → ℕ → Type 0
MustBeZero b n a = (0x20 + n ≤ a) × (a < 0x20 + 16 * word_count b)

abbrev pub OneAfter : List ℕ → ℕ → Type 0
OneAfter b n = (a : ℕ) × MustBeZero b n a × (at b a 1 ≡ 1)

-- the place of 15: that bit is 1, it must be 0, and every bit before it that must be 0 is 0
abbrev pub FirstOne : List ℕ → ℕ → ℕ → Type 0
FirstOne b n p = MustBeZero b n p × (at b p 1 ≡ 1) × ((a : ℕ) → MustBeZero b n a → a < p → at b a 1 ≡ 0)

-- 16: P is 7
abbrev pub NoRow : List ℕ → Parts → Type 0
NoRow b (F body) = partition_in b ≡ 7
NoRow b (Integers m n k) = ⊥

-- 17: prefix is 10^digits or more
abbrev pub LargePrefix : List ℕ → Parts → Type 0
LargePrefix b (F body) = 10 ^ prefix_digits (row_in b) ≤ at b 0x2E (prefix_bits (row_in b))
LargePrefix b (Integers m n k) = ⊥

-- 18: reference of A to D, or of cpi-96's table, is 10^digits or more; with 0 digits, not 0
abbrev pub LargeCell : List ℕ → Cell → Type 0
LargeCell b c = 10 ^ c.1 ≤ at b (0x2E + prefix_bits (row_in b)) c.0

abbrev pub LargeReference : List ℕ → Parts → Type 0
LargeReference b (F (Then t l)) = LargeCell b (cell t (row_in b))
LargeReference b (F (Zeros t z)) = LargeCell b (cell t (row_in b))
LargeReference b (F E) = ⊥
LargeReference b (Integers m n k) = ⊥

-- 19: string begins with a zero, has a nonzero group after a zero, or a group outside table A-1
abbrev pub WrongGroups : ℕ → (ℕ → ℕ) → Type 0
WrongGroups k group =
    (group 0 ≡ 0)
    ⊎ ((i : ℕ) × (j : ℕ) × (i < j) × (j < k) × (group i ≡ 0) × (¬ (group j ≡ 0)))
    ⊎ ((i : ℕ) × (i < k) × (¬ (group i ≡ 0)) × (¬ T (character (group i))))

-- 19 of a numeric string: the integer doesn't read as this, a 1 and 1 to n digits
abbrev pub OneThen : ℕ → ℕ → Type 0
OneThen n v = (ds : List ℕ) × Digits 10 ds × (0 < length ds) × (length ds ≤ n) × (v ≡ value 10 (1 ∷ ds))

-- a string, or a numeric string, that ends at code bit n; a string's first group stands at its first bit
abbrev pub WrongLast : List ℕ → ℕ → Parts → Type 0
WrongLast b n (F (Then t (Integer m))) = ⊥
WrongLast b n (F (Then t (String m))) = WrongGroups (m / 7) λ i. at b (0x20 + (n - m) + 7 * i) 7
WrongLast b n (F (Then t (Numeric m k))) = ¬ (OneThen k (at b (0x20 + (n - m)) m))
WrongLast b n (F (Zeros t z)) = ⊥
WrongLast b n (F E) = ⊥
WrongLast b n (Integers m k l) = ⊥

-- the place of 19: the first bit of the string, or of the numeric string, not of the group that is wrong
abbrev pub LastAt : ℕ → Parts → ℕ → Type 0
LastAt n (F (Then t (Integer m))) p = ⊥
LastAt n (F (Then t (String m))) p = p ≡ 0x20 + (n - m)
LastAt n (F (Then t (Numeric m k))) p = p ≡ 0x20 + (n - m)
LastAt n (F (Zeros t z)) p = ⊥
LastAt n (F E) p = ⊥
LastAt n (Integers m k l) p = ⊥

-- 9: fewer than 2 bytes, or fewer than 2 + 2W, and its place is the number of bytes lent; 10: W is 0
unfoldable pub raw_rules : List ℕ → List Rule
raw_rules b =
    rule 9 ((length b < 2) ⊎ (length b < 2 + 2 * word_count b)) (◌≡ length b) ∷
    rule 10 (word_count b ≡ 0) (◌≡ 0x10) ∷ []

unfoldable pub bank_rules : List ℕ → List Rule
bank_rules b =
    raw_rules b ++
    -- toggle is 1
    (rule 11 (at b 0x17 1 ≡ 1) (◌≡ 0x17) ∷
    -- bit 16h is 1
    rule 12 (at b 0x16 1 ≡ 1) (◌≡ 0x16) ∷
    -- header not in the table
    rule 13 (¬ ((s : Scheme) × (at b 0x20 8 ≡ (about s).header))) (◌≡ 0x20) ∷
    -- fewer words than the scheme needs
    rule 14 (OfBank b λ s. word_count b < words s) (◌≡ 0x10) ∷
    rule 15 (OfBank b λ s. OneAfter b (zeros_from s)) (λ p. OfBank b λ s. FirstOne b (zeros_from s) p) ∷
    rule 16 (OfBank b λ s. NoRow b (about s).parts) (◌≡ 0x2B) ∷
    rule 17 (OfBank b λ s. LargePrefix b (about s).parts) (◌≡ 0x2E) ∷
    -- at 2Eh plus the prefix bits of the row
    rule 18 (OfBank b λ s. LargeReference b (about s).parts) (◌≡ 0x2E + prefix_bits (row_in b)) ∷
    rule 19 (OfBank b λ s. WrongLast b (about s).bits (about s).parts) (λ p. OfBank b λ s. LastAt (about s).bits (about s).parts p) ∷ [])
