-- Bank to text: the number and the place of a bank (document 01, "Numbers given, and when": 9 to 19; document 02, C-12, C-13 and C-15). A reader
-- is told at which address its bits begin.
use Rattle.std.specs.Prelude.{ℕ, ◌+◌, ◌-◌, ◌*◌, ◌/◌, ◌^◌, List, [], ◌∷◌, Bool, ◌&&◌, not, cond, leb, ltb, eqb, length, take, drop}
use Rattle.std.specs.Prelude.{Option, None, Some, option_map}
use Rattle.numeral.specs.Numeral.{value, numeral, spread, gather, shortest}
use Rattle.rules.specs.Answers.{Answer, taken, ◌>>=◌, ◌>>◌, demand, given, kept, number_of, place_of}
use Rattle.rules.specs.Bytes.{all, upto}
use Rattle.rules.specs.declared.Scheme.{Scheme}
use Rattle.rules.specs.declared.ControlFields.{ControlFields}
use Rattle.rules.specs.Schemes.{Form, company, digits, integer, string, at_most, numeric, schemes, about, words, zero_bits, row_at, prefix_bits, prefix_digits}
use Rattle.rules.specs.Characters.{character}
use Rattle.rules.specs.Grammar.{Layout, part, end, layout, Tag}
use Rattle.rules.specs.Coding.{at, word_count, bank_size}

-- a part, the address behind it, and the bits from there on
pub record Field : Type 0 where
  pub symbols : List ℕ
  pub next : ℕ
  pub rest : List ℕ

-- the part p, whose b bits begin at address a
abbrev pub field : List ℕ → ℕ → ℕ → List ℕ → Field
field p a b l = record { symbols = p; next = a + b; rest = drop b l }

-- the b bits from address a on as n digits: refused with m if the number has more
abbrev pub decimal : ℕ → ℕ → ℕ → ℕ → List ℕ → Answer Field
decimal m a b n l = do
  let v = value 2 (take b l)
  demand (ltb v (10 ^ n)) m a
  taken (field (numeral 10 n v) a b l)

abbrev pub all_zero : List ℕ → Bool
all_zero = all λ x. eqb x 0

-- the groups before the first zero, if only zeros follow
abbrev pub leading : List ℕ → Option (List ℕ)
leading [] = Some []
leading (g ∷ gs) = let r = option_map (g ∷◌) (leading gs) in cond (eqb g 0) (cond (all_zero gs) (Some []) None) r

-- the string in its groups
abbrev pub string_in : List ℕ → Option (List ℕ)
string_in gs = kept (λ cs. ltb 0 (length cs) && all character cs) (leading gs)

-- the digits behind a 1
abbrev pub behind_one : List ℕ → Option (List ℕ)
behind_one [] = None
behind_one (d ∷ ds) = cond (eqb d 1) (Some ds) None

-- the numeric string in a numeral, a 1 and 1 to n digits
abbrev pub numeric_in : ℕ → List ℕ → Option (List ℕ)
numeric_in n l = kept (λ ds. ltb 0 (length ds) && leb (length ds) n) (behind_one l)

-- 16: the partition value; 17: the company prefix; 18: the reference of A to D, and of cpi-96's table; 19: a string, or a numeric string
abbrev pub field_in : ℕ → Form → List ℕ → Answer Field
field_in a company l = do
  let P = value 2 (take 3 l)
  demand (not (eqb P 7)) 16 a
  decimal 17 (a + 3) (prefix_bits (row_at P)) (prefix_digits (row_at P)) (drop 3 l)
field_in a (digits b n) l = decimal 18 a b n l
field_in a (integer b) l = taken (field (shortest 10 (value 2 (take b l))) a b l)
field_in a (string b) l = do
  cs ← given (string_in (gather 2 7 (b / 7) (take b l))) 19 a
  taken (field cs a b l)
field_in a (at_most b n) l = do
  let v = value 2 (take b l)
  demand (ltb v (10 ^ n)) 18 a
  taken (field (shortest 10 v) a b l)
field_in a (numeric b n) l = do
  ds ← given (numeric_in n (shortest 10 (value 2 (take b l)))) 19 a
  taken (field ds a b l)

-- bits are taken in order
abbrev pub fields_in : ℕ → Layout → List ℕ → Answer (List (List ℕ))
fields_in a (part r f k) l = do
  c ← field_in a f l
  ps ← fields_in c.next (k c.symbols) c.rest
  taken (c.symbols ∷ ps)
fields_in a (end r f) l = do
  c ← field_in a f l
  taken (c.symbols ∷ [])

abbrev pub headed : ℕ → List Scheme → Option Scheme
headed h [] = None
headed h (s ∷ ss) = let r = headed h ss in cond (eqb h (about s).header) (Some s) r

-- the code: W words from 20h on
abbrev pub code_in : List ℕ → List ℕ
code_in b = take (16 * word_count b) (drop (0x20 - 0x10) (spread 2 8 b))

-- 9 and 10: the word count, if the words are there and are not none
abbrev pub words_in : List ℕ → Answer ℕ
words_in b = do
  let W = word_count b
  demand (leb 2 (length b) && leb (bank_size W) (length b)) 9 (length b)
  demand (ltb 0 W) 10 0x10
  taken W

-- 11 and 12: the same, if the toggle and the XPC bit are 0
abbrev pub control_in : List ℕ → Answer ℕ
control_in b = do
  W ← words_in b
  demand (eqb (at b 0x17 1) 0) 11 0x17
  demand (eqb (at b 0x16 1) 0) 12 0x16
  taken W

-- the other control bits are the control fields
abbrev pub control_fields : List ℕ → ControlFields
control_fields b = record { umi = at b 0x15 1; att = at b 0x18 8 }

unfoldable pub tag_of_bank : List ℕ → Answer Tag
tag_of_bank b = do
  let code = code_in b
  W ← control_in b
  s ← given (headed (value 2 (take 8 code)) schemes) 13 0x20
  demand (leb (words s) W) 14 0x10
  let n = (about s).bits - zero_bits (about s).parts
  demand (all_zero (drop n code)) 15 (0x20 + (n + length (upto 1 (drop n code))))
  ps ← fields_in 0x28 (layout s) (drop 8 code)
  taken (record { scheme = s; control = control_fields b; parts = ps })

unfoldable pub bank_number : List ℕ → ℕ
bank_number b = number_of (tag_of_bank b)

unfoldable pub bank_place : List ℕ → ℕ
bank_place b = place_of (tag_of_bank b)
