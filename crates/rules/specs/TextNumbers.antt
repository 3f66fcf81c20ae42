-- Text to bank: the number and the place of a text, read left to right (document 01, "Numbers given, and when": 2 to 8; document 02, C-12
-- and C-13). A reader is told at which offset of the text it begins.
use Rattle.std.specs.Prelude.{ℕ, zero, suc, ◌+◌, ◌-◌, ◌/◌, ◌%◌, List, [], ◌∷◌, Bool, false, ◌&&◌, cond, leb, eqb, length}
use Prim.Native.Char.{code}
use Rattle.std.specs.Prelude.{Option, None, Some, option_map}
use Rattle.rules.specs.Answers.{Answer, taken, ◌>>=◌, ◌>>◌, demand, given, kept, number_of, place_of}
use Rattle.rules.specs.Bytes.{among, upto, behind, dot, colon, percent, hex_digit}
use Rattle.rules.specs.declared.Scheme.{Scheme}
use Rattle.rules.specs.declared.ControlFields.{ControlFields}
use Rattle.rules.specs.Schemes.{Form, company, digits, integer, string, at_most, numeric, schemes}
use Rattle.rules.specs.Characters.{escaped, plain}
use Rattle.rules.specs.declared.ControlName.{ControlName}
use Rattle.rules.specs.declared.ControlName.TheVariants.{Umi, Att}
use Rattle.rules.specs.ControlFields.{most, field_text, fields_text, no_fields, bracket}
use Rattle.rules.specs.Grammar.{Role, filter, prefix, reference, last, Layout, part, end, layout, shaped, sized, Tag, start, label}

-- the text behind s, if t begins with s
abbrev pub after : List ℕ → List ℕ → Option (List ℕ)
after [] t = Some t
after (x ∷ s) [] = None
after (x ∷ s) (y ∷ t) = let r = after s t in cond (eqb x y) r None

-- a control field's value, and the text behind it
pub record Valued : Type 0 where
  pub value : ℕ
  pub rest : List ℕ

abbrev pub either : ℕ → Option (List ℕ) → Valued → Valued
either v None o = o
either v (Some r) o = record { value = v; rest = r }

-- the value, at most n and not zero, whose field u begins with; 0 if there is none
abbrev pub valued : ControlName → ℕ → List ℕ → Valued
valued f zero u = record { value = 0; rest = u }
valued f (suc n) u = either (suc n) (after (field_text f (suc n)) u) (valued f n u)

unfoldable pub value_in : ControlName → List ℕ → Valued
value_in f u = valued f (most f) u

-- control fields, the offset behind their colon, and the text from there on
pub record Controlled : Type 0 where
  pub control : ControlFields
  pub next : ℕ
  pub rest : List ℕ

-- 20: the fields that stand from offset i on, in their order, then a colon
abbrev pub bracketed : ℕ → List ℕ → Answer Controlled
bracketed i u = do
  let m = value_in Umi u
  let a = value_in Att m.rest
  let c : ControlFields = record { umi = m.value; att = a.value }
  let j = i + length (fields_text c)
  v ← given (after (colon ∷ []) a.rest) 20 j
  taken (record { control = c; next = j + 1; rest = v })

-- if a bracket follows
abbrev pub opens : List ℕ → Bool
opens [] = false
opens (x ∷ xs) = eqb x bracket

abbrev pub control_fields_in : ℕ → List ℕ → Answer Controlled
control_fields_in i u = let b = bracketed i u in cond (opens u) b (taken (record { control = no_fields; next = i; rest = u }))

-- the scheme whose name and colon u begins with, and the text behind them
pub record Named : Type 0 where
  pub scheme : Scheme
  pub rest : List ℕ

abbrev pub choose : Scheme → Option (List ℕ) → Option Named → Option Named
choose s None o = o
choose s (Some v) o = Some (record { scheme = s; rest = v })

abbrev pub named : List Scheme → List ℕ → Option Named
named [] u = None
named (s ∷ ss) u = choose s (after (label s) u) (named ss u)

-- the digits of a text that has nothing else
abbrev pub is_digit : ℕ → Bool
is_digit x = leb (code "0") x && leb x (code "9")

abbrev pub digits_in : List ℕ → Option (List ℕ)
digits_in [] = Some []
digits_in (x ∷ xs) = let r = option_map ((x - code "0") ∷◌) (digits_in xs) in cond (is_digit x) r None

-- the character among es whose escape has these two digits
abbrev pub escape : List ℕ → ℕ → ℕ → Option ℕ
escape [] h l = None
escape (e ∷ es) h l = let r = escape es h l in cond (eqb h (hex_digit (e / 16)) && eqb l (hex_digit (e % 16))) (Some e) r

abbrev pub itself : ℕ → Option ℕ
itself c = cond (plain c) (Some c) None

abbrev pub put : Option ℕ → Option (List ℕ) → Option (List ℕ)
put None r = None
put (Some c) r = option_map (c ∷◌) r

-- the characters of a text, each itself or an escape, that has nothing else
abbrev pub characters_in : List ℕ → Option (List ℕ)
characters_in [] = Some []
characters_in (c ∷ []) = put (itself c) (Some [])
characters_in (c ∷ h ∷ []) = put (itself c) (characters_in (h ∷ []))
characters_in (c ∷ h ∷ l ∷ t) =
    let e = put (escape escaped h l) (characters_in t) in
    let p = put (itself c) (characters_in (h ∷ l ∷ t)) in
    cond (eqb c percent) e p

abbrev pub symbols_in : Form → List ℕ → Option (List ℕ)
symbols_in company = digits_in
symbols_in (digits b n) = digits_in
symbols_in (integer b) = digits_in
symbols_in (string b) = characters_in
symbols_in (at_most b n) = digits_in
symbols_in (numeric b n) = digits_in

-- the part that a text of this form is, whatever its size
abbrev pub formed : Form → List ℕ → Option (List ℕ)
formed f t = kept (shaped f) (symbols_in f t)

-- the number of a text that is refused at a part
abbrev pub number_at : Role → ℕ
number_at filter = 4
number_at prefix = 5
number_at reference = 6
number_at last = 7

-- a part that begins at offset i, up to the next dot: n for its form and for its size
abbrev pub part_in : ℕ → ℕ → Form → List ℕ → Answer (List ℕ)
part_in n i f t = do
  demand (among dot t) n i
  p ← given (formed f (upto dot t)) n i
  demand (sized f p) n i
  taken p

-- the part that begins at offset i and ends the text: n for its form, 8 for its size
abbrev pub last_in : ℕ → ℕ → Form → List ℕ → Answer (List ℕ)
last_in n i f t = do
  p ← given (formed f t) n i
  demand (sized f p) 8 i
  taken p

-- the parts from left to right
abbrev pub parts_in : ℕ → Layout → List ℕ → Answer (List (List ℕ))
parts_in i (part r f k) t = do
  p ← part_in (number_at r) i f t
  ps ← parts_in (i + length (upto dot t) + 1) (k p) (behind dot t)
  taken (p ∷ ps)
parts_in i (end r f) t = do
  p ← last_in (number_at r) i f t
  taken (p ∷ [])

-- 3: a listed name and a colon; then the parts
abbrev pub named_tag : Controlled → Answer Tag
named_tag k = do
  c ← given (named schemes k.rest) 3 k.next
  ps ← parts_in (k.next + length (label c.scheme)) (layout c.scheme) c.rest
  taken (record { scheme = c.scheme; control = k.control; parts = ps })

-- 2: the start; 20: the control fields; then the rest
unfoldable pub tag_of_text : List ℕ → Answer Tag
tag_of_text t = do
  u ← given (after start t) 2 0
  k ← control_fields_in (length start) u
  named_tag k

unfoldable pub text_number : List ℕ → ℕ
text_number t = number_of (tag_of_text t)

unfoldable pub text_place : List ℕ → ℕ
text_place t = place_of (tag_of_text t)
