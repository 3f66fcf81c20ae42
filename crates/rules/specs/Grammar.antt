-- The text of a tag (document 01, "The text of a tag"; document 02, C-13). No reader is mentioned: a tag is its scheme, its control fields and
-- its parts, and has one text.
use Rattle.std.specs.Prelude.{ℕ, ◌/◌, ◌^◌, ◌≡◌, List, [], ◌∷◌, ◌++◌, Bool, true, false, ◌&&◌, T, leb, ltb, eqb, length}
use Rattle.numeral.specs.Numeral.{value}
use Rattle.rules.specs.Bytes.{bytes, all, dot, colon, digits_text}
use Rattle.rules.specs.declared.Scheme.{Scheme}
use Rattle.rules.specs.declared.ControlFields.{ControlFields}
use Rattle.rules.specs.declared.Body.{Body}
use Rattle.rules.specs.declared.Body.TheVariants.{Then, Zeros, E}
use Rattle.rules.specs.declared.Parts.{Parts}
use Rattle.rules.specs.declared.Parts.TheVariants.{F, Integers}
use Rattle.rules.specs.Schemes.{Form, company, digits, integer, string, at_most, numeric, row_digits, asset_bits, row_of, last_form, about}
use Rattle.rules.specs.Characters.{character, string_text}
use Rattle.rules.specs.ControlFields.{ControlFits, control_text}

-- What a part is in its tag. The first two integers of gid-96 stand where others have the prefix and the reference.
pub data Role : Type 0 where
  filter : Role
  prefix : Role
  reference : Role
  last : Role

-- The parts in their order, each by its role and its form.
-- What follows a part may depend on its digits: those of the company prefix pick the row.
pub data Layout : Type 0 where
  -- a part with a dot behind it, and what follows
  part : Role → Form → (List ℕ → Layout) → Layout
  -- the part that ends the text
  end : Role → Form → Layout

abbrev pub body_layout : Body → ℕ → Layout
body_layout (Then t l) n = part reference (row_digits t (row_of n)) λ _. end last (last_form l)
body_layout (Zeros t z) n = end reference (row_digits t (row_of n))
body_layout E n = end last (integer (asset_bits (row_of n)))

abbrev pub laid : Parts → Layout
laid (F body) = part filter (integer 3) λ _. part prefix company λ ds. body_layout body (length ds)
laid (Integers a b c) = part prefix (integer a) λ _. part reference (integer b) λ _. end last (integer c)

abbrev pub layout : Scheme → Layout
layout s = laid (about s).parts

-- A part is a list of symbols: digits 0 to 9, or characters.
abbrev pub digit : ℕ → Bool
digit d = ltb d 10

abbrev pub symbol : Form → ℕ → Bool
symbol company = digit
symbol (digits b n) = digit
symbol (integer b) = digit
symbol (string b) = character
symbol (at_most b n) = digit
symbol (numeric b n) = digit

-- `0`, or digits with no leading zero
abbrev pub plain_number : List ℕ → Bool
plain_number [] = false
plain_number (d ∷ []) = true
plain_number (d ∷ e ∷ ds) = ltb 0 d

abbrev pub shaped : Form → List ℕ → Bool
shaped company ds = leb 6 (length ds) && leb (length ds) 12
shaped (digits b n) ds = eqb (length ds) n
shaped (integer b) ds = plain_number ds
shaped (string b) cs = ltb 0 (length cs)
shaped (at_most b n) ds = plain_number ds && leb (length ds) n
shaped (numeric b n) ds = ltb 0 (length ds)

abbrev pub sized : Form → List ℕ → Bool
sized company ds = true
sized (digits b n) ds = true
sized (integer b) ds = ltb (value 10 ds) (2 ^ b)
sized (string b) cs = leb (length cs) (b / 7)
sized (at_most b n) ds = true
sized (numeric b n) ds = leb (length ds) n

pub record Fit (f : Form) (p : List ℕ) : Type 0 where
  pub symbols : T (all (symbol f) p)
  pub shape : T (shaped f p)
  pub size : T (sized f p)

-- the parts fit the layout, one by one
pub data Fits : Layout → List (List ℕ) → Type 0 where
  more : {r : Role} {f : Form} {k : List ℕ → Layout} {p : List ℕ} {ps : List (List ℕ)} → Fit f p → Fits (k p) ps → Fits (part r f k) (p ∷ ps)
  one : {r : Role} {f : Form} {p : List ℕ} → Fit f p → Fits (end r f) (p ∷ [])

pub record Tag : Type 0 where
  pub scheme : Scheme
  pub control : ControlFields
  pub parts : List (List ℕ)

-- its parts fit its scheme's layout, and its control fields keep their limits
pub record TagFits (τ : Tag) : Type 0 where
  pub parts : Fits (layout τ.scheme) τ.parts
  pub control : ControlFits τ.control

-- How it is written.
abbrev pub spelled : Form → List ℕ → List ℕ
spelled company = digits_text
spelled (digits b n) = digits_text
spelled (integer b) = digits_text
spelled (string b) = string_text
spelled (at_most b n) = digits_text
spelled (numeric b n) = digits_text

-- the parts, joined by dots
abbrev pub written : Layout → List (List ℕ) → List ℕ
written (part r f k) [] = []
written (part r f k) (p ∷ ps) = spelled f p ++ dot ∷ written (k p) ps
written (end r f) [] = []
written (end r f) (p ∷ ps) = spelled f p

unfoldable pub start : List ℕ
start = bytes "urn:epc:tag:"

-- a scheme's name and the colon
abbrev pub label : Scheme → List ℕ
label s = bytes (about s).name ++ colon ∷ []

unfoldable pub text_of : Tag → List ℕ
text_of τ = start ++ (control_text τ.control ++ (label τ.scheme ++ written (layout τ.scheme) τ.parts))

-- t is the text of the tag τ, which keeps the limits
pub record TagText (t : List ℕ) (τ : Tag) : Type 0 where
  pub fits : TagFits τ
  pub text : t ≡ text_of τ
