-- What the code holds of a family and of an identity's text.
use Rattle.std.specs.Prelude.{ℕ, ◌+◌, ◌/◌, ◌≡◌, ◌≤◌, List, [], ◌∷◌, ◌++◌, Bool, true, false, ◌&&◌, not, cond, leb, ltb, eqb, length, drop, get_or}
use Prim.Native.Char.{code}
use Rattle.std.specs.Prelude.{Option, None, Some, option_map, Result, Ok, Err}
use Rattle.rules.specs.declared.Scheme.{Scheme}
use Rattle.rules.specs.declared.ControlFields.{ControlFields}
use Rattle.rules.specs.declared.Last.{Last}
use Rattle.rules.specs.declared.Last.TheVariants.{Integer, String, Numeric}
use Rattle.rules.specs.declared.Body.{Body}
use Rattle.rules.specs.declared.Body.TheVariants.{Then}
use Rattle.rules.specs.declared.Parts.{Parts}
use Rattle.rules.specs.declared.Parts.TheVariants.{F}
use Rattle.rules.specs.declared.Table.{Table}
use Rattle.rules.specs.Answers.{taken, ◌>>=◌, kept}
use Rattle.rules.specs.Bytes.{bytes, among, upto, behind, dot}
use Rattle.rules.specs.Schemes.{Form, company, integer}
use Rattle.rules.specs.Schemes.{schemes}
use Rattle.rules.specs.Schemes.{about as aboutScheme}
use Rattle.rules.specs.ControlFields.{control_text}
use Rattle.rules.specs.Grammar.{prefix, Layout, part, end, body_layout, sized, text_of}
use Rattle.rules.specs.Grammar.{start as tagStart, label as schemeLabel}
use Rattle.rules.specs.TextNumbers.{Named as NamedTag}
use Rattle.rules.specs.TextNumbers.{named as named_tag}
use Rattle.rules.specs.TextNumbers.{after, formed}
use Rattle.alphabet.specs.Strings.{string_part}
use Rattle.rules.specs.Calls.{Call, call}
use Rattle.digits.specs.Starts.{begun}
use Rattle.identities.specs.declared.Family.{Family}
use Rattle.identities.specs.declared.Component.{Component}
use Rattle.identities.specs.declared.Component.TheVariants.{Padded}
use Rattle.identities.specs.Families.{about, families, family_of, short, long}
use Rattle.identities.specs.Grammar.{part_characters, totals, start, label}
use Rattle.identities.specs.Numbers.{Named as NamedText}
use Rattle.identities.specs.Numbers.{holds, is, divided_by, body_in, named, identified, filter_text, held_by, or_else, and_then, tag_of}
use Rattle.identify.specs.declared.counted.Fault.{Fault}
use Rattle.identify.specs.declared.counted.Fault.TheVariants.{WrongText, Unheld}
use Rattle.identify.specs.declared.form.Shape.{Shape}
use Rattle.identify.specs.declared.form.Shape.TheVariants.{Two, Three}

-- FAMILIES

-- the family that an identity text names, and where the text goes on behind the colon
abbrev pub behind_colon : NamedText → Family × ℕ
behind_colon c = (c.family, length start + length (label c.family))

unfoldable pub found_in : List ℕ → Option (Family × ℕ)
found_in t = option_map behind_colon (and_then (after start t) (named families))

-- THE FORM

-- how many bytes the character of a part reference takes that a text begins with: one, or three for an escape
abbrev pub opens_part : List ℕ → Bool
opens_part [] = false
opens_part (c ∷ t) = among c part_characters

abbrev pub width_in : List ℕ → Option ℕ
width_in u = cond (opens_part u) (Some 1) (cond (begun (after (bytes "%2F") u)) (Some 3) (cond (begun (after (bytes "%23") u)) (Some 3) None))

-- the first dot, if what stands before it is such a component
abbrev pub split_by : Component → List ℕ → Option ℕ
split_by c x = cond (among dot x && is c (upto dot x)) (Some (length (upto dot x))) None

-- so many digits are right for the first two parts together
abbrev pub counts : Option ℕ → ℕ → Bool
counts None n = true
counts (Some m) n = eqb n m

-- whether a text divides into components whose first two have the right total
abbrev pub is_divided : Option ℕ → List Component → List ℕ → Bool
is_divided t cs x = holds (totals t) (divided_by cs x)

-- the components and the total of a shape
abbrev pub components_of : Shape → List Component
components_of (Two a b t) = a ∷ b ∷ []
components_of (Three a b c t) = a ∷ b ∷ c ∷ []

abbrev pub total_in : Shape → Option ℕ
total_in (Two a b t) = t
total_in (Three a b c t) = t

pub record ShapeOf (f : Family) (r : Shape) : Type 0 where
  pub components : components_of r ≡ (about f).components
  pub total : total_in r ≡ (about f).total

-- whether a text is what follows a family's name
abbrev pub is_body : Family → List ℕ → Bool
is_body f x = holds (λ _. true) (body_in f x)

-- THE VERDICT

-- a tag of the scheme has these parts, whatever its filter
abbrev pub held : List ℕ → Scheme → Bool
held x s = holds (λ _. true) (held_by 0 x s)

-- the scheme that holds them: the 96-bit one, else the long one
abbrev pub held_in : List ℕ → Scheme → Option Scheme
held_in x s = cond (held x s) (Some s) None

abbrev pub holder : Family → List ℕ → Option Scheme
holder g x = or_else (held_in x (short g)) (and_then (long g) (held_in x))

-- the verdict: whether the text is of the grammar, and the scheme that holds it
abbrev pub judged_as : Bool → Option Scheme → Result Scheme Fault
judged_as false o = Err WrongText
judged_as true None = Err Unheld
judged_as true (Some s) = Ok s

abbrev pub judged : Family → List ℕ → Result Scheme Fault
judged g x = judged_as (is_body g x) (holder g x)

-- a text is a part of this form, and not too large
abbrev pub fitting : Form → List ℕ → Bool
fitting f t = holds (sized f) (formed f t)

-- the parts of a layout, read without places
abbrev pub fits_then : Option (List ℕ) → (List ℕ → Bool) → (List ℕ → Bool) → Bool
fits_then None size go = false
fits_then (Some p) size go = size p && go p

abbrev pub fits_in : Layout → List ℕ → Bool
fits_in (part r f k) t = among dot t && fits_then (formed f (upto dot t)) (sized f) (λ p. fits_in (k p) (behind dot t))
fits_in (end r f) t = fitting f t

-- what is laid behind the filter
abbrev pub behind_filter : Body → Layout
behind_filter body = part prefix company λ ds. body_layout body (length ds)

-- a last part that can be read: nineteen digits, or 63 bits, are enough to tell
abbrev pub Readable : Last → Type 0
Readable (Integer b) = b ≤ 63
Readable (String b) = Unit {0}
Readable (Numeric b n) = n ≤ 19

-- six to twelve digits pick a row
abbrev pub in_row : ℕ → Bool
in_row n = leb 6 n && leb n 12

abbrev pub by_row : ℕ → Scheme → Result Scheme Fault
by_row n s = cond (in_row n) (Ok s) (Err Unheld)

-- the bits of a last part
abbrev pub bits_of : Last → ℕ
bits_of (Integer b) = b
bits_of (String b) = b
bits_of (Numeric b n) = b

abbrev pub last_bits : Parts → ℕ
last_bits (F (Then t l)) = bits_of l
last_bits _ = 0

-- a reference of n digits stands where one may not be empty
abbrev pub is_there : Component → ℕ → Bool
is_there Padded n = ltb 0 n
is_there _ n = true

-- the verdict by a serial: an integer for the 96-bit scheme s, characters for the long scheme l, of which k are the most; n are the prefix's digits
abbrev pub by_count : ℕ → ℕ → Scheme → Option ℕ → Result Scheme Fault
by_count n k l None = Err WrongText
by_count n k l (Some c) = cond (leb c k) (by_row n l) (Err Unheld)

abbrev pub by_serial : ℕ → Scheme → Scheme → List ℕ → Result Scheme Fault
by_serial n s l z =
    let long = by_count n (last_bits (aboutScheme l).parts / 7) l (option_map length (string_part z)) in
    cond (fitting (integer (last_bits (aboutScheme s).parts)) z) (by_row n s) long

-- the verdict by the last part of a counted family
abbrev pub by_last : ℕ → Scheme → Option Scheme → Component → List ℕ → Result Scheme Fault
by_last n s None c z = cond (is c z) (by_row n s) (Err WrongText)
by_last n s (Some l) c z = by_serial n s l z

-- a family of three components, the first two of them digits with a total; and of two
pub record Serialised (f : Family) (b c : Component) (n : ℕ) : Type 0 where
  pub components : (about f).components ≡ Padded ∷ b ∷ c ∷ []
  pub total : (about f).total ≡ Some n

pub record Bare (f : Family) (a b : Component) (n : ℕ) : Type 0 where
  pub components : (about f).components ≡ a ∷ b ∷ []
  pub total : (about f).total ≡ Some n

-- TAGS

-- where an identity's parts begin in a tag text
abbrev pub body_at : ControlFields → Scheme → ℕ
body_at c s = 12 + length (control_text c) + length (schemeLabel s) + length (filter_text (aboutScheme s).parts 0)

-- what an identity of the scheme's family begins with
abbrev pub start_of : Scheme → List ℕ
start_of s = start ++ label (family_of s)

-- WITHOUT A RECORD

-- the table and the bits of a last part that is a string
abbrev pub string_in : Parts → Option (Table × ℕ)
string_in (F (Then t (String b))) = Some (t, b)
string_in _ = None

-- the bytes 17 and 18 are `-1`, as in `urn:epc:tag:sgtin-198:`, or 1 and something else, as in `urn:epc:tag:sgln-195:`
abbrev pub may_have_string : List ℕ → Bool
may_have_string t =
    let first = get_or t 17 0 in
    let second = get_or t 18 0 in
    leb 19 (length t) && cond (eqb first (code "-")) (eqb second (code "1")) (eqb first (code "1") && not (eqb second (code "1")))

-- a text begins with a filter and its dot
abbrev pub is_filter : List ℕ → Bool
is_filter [] = false
is_filter (d ∷ []) = false
is_filter (d ∷ p ∷ t) = eqb p dot && (leb (code "0") d && leb d (code "7"))

-- a tag text without control fields: the scheme, and where the text goes on behind the filter
abbrev pub behind_dot : NamedTag → Option (Scheme × ℕ)
behind_dot c = cond (is_filter c.rest) (Some (c.scheme, 12 + length (schemeLabel c.scheme) + 2)) None

unfoldable pub opened_in : List ℕ → Option (Scheme × ℕ)
opened_in t = and_then (and_then (after tagStart t) (named_tag schemes)) behind_dot

-- the scheme has a string, and holds what stands there
abbrev pub spelled_in : List ℕ → Table × ℕ → Bool
spelled_in x s = fits_in (behind_filter (Then s.0 (String s.1))) x

abbrev pub spelled_by : List ℕ → Scheme × ℕ → Bool
spelled_by t w = holds (spelled_in (drop w.1 t)) (string_in (aboutScheme w.0).parts)

abbrev pub way_in : List ℕ → Option (Scheme × ℕ)
way_in t = kept (spelled_by t) (opened_in t)

abbrev pub direct_in : List ℕ → Option (Scheme × ℕ)
direct_in t = cond (may_have_string t) (way_in t) None

-- THE CALL

-- the call for what follows a family's name
abbrev pub of_family : Family → ℕ → List ℕ → List ℕ → Call
of_family g f x out = call out (tag_of f (identified (record { family = g; rest = x })) >>= λ τ. taken (0, text_of τ))
