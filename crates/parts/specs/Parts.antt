-- A numeric part as the code holds it: its form, its value and its digits.
use Rattle.std.specs.Prelude.{ℕ, ◌+◌, ◌^◌, ◌≤◌, Bool, true, false, ◌&&◌, ◌||◌, not, cond, List, leb, ltb, eqb, length}
use Rattle.std.specs.Prelude.{Result, Ok}
use Rattle.numeral.specs.Numeral.{value}
use Rattle.rules.specs.Answers.{Answer, refused, taken}
use Rattle.rules.specs.Schemes.{company, digits, integer, string, at_most, numeric}
use Rattle.rules.specs.Schemes.{Form as RulesForm}
use Rattle.parts.specs.declared.parts.Form.{Form}
use Rattle.parts.specs.declared.parts.Form.TheVariants.{Prefix, Digits, Integer, AtMost}
use Rattle.parts.specs.declared.parts.Part.{Part}
use Rattle.scheme.specs.declared.refusal.Refusal.{Refusal}
use Rattle.scheme.specs.declared.refusal.Rule.{Rule}
use Rattle.scheme.specs.declared.refusal.Rule.TheVariants.{LastPartForm, LastPartSize}
use Rattle.scheme.specs.Refusals.{refusal}

-- the rules' form; the bits of a part whose digits are counted play no part in its text
abbrev pub form_of : Form → RulesForm
form_of Prefix = company
form_of (Digits n) = digits 0 n
form_of (Integer b) = integer b
form_of (AtMost n) = at_most 0 n

-- nineteen digits are enough to tell whether a part is in the form
abbrev pub Short : Form → Type 0
Short Prefix = Unit
Short (Digits n) = n ≤ 19
Short (Integer b) = b ≤ 63
Short (AtMost n) = n ≤ 19

-- `0`, or no leading zero, by the number of digits and whether the first is 0
abbrev pub plainly : ℕ → Bool → Bool
plainly n zero = eqb n 1 || (ltb 1 n && not zero)

-- a part's test by numbers alone: how many digits, whether the first is 0, the value
abbrev pub fitting : RulesForm → ℕ → Bool → ℕ → Bool
fitting company n zero v = leb 6 n && leb n 12
fitting (digits b k) n zero v = eqb n k
fitting (integer b) n zero v = plainly n zero && ltb v (2 ^ b)
fitting (string b) n zero v = false
fitting (at_most b k) n zero v = plainly n zero && leb n k
fitting (numeric b k) n zero v = false

-- what a part that stands at an index is in code
abbrev pub found_of : ℕ → Answer (List ℕ) → Result Part Refusal
found_of at (refused n p) = refusal n p
found_of at (taken p) = Ok (record { value = value 10 p; digits = length p; next = at + length p + 1 })

-- what a part that ends the text is in code
abbrev pub end_of : Answer (List ℕ) → Result ℕ Refusal
end_of (refused n p) = refusal n p
end_of (taken p) = Ok (value 10 p)

-- the rule that a part of more digits than are read breaks, by whether the rest of it is digits, and whether a zero stands where none may
abbrev pub longer_of : Bool → Bool → Rule
longer_of true true = LastPartForm
longer_of true false = LastPartSize
longer_of false zero = LastPartForm

-- an integer by where it begins, its number of digits, its first digit and its value: its form, then its size
abbrev pub sized_of : ℕ → Bool → ℕ → Result ℕ Refusal
sized_of i true v = Ok v
sized_of i false v = refusal 8 i

abbrev pub shorter_of : ℕ → ℕ → ℕ → Bool → ℕ → Result ℕ Refusal
shorter_of i b n zero v = cond (plainly n zero) (sized_of i (ltb v (2 ^ b)) v) (refusal 7 i)
