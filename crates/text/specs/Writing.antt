-- The text of a tag piece by piece, from the values of its record.
use Rattle.std.specs.Prelude.{ℕ, ◌≤◌, ◌<◌, ◌≡◌, cond, List, [], ◌∷◌, ◌++◌, length, take}
use Rattle.numeral.specs.Numeral.{numeral, shortest}
use Rattle.rules.specs.declared.Table.{Table}
use Rattle.rules.specs.declared.Last.{Last}
use Rattle.rules.specs.declared.Last.TheVariants.{Integer, String, Numeric}
use Rattle.rules.specs.declared.Body.{Body}
use Rattle.rules.specs.declared.Body.TheVariants.{Then, Zeros, E}
use Rattle.rules.specs.declared.Parts.{Parts}
use Rattle.rules.specs.declared.Parts.TheVariants.{F, Integers}
use Rattle.rules.specs.Bytes.{dot, digits_text}
use Rattle.rules.specs.Characters.{string_text}
use Rattle.rules.specs.Schemes.{exact, cell, row_of}
use Rattle.scheme.specs.declared.record.Record.{Record}

-- an integer; a number in n digits
abbrev pub integer_text : ℕ → List ℕ
integer_text v = digits_text (shortest 10 v)

abbrev pub number_text : ℕ → ℕ → List ℕ
number_text n v = digits_text (numeral 10 n v)

-- the filter and the company prefix, each with its dot
abbrev pub company_text : Record → List ℕ
company_text r = integer_text r.filter ++ dot ∷ (number_text r.digits r.prefix ++ dot ∷ [])

-- the reference: in the row's digits, or as an integer
abbrev pub reference_text : Table → Record → List ℕ
reference_text t r = cond (exact t) (number_text (cell t (row_of r.digits)).1 r.reference) (integer_text r.reference)

-- the last part behind it
abbrev pub last_text : Last → Record → List ℕ
last_text (Integer b) r = integer_text r.serial
last_text (String b) r = string_text (take r.count r.characters)
last_text (Numeric b n) r = number_text r.count r.serial

-- a partition table with what follows its reference
abbrev pub body_text : Body → Record → List ℕ
body_text (Then t l) r = company_text r ++ (reference_text t r ++ dot ∷ last_text l r)
body_text (Zeros t z) r = company_text r ++ reference_text t r
body_text E r = company_text r ++ integer_text r.serial

-- gid-96's three integers
abbrev pub integers_text : Record → List ℕ
integers_text r = integer_text r.prefix ++ dot ∷ (integer_text r.reference ++ dot ∷ integer_text r.serial)

-- all parts
abbrev pub parts_text : Parts → Record → List ℕ
parts_text (F body) r = body_text body r
parts_text (Integers a b c) r = integers_text r

-- the filter is one digit, and the company prefix has 6 to 12
pub record Company (r : Record) : Type 0 where
  pub one_digit : r.filter < 10
  pub least : 6 ≤ r.digits
  pub most : r.digits ≤ 12

-- the characters of a string are among the record's twenty; a numeric string has no more digits
abbrev pub Held : Last → Record → Type 0
Held (Integer b) r = Unit
Held (String b) r = (r.count ≤ 20) × (length r.characters ≡ 20)
Held (Numeric b n) r = r.count ≤ 20

abbrev pub HeldBehind : Body → Record → Type 0
HeldBehind (Then t l) r = Held l r
HeldBehind (Zeros t z) r = Unit
HeldBehind E r = Unit
