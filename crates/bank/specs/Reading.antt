-- How far the reading of a bank has come, and what stands behind a company prefix.
use Rattle.std.specs.Prelude.{ℕ, ◌+◌, ◌-◌, ◌*◌, ◌/◌, ◌^◌, ◌<◌, ◌≤◌, ◌≡◌, List, T, take, drop}
use Rattle.std.specs.Prelude.{Option, Some, option_map, length, replicate}
use Rattle.numeral.specs.Numeral.{value, shortest, spread, gather}
use Rattle.rules.specs.declared.Scheme.{Scheme}
use Rattle.rules.specs.declared.Last.{Last}
use Rattle.rules.specs.declared.Last.TheVariants.{Integer, String, Numeric}
use Rattle.rules.specs.declared.Body.{Body}
use Rattle.rules.specs.declared.Body.TheVariants.{Then, Zeros, E}
use Rattle.rules.specs.declared.Parts.{Parts}
use Rattle.rules.specs.declared.Parts.TheVariants.{F}
use Rattle.rules.specs.Answers.{taken}
use Rattle.rules.specs.Schemes.{Row, schemes, about, words, prefix_bits, prefix_digits, asset_bits}
use Rattle.rules.specs.Coding.{at, word_count}
use Rattle.rules.specs.BankNumbers.{all_zero, headed, code_in, control_in, string_in, numeric_in}
use Rattle.rules.specs.Conditions.{partition_in, row_in, zeros_from}
use Rattle.scheme.specs.declared.rows.Cell.{Cell}
use Rattle.scheme.specs.Rows.{reference_of}
use Rattle.scheme.specs.Records.{padded}
use Rattle.fields.specs.BitReaders.{LiesInCode, code_field}
use Rattle.bank.specs.declared.reading.Company.{Company}
use Rattle.bank.specs.declared.reading.Shape.{Shape}
use Rattle.bank.specs.declared.reading.Ending.{Ending}

-- the rules 9 to 15 do not apply: the words are a code of the scheme s, whose parts are p, and zeros
pub record Coded (b : List ℕ) (s : Scheme) (p : Parts) : Type 0 where
  pub clean : control_in b ≡ taken (word_count b)
  pub header : headed (at b 0x20 8) schemes ≡ Some s
  pub enough : words s ≤ word_count b
  pub zeros : T (all_zero (drop (zeros_from s) (code_in b)))
  pub parts : (about s).parts ≡ p

-- the code bits behind the header and behind the company prefix
abbrev pub header_end : ℕ
header_end = 8

abbrev pub prefix_end : List ℕ → ℕ
prefix_end b = header_end + 6 + prefix_bits (row_in b)

-- what is read up to the company prefix
abbrev pub company_of : List ℕ → Company
company_of b = record {
  filter = at b 0x28 3;
  row = partition_in b;
  digits = prefix_digits (row_in b);
  prefix = at b 0x2E (prefix_bits (row_in b));
}

-- nor do the rules 16 and 17: the row is listed, and the prefix has no more than its digits
pub record Begun (b : List ℕ) (s : Scheme) (body : Body) (c : Company) : Type 0 where
  pub coded : Coded b s (F body)
  pub company : c ≡ company_of b
  pub listed : partition_in b < 7
  pub small : at b 0x2E (prefix_bits (row_in b)) < 10 ^ prefix_digits (row_in b)

-- no reference: table E's is the last part
abbrev pub no_cell : Cell
no_cell = record { bits = 0; digits = 0 }

-- what stands behind the company prefix of a row: the reference, and the last part; a part that a body does not have takes no bits
abbrev pub shape_of : Body → Row → Shape
shape_of (Then t l) r = record { cell = reference_of t r; last = l }
shape_of (Zeros t n) r = record { cell = reference_of t r; last = Integer 0 }
shape_of E r = record { cell = no_cell; last = Integer (asset_bits r) }

-- k groups of seven bits, from a code bit on
abbrev pub groups_at : List ℕ → ℕ → ℕ → List ℕ
groups_at b c k = gather 2 7 k (take (7 * k) (drop (0x20 - 0x10 + c) (spread 2 8 b)))

-- they lie in so many bytes of a bank, and are at most twenty
pub record GroupsLie (c k bytes : ℕ) : Type 0 where
  pub most : k ≤ 20
  pub small : c ≤ 0x400
  pub inside : 0x20 + c + 7 * k ≤ 0x10 + 8 * bytes

-- a last part that begins at a code bit lies in so many bytes of a bank
abbrev pub LastLies : ℕ → Last → ℕ → Type 0
LastLies c (Integer n) bytes = LiesInCode c n bytes
LastLies c (String n) bytes = GroupsLie c (n / 7) bytes
LastLies c (Numeric n k) bytes = LiesInCode c n bytes × (k ≤ 17)

-- the last part of a tag from an integer, from the characters of a string, and from the digits of a numeric string
abbrev pub integer_ending : ℕ → Ending
integer_ending v = record { serial = v; characters = replicate 20 0; count = 0 }

abbrev pub string_ending : List ℕ → Ending
string_ending cs = record { serial = 0; characters = padded cs; count = length cs }

abbrev pub numeric_ending : List ℕ → Ending
numeric_ending ds = record { serial = value 10 ds; characters = replicate 20 0; count = length ds }

-- the last part that begins at a code bit, unless rule 19 refuses it
abbrev pub ending_at : List ℕ → ℕ → Last → Option Ending
ending_at b c (Integer n) = Some (integer_ending (code_field b c n))
ending_at b c (String n) = option_map string_ending (string_in (groups_at b c (n / 7)))
ending_at b c (Numeric n k) = option_map numeric_ending (numeric_in k (shortest 10 (code_field b c n)))
