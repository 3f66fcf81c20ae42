-- The record of a tag, from its control fields and its parts.
use Rattle.std.specs.Prelude.{ℕ, ◌≡◌, List, [], ◌++◌, length, get_or, take, drop, replicate, Result, Ok}
use Rattle.numeral.specs.Numeral.{value}
use Rattle.rules.specs.declared.Last.{Last}
use Rattle.rules.specs.declared.Last.TheVariants.{Integer, String, Numeric}
use Rattle.rules.specs.declared.Body.TheVariants.{Then, Zeros, E}
use Rattle.rules.specs.declared.Parts.{Parts}
use Rattle.rules.specs.declared.Parts.TheVariants.{F, Integers}
use Rattle.rules.specs.Schemes.{about}
use Rattle.rules.specs.Answers.{Answer, refused, taken}
use Rattle.rules.specs.Grammar.{Tag, TagFits}
use Rattle.scheme.specs.declared.record.Record.{Record}
use Rattle.scheme.specs.declared.refusal.Refusal.{Refusal}
use Rattle.scheme.specs.Refusals.{refusal}

-- the i-th part, and its value
abbrev pub part_at : List (List ℕ) → ℕ → List ℕ
part_at ps i = get_or ps i []

abbrev pub value_at : List (List ℕ) → ℕ → ℕ
value_at ps i = value 10 (part_at ps i)

abbrev pub filter_of : Parts → List (List ℕ) → ℕ
filter_of (F body) ps = value_at ps 0
filter_of (Integers a b c) ps = 0

abbrev pub prefix_of : Parts → List (List ℕ) → ℕ
prefix_of (F body) ps = value_at ps 1
prefix_of (Integers a b c) ps = value_at ps 0

abbrev pub digits_of : Parts → List (List ℕ) → ℕ
digits_of (F body) ps = length (part_at ps 1)
digits_of (Integers a b c) ps = 0

abbrev pub reference_of : Parts → List (List ℕ) → ℕ
reference_of (F (Then t l)) ps = value_at ps 2
reference_of (F (Zeros t z)) ps = value_at ps 2
reference_of (F E) ps = 0
reference_of (Integers a b c) ps = value_at ps 1

-- a last part that is an integer, or the digits of a numeric string
abbrev pub last_number : Last → List ℕ → ℕ
last_number (Integer b) p = value 10 p
last_number (String b) p = 0
last_number (Numeric b n) p = value 10 p

abbrev pub serial_of : Parts → List (List ℕ) → ℕ
serial_of (F (Then t l)) ps = last_number l (part_at ps 3)
serial_of (F (Zeros t z)) ps = 0
serial_of (F E) ps = value_at ps 2
serial_of (Integers a b c) ps = value_at ps 2

-- a last part that is a string
abbrev pub last_characters : Last → List ℕ → List ℕ
last_characters (Integer b) p = []
last_characters (String b) p = p
last_characters (Numeric b n) p = []

abbrev pub characters_of : Parts → List (List ℕ) → List ℕ
characters_of (F (Then t l)) ps = last_characters l (part_at ps 3)
characters_of (F (Zeros t z)) ps = []
characters_of (F E) ps = []
characters_of (Integers a b c) ps = []

-- how many characters a string has, or digits a numeric string
abbrev pub last_count : Last → List ℕ → ℕ
last_count (Integer b) p = 0
last_count (String b) p = length p
last_count (Numeric b n) p = length p

abbrev pub count_of : Parts → List (List ℕ) → ℕ
count_of (F (Then t l)) ps = last_count l (part_at ps 3)
count_of (F (Zeros t z)) ps = 0
count_of (F E) ps = 0
count_of (Integers a b c) ps = 0

-- twenty places, zeros behind the characters
abbrev pub padded : List ℕ → List ℕ
padded cs = take 20 (cs ++ replicate 20 0)

unfoldable pub record_of : Tag → Record
record_of τ =
    let p = (about τ.scheme).parts in
    let ps = τ.parts in
    record {
      scheme = τ.scheme;
      control = τ.control;
      filter = filter_of p ps;
      prefix = prefix_of p ps;
      digits = digits_of p ps;
      reference = reference_of p ps;
      serial = serial_of p ps;
      characters = padded (characters_of p ps);
      count = count_of p ps;
    }

-- r is the record of the tag τ, which keeps the limits
pub record RecordIs (r : Record) (τ : Tag) : Type 0 where
  pub fits : TagFits τ
  pub same : r ≡ record_of τ

-- r is the record of a tag
pub record HasTag (r : Record) : Type 0 where
  pub tag : Tag
  pub is : RecordIs r tag

-- writing r's tag in this form gives n, its length, and leaves it in front of what the output had behind that length
abbrev pub Writes : (Tag → List ℕ) → Record → List ℕ → ℕ → List ℕ → Type 0
Writes form r out n after = (τ : Tag) → RecordIs r τ → (n ≡ length (form τ)) × (after ≡ form τ ++ drop (length (form τ)) out)

-- what a reader's answer is in code
abbrev pub reading_of : Answer Tag → Result Record Refusal
reading_of (refused n p) = refusal n p
reading_of (taken τ) = Ok (record_of τ)
