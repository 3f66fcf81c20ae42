-- The parts of a text as the code holds them: what follows the company prefix, then the whole record.
use Rattle.std.specs.Prelude.{ℕ, List, [], Result, Ok}
use Rattle.rules.specs.declared.Scheme.{Scheme}
use Rattle.rules.specs.declared.ControlFields.{ControlFields}
use Rattle.rules.specs.declared.Last.{Last}
use Rattle.rules.specs.declared.Body.{Body}
use Rattle.rules.specs.declared.Body.TheVariants.{Then, Zeros, E}
use Rattle.rules.specs.Answers.{Answer, refused, taken, ◌>>=◌}
use Rattle.rules.specs.Schemes.{Form}
use Rattle.rules.specs.Grammar.{reference, last, Layout, part, end}
use Rattle.rules.specs.TextNumbers.{Controlled, parts_in}
use Rattle.scheme.specs.declared.record.Record.{Record}
use Rattle.scheme.specs.declared.refusal.Refusal.{Refusal}
use Rattle.scheme.specs.Refusals.{refusal}
use Rattle.scheme.specs.Records.{part_at, value_at, last_number, last_characters, last_count, padded, reading_of}
use Rattle.parts.specs.Rests.{left}
use Rattle.parts.specs.declared.rest.Rest.{Rest}
use Rattle.text.specs.declared.reading.Head.{Head}

-- the record of what is read: its head, the reference, and the last part as a number, as characters, and their count
abbrev pub tagged_with : Head → ℕ → ℕ → List ℕ → ℕ → Record
tagged_with h r n cs k = record {
  scheme = h.scheme;
  control = h.control;
  filter = h.filter;
  prefix = h.prefix;
  digits = h.digits;
  reference = r;
  serial = n;
  characters = cs;
  count = k;
}

abbrev pub tagged : Head → ℕ → ℕ → List ℕ → ℕ → Record
tagged h r n cs k = tagged_with h r n (padded cs) k

-- the parts that are read from what is left of a text
abbrev pub parts_of : Rest → Layout → Answer (List (List ℕ))
parts_of r l = parts_in r.at l (left r)

-- a reference with a dot behind it, and a last part
abbrev pub referred : Form → Form → Layout
referred f g = part reference f λ _. end last g

abbrev pub with_last : Head → Last → Answer (List (List ℕ)) → Result Record Refusal
with_last h l (refused n p) = refusal n p
with_last h l (taken ps) = let p = part_at ps 1 in Ok (tagged h (value_at ps 0) (last_number l p) (last_characters l p) (last_count l p))

-- a reference that ends the text: of A to D, or of E
abbrev pub reference_alone : Head → Answer (List (List ℕ)) → Result Record Refusal
reference_alone h (refused n p) = refusal n p
reference_alone h (taken ps) = Ok (tagged h (value_at ps 0) 0 [] 0)

abbrev pub asset_alone : Head → Answer (List (List ℕ)) → Result Record Refusal
asset_alone h (refused n p) = refusal n p
asset_alone h (taken ps) = Ok (tagged h 0 (value_at ps 0) [] 0)

-- what follows the company prefix
abbrev pub behind_prefix : Head → Body → Answer (List (List ℕ)) → Result Record Refusal
behind_prefix h (Then t l) = with_last h l
behind_prefix h (Zeros t z) = reference_alone h
behind_prefix h E = asset_alone h

-- what the parts of a scheme give, behind control fields
abbrev pub read_as : ControlFields → Scheme → Answer (List (List ℕ)) → Result Record Refusal
read_as c s a = reading_of (a >>= λ ps. taken (record { scheme = s; control = c; parts = ps }))

-- what is left of a text behind control fields
abbrev pub controlled : ControlFields → Rest → Controlled
controlled c r = record { control = c; next = r.at; rest = left r }
