-- The bits of a record's fields, the limits that the fields keep, and the room that a stream has for them.
use Rattle.std.specs.Prelude.{ℕ, ◌+◌, ◌-◌, ◌*◌, ◌/◌, ◌^◌, ◌≤◌, ◌<◌, List, ◌++◌, length, take}
use Rattle.numeral.specs.Numeral.{Digits, spread}
use Rattle.rules.specs.declared.ControlFields.{ControlFields}
use Rattle.rules.specs.declared.Table.{Table}
use Rattle.rules.specs.declared.Last.{Last}
use Rattle.rules.specs.declared.Last.TheVariants.{Integer, String, Numeric}
use Rattle.rules.specs.declared.Body.{Body}
use Rattle.rules.specs.declared.Body.TheVariants.{Then, Zeros, E}
use Rattle.rules.specs.declared.Parts.{Parts}
use Rattle.rules.specs.declared.Parts.TheVariants.{F, Integers}
use Rattle.rules.specs.Schemes.{cell, asset_bits, partition, prefix_bits, row_of}
use Rattle.rules.specs.Coding.{binary, control_bits}
use Rattle.rules.specs.Calls.{bank_room}
use Rattle.bits.specs.declared.Stream.{Stream}
use Rattle.bits.specs.declared.Writer.{Writer}
use Rattle.bits.specs.Streams.{Sound}
use Rattle.tens.specs.Numerics.{one_before}
use Rattle.scheme.specs.declared.record.Record.{Record}

-- the output of the writer w has room for n more bits
pub record Room (w : Writer) (n : ℕ) : Type 0 where
  pub sound : Sound w.stream
  pub room : w.stream.at + (w.stream.count + n) / 8 ≤ length w.out.now

-- the control word, with the word count and the control bits, and the header
abbrev pub start_bits : ℕ → ℕ → ControlFields → List ℕ
start_bits words header c = binary 5 words ++ (control_bits c ++ binary 8 header)

-- the filter is one digit 0 to 7, and the company prefix has 6 to 12 digits
pub record Company (r : Record) : Type 0 where
  pub filter : r.filter < 8
  pub least : 6 ≤ r.digits
  pub most : r.digits ≤ 12
  pub prefix : r.prefix < 10 ^ r.digits

abbrev pub company_bits : Record → List ℕ
company_bits r = binary 3 r.filter ++ (binary 3 (partition r.digits) ++ binary (prefix_bits (row_of r.digits)) r.prefix)

-- the reference has the digits that the row has in table t
pub record Reference (t : Table) (r : Record) : Type 0 where
  pub least : 6 ≤ r.digits
  pub most : r.digits ≤ 12
  pub small : r.reference < 10 ^ (cell t (row_of r.digits)).1

abbrev pub reference_bits : Table → Record → List ℕ
reference_bits t r = binary (cell t (row_of r.digits)).0 r.reference

-- v is a number of n bits, enough to go in two pieces
pub record Wide (n v : ℕ) : Type 0 where
  pub least : 32 ≤ n
  pub most : n ≤ 62
  pub small : v < 2 ^ n

-- the reference of table E has the row's bits
pub record Asset (r : Record) : Type 0 where
  pub least : 6 ≤ r.digits
  pub most : r.digits ≤ 12
  pub small : r.serial < 2 ^ asset_bits (row_of r.digits)

abbrev pub asset_number : Record → List ℕ
asset_number r = binary (asset_bits (row_of r.digits)) r.serial

-- v is a number of n bits, few enough to go in one piece
pub record Number (n v : ℕ) : Type 0 where
  pub narrow : n ≤ 57
  pub small : v < 2 ^ n

-- an integer; a string of at most twenty characters, behind which zeros stand; the digits of a numeric string, and the 1 before them
abbrev pub KeepsLast : Last → Record → Type 0
KeepsLast (Integer n) r = Number n r.serial
KeepsLast (String n) r = Digits 128 r.characters × (n / 7 ≤ 20)
KeepsLast (Numeric n k) r = (r.count ≤ 17) × (r.serial < 10 ^ r.count) × Wide n (one_before r.count r.serial)

abbrev pub last_bits : Last → Record → List ℕ
last_bits (Integer n) r = binary n r.serial
last_bits (String n) r = spread 2 7 (take (n / 7) r.characters)
last_bits (Numeric n k) r = binary n (one_before r.count r.serial)

-- what follows the company prefix; the zero bits at the end of a code are no field
abbrev pub KeepsBehind : Body → Record → Type 0
KeepsBehind (Then t l) r = Reference t r × KeepsLast l r
KeepsBehind (Zeros t n) r = Reference t r
KeepsBehind E r = Asset r

abbrev pub behind_bits : Body → Record → List ℕ
behind_bits (Then t l) r = reference_bits t r ++ last_bits l r
behind_bits (Zeros t n) r = reference_bits t r
behind_bits E r = asset_number r

-- all parts
abbrev pub Keeps : Parts → Record → Type 0
Keeps (F body) r = Company r × KeepsBehind body r
Keeps (Integers a b c) r = Number a r.prefix × Number b r.reference × Number c r.serial

abbrev pub packed : Parts → Record → List ℕ
packed (F body) r = company_bits r ++ behind_bits body r
packed (Integers a b c) r = binary a r.prefix ++ (binary b r.reference ++ binary c r.serial)

-- the zeros from where a stream stands to byte n, and that they lie in the output of its writer
abbrev pub zeros_to : ℕ → Stream → ℕ
zeros_to n s = 8 * (n - s.at) - s.count

pub record ZerosFit (w : Writer) (n : ℕ) : Type 0 where
  pub sound : Sound w.stream
  pub before : 8 * w.stream.at + w.stream.count ≤ 8 * n
  pub inside : n ≤ length w.out.now
  pub few : n ≤ bank_room
