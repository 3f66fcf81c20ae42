-- The bits of a list of bytes, most significant first, and a field of them.
use Rattle.std.specs.Prelude.{ℕ, ◌+◌, ◌*◌, ◌≤◌, List, take, drop}
use Rattle.numeral.specs.Numeral.{value, spread}

abbrev pub bits : List ℕ → List ℕ
bits bytes = spread 2 8 bytes

-- the number in the w bits from bit p on
abbrev pub field_at : List ℕ → ℕ → ℕ → ℕ
field_at bytes p w = value 2 (take w (drop p (bits bytes)))

-- a field of `width` bits from bit `at` on: it has 64 bits or fewer, and lies within so many bytes; `at` is bounded so that no sum of places
-- overflows
pub record Within (at width bytes : ℕ) : Type 0 where
  pub narrow : width ≤ 64
  pub near : at ≤ 65536
  pub inside : at + width ≤ 8 * bytes
