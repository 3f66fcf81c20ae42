-- What the bit reader takes: the number in some bits of the code, and the code bit behind them.
use Rattle.std.specs.Prelude.{ℕ, ◌+◌, ◌-◌, ◌*◌, ◌%◌, ◌≤◌, ◌≡◌, List, length, take, drop}
use Rattle.std.specs.Borrow.{Bor}
use Rattle.numeral.specs.Numeral.{spread}
use Rattle.rules.specs.Bytes.{upto}
use Rattle.rules.specs.Coding.{at}
use Rattle.scheme.specs.declared.counts.CodeBit.{CodeBit}
use Rattle.fields.specs.declared.bitreader.BitReader.{BitReader}

-- the `width` bits from an address on fit a word of 64 bits and lie in so many bytes of a bank, which starts at address 10h; the
-- address is small, so that no sum of it overflows
pub record Lies (address width bytes : ℕ) : Type 0 where
  pub narrow : width ≤ 64
  pub first : 0x10 ≤ address
  pub small : address ≤ 0x800
  pub inside : address + width ≤ 0x10 + 8 * bytes

-- the same of the bits from a code bit on
abbrev pub LiesInCode : ℕ → ℕ → ℕ → Type 0
LiesInCode c width bytes = Lies (0x20 + c) width bytes

-- the number in the `width` bits from a code bit on
abbrev pub code_field : List ℕ → ℕ → ℕ → ℕ
code_field bank c width = at bank (0x20 + c) width

-- the bits of the code from c on and before the end, which is a byte's end, lie in so many bytes of a bank; the end is bounded so that no sum of
-- places overflows
pub record AllLie (c end bytes : ℕ) : Type 0 where
  pub order : c ≤ end
  pub small : end ≤ 0x400
  pub whole : end % 8 ≡ 0
  pub inside : 0x20 + end ≤ 0x10 + 8 * bytes

abbrev pub code_bits : List ℕ → ℕ → ℕ → List ℕ
code_bits bank c end = take (end - c) (drop (0x20 + c - 0x10) (spread 2 8 bank))

-- the first of them that is 1; where none is, the end
abbrev pub first_one : List ℕ → ℕ → ℕ → ℕ
first_one bank c end = c + length (upto 1 (code_bits bank c end))

-- a reader of a bank that stands at a code bit
abbrev pub reader_of : Bor (List ℕ) → CodeBit → BitReader
reader_of bank c = record { bank = bank; at = c }
