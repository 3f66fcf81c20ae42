-- The tables' inner rules, computed over every row, scheme and character.
use Prim.Native.Nat.{ℕ, ◌+◌, ◌-◌, ◌*◌, ◌^◌, ◌≤◌, ◌<◌}
use mathlib.Core.Path.{◌≡◌, refl}
use mathlib.Core.List.{[], ◌∷◌, ◌++◌, map}
use mathlib.Core.Bool.{false}
use native.Mathlib.Omega.{arith}
use lib.ListN.{length}
use Rattle.rules.specs.Bytes.{bytes}
use Rattle.rules.specs.Schemes.{Row, row, rows, schemes, words_for, words}
use Rattle.rules.specs.Characters.{table_a1, escaped, spelling}
use Rattle.rules.proofs.Rows.{AllRows}
use Rattle.rules.proofs.Numbered.{from}

-- The prefix bits are the fewest that hold the digits; in each table the bits, and the digits, of prefix and reference have one sum.
pub record Inner (P : ℕ) (p a b c d : ℕ × ℕ) (e : ℕ) (k : ℕ × ℕ) : Type 0 where
  pub hold : 10 ^ p.1 ≤ 2 ^ p.0
  pub fewest : 2 ^ (p.0 - 1) < 10 ^ p.1
  pub digits : P + p.1 ≡ 12
  pub bits_a : p.0 + a.0 ≡ 44
  pub digits_a : p.1 + a.1 ≡ 13
  pub bits_b : p.0 + b.0 ≡ 58
  pub digits_b : p.1 + b.1 ≡ 17
  pub bits_c : p.0 + c.0 ≡ 44
  pub digits_c : p.1 + c.1 ≡ 12
  pub bits_d : p.0 + d.0 ≡ 41
  pub digits_d : p.1 + d.1 ≡ 12
  pub bits_e : p.0 + e ≡ 82
  pub bits_cpi : p.0 + k.0 ≡ 51
  pub digits_cpi : p.1 + k.1 ≡ 15

abbrev pub InnerRules : ℕ → Row → Type 0
InnerRules P (row p a b c d e k) = Inner P p a b c d e k

pub partition_tables : AllRows InnerRules 0 rows
unfolding rows
partition_tables = (omega arith, (omega arith, (omega arith, (omega arith, (omega arith, omega arith)))))

-- words are rounded up, for every bit total; and those of each scheme, in the table's order
pub rounded_up : (bits : ℕ) → (bits ≤ 16 * words_for bits) × (16 * words_for bits < bits + 16)
rounded_up bits = (omega arith, omega arith)

pub word_counts : map words schemes ≡ 6 ∷ 13 ∷ 6 ∷ 6 ∷ 13 ∷ 6 ∷ 11 ∷ 6 ∷ 6 ∷ 6 ∷ 6 ∷ 11 ∷ 6 ∷ 8 ∷ 6 ∷ 6 ∷ []
unfolding schemes
word_counts = refl

-- table A-1 once more, by ranges of codes: 82 of them
pub ranges : table_a1 ≡ from 0x21 2 ++ from 0x25 27 ++ from 0x41 26 ++ from 0x5F 1 ++ from 0x61 26
unfolding table_a1
ranges = refl

pub eighty_two : length table_a1 ≡ 82
unfolding table_a1
eighty_two = refl

-- the seven escapes
pub seven_escapes : map (spelling false) escaped ≡ map bytes ("%22" ∷ "%25" ∷ "%26" ∷ "%2F" ∷ "%3C" ∷ "%3E" ∷ "%3F" ∷ [])
unfolding escaped
seven_escapes = refl
