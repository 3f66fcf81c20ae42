-- The two hexadecimal digits of a byte as one number. One test over the 256 bytes, which the checker computes, proves the sum right.
use Prim.Native.Nat.{ℕ, ◌+◌, ◌*◌, ◌/◌, ◌%◌, ◌≤◌, ◌<◌}
use mathlib.Core.Path.{◌≡◌}
use mathlib.Core.Bool.{Bool, ◌&&◌}
use mathlib.Core.List.{List}
use native.Mathlib.Numerals.{add-one}
use native.Mathlib.Omega.{arith}
use lib.Bits.{bit_and}
use lib.ListN.{length, take, get_or, set}
use lib.Dec.{T, eqb, eqb→eq, leb, leb→le, ltb, ltb→lt}
use Rattle.numeral.specs.Numeral.{splice}
use Rattle.rules.specs.Bytes.{hex_digit, hex_text}
use Rattle.rules.proofs.Tests.{both, below, below_is}
use Rattle.digits.proofs.Texts.{put_byte}

-- the two halves of a byte, each in a byte of its own; and a 1 in each byte whose half has a letter for its digit
abbrev pub halves : ℕ → ℕ
halves x = x / 16 + x % 16 * 256

abbrev pub letters : ℕ → ℕ
letters x = bit_and ((halves x + 0x606) / 16) 0x101

right : ℕ → Bool
right x = eqb (halves x + 0x3030 + letters x * 7) (hex_digit (x / 16) + 256 * hex_digit (x % 16)) && leb (letters x) 0x101

all_right : T (below right 256)
unfolding right
all_right = tt

module _ (x : ℕ) (h : x < 256) where
  pub pair_is : halves x + 0x3030 + letters x * 7 ≡ hex_digit (x / 16) + 256 * hex_digit (x % 16)
  unfolding right
  pair_is = eqb→eq _ _ (both (eqb (halves x + 0x3030 + letters x * 7) (hex_digit (x / 16) + 256 * hex_digit (x % 16))) (leb (letters x) 0x101) (below_is right 256 all_right x h)).0

  pub few_letters : letters x ≤ 0x101
  unfolding right
  few_letters = leb→le _ _ (both (eqb (halves x + 0x3030 + letters x * 7) (hex_digit (x / 16) + 256 * hex_digit (x % 16))) (leb (letters x) 0x101) (below_is right 256 all_right x h)).1

digit_byte : (d : ℕ) → d < 16 → hex_digit d < 256
digit_byte d h = ltb→lt (hex_digit d) 256 (below_is (λ n. ltb (hex_digit n) 256) 16 tt d h)

-- the first i bytes of xs are written, and q is the number of the next one's digits: its low byte is stored, and then its high byte
pub put_pair : (s xs o : List ℕ) (at i p q : ℕ) → o ≡ splice s at (hex_text (take i xs)) → i < length xs → p ≡ at + 2 * i → at + 2 * length xs ≤ length s → get_or xs i 0 < 256
    → q ≡ hex_digit (get_or xs i 0 / 16) + 256 * hex_digit (get_or xs i 0 % 16) → set (set o p (q % 256)) (p + 1) (q / 256) ≡ splice s at (hex_text (take (i + 1) xs))
put_pair s xs o at i p q e h m k small pair =
    let first : hex_digit (get_or xs i 0 / 16) < 256 = digit_byte (get_or xs i 0 / 16) (omega arith) in
    let low : q % 256 ≡ hex_digit (get_or xs i 0 / 16) = omega arith in
    let high : q / 256 ≡ hex_digit (get_or xs i 0 % 16) = omega arith in
    rw (low, high, e, add-one i) (put_byte s xs at i p h m k)
