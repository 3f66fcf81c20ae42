-- Upper-case hex digits: which bytes they are, what each is worth, and the bytes that they write, two digits each.
use Prim.Native.Nat.{ℕ, zero, suc, ◌+◌, ◌*◌, ◌/◌, ◌%◌, ◌≤◌, ◌<◌}
use mathlib.Core.Path.{◌≡◌, refl, sym, ap, ◌∙◌}
use mathlib.Core.List.{List, [], ◌∷◌, ◌++◌}
use mathlib.Core.Bool.{Bool, true, false, cond, ◌&&◌}
use Rattle.std.specs.Prelude.{None, Some}
use Rattle.std.specs.Option.{is_some}
use native.Mathlib.Omega.{arith}
use lib.Dec.{T, leb, ltb, eqb, eqb→eq, leb→le, ltb→lt}
use lib.ListN.{length, take, drop, get_or, set}
use lib.Seq.{take_at}
use Rattle.numeral.specs.Numeral.{splice}
use Rattle.numeral.proofs.Splices.{splice_snoc, length_splice, splice_front}
use Rattle.rules.specs.Bytes.{all, among, hex_digits}
use Rattle.rules.specs.Calls.{bank_room}
use Rattle.rules.proofs.Tests.{both, all_among}
use Rattle.digits.specs.Digits.{hex_place, hex_value}
use Rattle.replies.specs.Hex.{is_hex, bytes_in, most_digits, is_bank}

-- the code's test: a byte that has a value
pub hex_is : (c : ℕ) → is_some (hex_value c) ≡ is_hex c
unfolding is_hex hex_value
hex_is c = go (among c hex_digits)
  where
    go : (b : Bool) → is_some (cond b (Some (hex_place c)) None) ≡ b
    go true = refl
    go false = refl

module _ (c : ℕ) where
  -- what a digit is worth
  pub value_is : T (is_hex c) → c % 16 + 9 * (c / 64) ≡ hex_place c
  unfolding is_hex hex_place
  value_is h = sym (eqb→eq (hex_place c) (c % 16 + 9 * (c / 64)) (all_among (λ x. eqb (hex_place x) (x % 16 + 9 * (x / 64))) hex_digits c tt h))

  pub value_lt : T (is_hex c) → hex_place c < 16
  unfolding is_hex hex_place
  value_lt h = ltb→lt (hex_place c) 16 (all_among (λ x. ltb (hex_place x) 16) hex_digits c tt h)

-- Two digits to a byte.
abbrev twice : ℕ → ℕ
twice zero = zero
twice (suc n) = suc (suc (twice n))

twice_is : (n : ℕ) → twice n ≡ 2 * n
twice_is zero = refl
twice_is (suc n) = omega (arith, twice_is n)

abbrev byte_of : ℕ → ℕ → ℕ
byte_of h l = 16 * hex_place h + hex_place l

bytes_count : (n : ℕ) (t : List ℕ) → twice n ≤ length t → length (bytes_in (take (twice n) t)) ≡ n
bytes_count zero t h = refl
bytes_count (suc n) [] h = absurd (omega arith)
bytes_count (suc n) (a ∷ []) h = absurd (omega arith)
bytes_count (suc n) (a ∷ b ∷ t) h = ap suc (bytes_count n t (omega arith))

bytes_more : (n : ℕ) (t : List ℕ) → twice n + 1 < length t
    → bytes_in (take (twice (suc n)) t) ≡ bytes_in (take (twice n) t) ++ (byte_of (get_or t (twice n) 0) (get_or t (suc (twice n)) 0) ∷ [])
bytes_more n [] h = absurd (omega arith)
bytes_more n (a ∷ []) h = absurd (omega arith)
bytes_more zero (a ∷ b ∷ t) h = refl
bytes_more (suc n) (a ∷ b ∷ t) h = ap (byte_of a b ∷◌) (bytes_more n t (omega arith))

bytes_whole : (n : ℕ) (t : List ℕ) → length t ≤ twice n + 1 → bytes_in (take (twice n) t) ≡ bytes_in t
bytes_whole zero [] h = refl
bytes_whole zero (a ∷ []) h = refl
bytes_whole zero (a ∷ b ∷ t) h = absurd (omega arith)
bytes_whole (suc n) [] h = refl
bytes_whole (suc n) (a ∷ []) h = refl
bytes_whole (suc n) (a ∷ b ∷ t) h = ap (byte_of a b ∷◌) (bytes_whole n t (omega arith))

-- one more byte is written
pub read_more : (bank t : List ℕ) (i : ℕ) → 2 * i + 1 < length t → i < length bank
    → set (splice bank 0 (bytes_in (take (2 * i) t))) i (byte_of (get_or t (2 * i) 0) (get_or t (2 * i + 1) 0)) ≡ splice bank 0 (bytes_in (take (2 * (i + 1)) t))
read_more bank t i h k =
    let a : 2 * i ≡ twice i = sym (twice_is i) in
    let b : 2 * i + 1 ≡ suc (twice i) = omega arith in
    let d : 2 * (i + 1) ≡ twice (suc i) = omega arith in
    rw (b, d, a, bytes_more i t (omega arith))
    (splice_snoc bank 0 (bytes_in (take (twice i) t)) (byte_of (get_or t (twice i) 0) (get_or t (suc (twice i)) 0)) i (omega (arith, bytes_count i t (omega arith))) k)

pub read_whole : (t : List ℕ) (n : ℕ) → length t ≤ 2 * n + 1 → bytes_in (take (2 * n) t) ≡ bytes_in t
read_whole t n h = rw (sym (twice_is n)) (bytes_whole n t (omega (arith, twice_is n)))

pub read_count : (t : List ℕ) → length (bytes_in t) ≡ length t / 2
read_count t =
    let n = length t / 2 in
    let c = bytes_count n t (omega (arith, twice_is n)) in
    sym (ap length (bytes_whole n t (omega (arith, twice_is n)))) ∙ c

-- a line that is a bank
module _ (t : List ℕ) (h : is_bank t ≡ true) where
  pub bank_fits : T (all is_hex t) × (length t ≤ most_digits)
  unfolding is_bank
  bank_fits =
      let (a, d) = both (leb (length t) most_digits && eqb (length t % 2) 0) (all is_hex t) (rw h tt) in
      (d, leb→le (length t) most_digits (both (leb (length t) most_digits) (eqb (length t % 2) 0) a).0)

  -- as it is read into an output with the room for it
  pub bank_read : (z e : List ℕ) → length z ≡ bank_room → e ≡ splice z 0 (bytes_in t)
      → (length t / 2 ≤ length e) × (length t / 2 ≡ length (take (length t / 2) e)) × (take (length t / 2) e ≡ bytes_in t)
  bank_read z e l i =
      let c = read_count t in
      let k : take (length t / 2) e ≡ bytes_in t = ap (take (length t / 2)) (i ∙ splice_front z (bytes_in t)) ∙ take_at (bytes_in t) (drop (length (bytes_in t)) z) (length t / 2) c in
      let f = bank_fits.1 in
      (omega (arith, ap length i ∙ length_splice z 0 (bytes_in t) (omega arith)), sym (ap length k ∙ c), k)
