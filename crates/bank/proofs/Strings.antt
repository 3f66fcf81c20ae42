-- Characters of a string as one number: the next one, how large it is, and its bits.
use Prim.Native.Nat.{ℕ, ◌+◌, ◌*◌, ◌≤◌, ◌<◌}
use mathlib.Core.Path.{◌≡◌}
use mathlib.Core.List.{List}
use native.Mathlib.Nat.{pow-le-pow_right, lt_of_lt_of_le}
use native.Mathlib.Numerals.{add-one}
use native.Mathlib.Omega.{arith}
use lib.Dec.{lit<}
use lib.ListN.{length, take, get_or}
use lib.Seq.{take-suc, length-take-le}
use Rattle.numeral.specs.Numeral.{value, numeral, Digits, spread}
use Rattle.numeral.proofs.Values.{numeral_of_value, value_snoc, value_lt, digits_take, digits_at}
use Rattle.numeral.proofs.Spreads.{length_spread, digits_spread, value_spread}

-- one more of at most eight characters, behind the first i of them
module _ (cs : List ℕ) (few : length cs ≤ 8) (h : Digits 128 cs) (i : ℕ) (l : i < length cs) where
  pub next_character : value 128 (take (i + 1) cs) ≡ value 128 (take i cs) * 128 + get_or cs i 0
  next_character = rw (add-one i, take-suc cs i 0 l, value_snoc)

  pub fits : value 128 (take i cs) * 128 + get_or cs i 0 < 0x100000000000000
  fits =
      let size : length (take i cs) ≡ i = length-take-le i cs (omega arith) in
      let seven : i ≤ 7 = omega arith in
      let small : value 128 (take i cs) < 0x2000000000000 = lt_of_lt_of_le (rw size at (value_lt 128 (take i cs) (digits_take 128 i cs h))) (pow-le-pow_right (lit< tt) seven) in
      omega (arith, digits_at 128 cs i h l)

pub joined_bits : (cs : List ℕ) → Digits 128 cs → numeral 2 (7 * length cs) (value 128 cs) ≡ spread 2 7 cs
joined_bits cs h = rw (← value_spread 2 7 cs h) (numeral_of_value 2 (7 * length cs) (spread 2 7 cs) (digits_spread 2 7 cs (lit< tt)) (length_spread 2 7 cs))
