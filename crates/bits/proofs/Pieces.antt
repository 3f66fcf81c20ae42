-- A field of bits that lies in one byte, and a field that goes on behind its first byte.
use mathlib.Core.Path.{◌≡◌, sym, ap, ◌∙◌}
use Prim.Native.Nat.{ℕ, ◌+◌, ◌-◌, ◌*◌, ◌/◌, ◌%◌, ◌^◌, ◌≤◌, ◌<◌}
use native.Mathlib.Omega.{arith}
use native.Mathlib.Nat.{lt_of_lt_of_le, pow-zero, div-one, mod-eq_of_lt}
use mathlib.Core.List.{List}
use lib.ListN.{length, get_or, take, drop, length-take, length-drop}
use lib.Seq.{get_or-take, get_or-drop}
use lib.Dec.{lit<}
use lib.Pow.{pow_mono}
use Rattle.numeral.specs.Numeral.{value}
use Rattle.numeral.proofs.Values.{value_nil, value_numeral}
use Rattle.numeral.proofs.Spreads.{length_spread, digits_spread}
use Rattle.numeral.proofs.Fields.{field_in_lem, field_more, field_lt}
use Rattle.bits.specs.Bits.{bits, field_at, Within}

-- n bits of one byte
pub piece_is : (xs : List ℕ) (at n : ℕ) → at % 8 + n ≤ 8 → at / 8 < length xs
    → field_at xs at n ≡ get_or xs (at / 8) 0 / 2 ^ (8 - at % 8 - n) % 2 ^ n
piece_is xs at n fits within =
    let width : at % 8 + (n + (8 - at % 8 - n)) ≡ 8 = omega arith in
    let place : 8 * (at / 8) + at % 8 ≡ at = omega arith in
    ap (value 2) (rw (width, place) at (field_in_lem 2 (at % 8) n (8 - at % 8 - n) xs (at / 8) within)) ∙ value_numeral 2 n _

-- all bits of it from one on
pub rest_is : (xs : List ℕ) (at : ℕ) → at / 8 < length xs → field_at xs at (8 - at % 8) ≡ get_or xs (at / 8) 0 % 2 ^ (8 - at % 8)
rest_is xs at within =
    let none : 8 - at % 8 - (8 - at % 8) ≡ 0 = omega arith in
    rw (none, pow-zero, div-one) at (piece_is xs at (8 - at % 8) (omega arith) within)

pub field_none : (xs : List ℕ) (at : ℕ) → field_at xs at 0 ≡ 0
field_none xs at = value_nil 2

-- v is the number in the bits that are done, and x that in the next n
field_next : (xs : List ℕ) (at done n v x : ℕ) → v ≡ field_at xs at done → x ≡ field_at xs (at + done) n → at + (done + n) ≤ 8 * length xs → done + n ≤ 64
    → (v * 2 ^ n + x ≡ field_at xs at (done + n)) × (v * 2 ^ n + x < 2 ^ 64)
field_next xs at done n v x e f h k =
    let within : at + (done + n) ≤ length (bits xs) = rw length_spread h in
    let next : v * 2 ^ n + x ≡ field_at xs at (done + n) = rw (e, f) (sym (field_more 2 (bits xs) at done n within)) in
    (next, rw next (lt_of_lt_of_le (field_lt 2 (bits xs) at (done + n) (digits_spread 2 8 xs (lit< tt)) within) (pow_mono k)))

-- a field that goes on behind its first byte
module _ (xs : List ℕ) (at width : ℕ) (h : Within at width (length xs)) (behind : 8 - at % 8 < width) where
  abbrev first : ℕ
  first = 8 - at % 8

  abbrev from : ℕ
  from = at / 8 + 1

  abbrev whole : List ℕ
  whole = take (from + (width - first) / 8 - from) (drop from xs)

  abbrev done : ℕ
  done = first + 8 * ((width - first) / 8)

  length_whole : length whole ≡ (width - first) / 8
  length_whole = rw (length-take, length-drop) (omega arith)

  -- v is the number up to the i-th of the whole bytes
  module _ (i v : ℕ) (f : v ≡ field_at xs at (first + 8 * i)) where
    pub byte_next : i < length whole → get_or xs (from + i) 0 < 256
        → (v * 256 + get_or whole i 0 ≡ field_at xs at (first + 8 * (i + 1))) × (v * 256 + get_or whole i 0 < 2 ^ 64)
    byte_next l byte =
        let p = at + (first + 8 * i) in
        let all : 8 - p % 8 ≡ 8 = omega (arith, length_whole) in
        let here : p / 8 ≡ from + i = omega (arith, length_whole) in
        let field : get_or xs (from + i) 0 ≡ field_at xs p 8 = sym (rw (all, here) at (rest_is xs p (omega (arith, length_whole))) ∙ mod-eq_of_lt byte) in
        let is : get_or whole i 0 ≡ field_at xs p 8 = rw (get_or-take (from + (width - first) / 8 - from) (drop from xs) i 0 (omega (arith, length_whole)), get_or-drop) field in
        let next : first + 8 * i + 8 ≡ first + 8 * (i + 1) = omega arith in
        rw next at (field_next xs at (first + 8 * i) 8 v (get_or whole i 0) f is (omega (arith, length_whole)) (omega (arith, length_whole)))

    pub rest_next : (x : ℕ) → i ≤ length whole → length whole ≤ i → x ≡ field_at xs (at + done) (width - done)
        → (v * 2 ^ (width - done) + x ≡ field_at xs at width) × (v * 2 ^ (width - done) + x < 2 ^ 64)
    rest_next x l m g =
        let all : i ≡ (width - first) / 8 = omega (arith, length_whole) in
        let next : done + (width - done) ≡ width = omega arith in
        rw next at (field_next xs at done (width - done) v x (rw all at f) g (omega arith) (omega arith))
