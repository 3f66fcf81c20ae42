-- A field of a list of digits, read and written within the digits of a wider base.
use mathlib.Core.Path.{◌≡◌, ◌∙◌}
use Prim.Native.Nat.{ℕ, suc, ◌+◌, ◌*◌, ◌/◌, ◌^◌, ◌≤◌, ◌<◌}
use native.Mathlib.Omega.{arith}
use mathlib.Core.List.{List, ◌++◌, append_assoc}
use lib.ListN.{length, take, drop, get_or, length-take, length-drop}
use lib.Seq.{take_at, drop_at, drop-drop, take-add, drop-cons}
use Rattle.numeral.specs.Numeral.{value, numeral, Digits, spread}
use Rattle.numeral.proofs.Values.{length_numeral, digits_take, digits_drop, value_append, numeral_append, value_lt}
use Rattle.numeral.proofs.Spreads.{drop_spread}

field_length : (l : List ℕ) (p n : ℕ) → p + n ≤ length l → length (take n (drop p l)) ≡ n
field_length l p n h = simp (length-take, length-drop) (omega arith)

pub field_more : (b : ℕ) (l : List ℕ) (p n m : ℕ) → p + (n + m) ≤ length l
    → value b (take (n + m) (drop p l)) ≡ value b (take n (drop p l)) * b ^ m + value b (take m (drop (p + n) l))
field_more b l p n m h =
    let k : length (take m (drop (p + n) l)) ≡ m = field_length l (p + n) m (omega arith) in
    rw (take-add, value_append, drop-drop, k)

pub field_lt : (b : ℕ) (l : List ℕ) (p n : ℕ) → Digits b l → p + n ≤ length l → value b (take n (drop p l)) < b ^ n
field_lt b l p n h k =
    rw (field_length l p n k) at (value_lt b (take n (drop p l)) (digits_take b n (drop p l) (digits_drop b p l h)))

-- ---- a field within one digit of a wider base

module _ (b o n r : ℕ) where
  parts : (x : ℕ) → numeral b (o + (n + r)) x ≡ numeral b o (x / b ^ (n + r)) ++ (numeral b n (x / b ^ r) ++ numeral b r x)
  parts x = numeral_append b o (n + r) x ∙ rw (numeral_append b n r x)

  pub field_in_lem : (xs : List ℕ) (k : ℕ) → k < length xs
      → take n (drop ((o + (n + r)) * k + o) (spread b (o + (n + r)) xs)) ≡ numeral b n (get_or xs k 0 / b ^ r)
  unfolding spread
  field_in_lem xs k h =
      let x : ℕ = get_or xs k 0 in
      let w : ℕ = o + (n + r) in
      let rest : List ℕ = spread b w (drop (suc k) xs) in
      let a : List ℕ = numeral b o (x / b ^ (n + r)) in
      let m : List ℕ = numeral b n (x / b ^ r) in
      let z : List ℕ = numeral b r x in
      rw (← drop-drop o (w * k), drop_spread b w k xs, drop-cons xs k 0 h, parts x, append_assoc a (m ++ z) rest, drop_at a (m ++ z ++ rest) o (length_numeral b o _), append_assoc m z rest)
      (take_at m (z ++ rest) n (length_numeral b n _))
