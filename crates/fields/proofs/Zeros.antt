-- The zeros before the first one bit of a number, by how many binary digits it has.
use Prim.Native.Nat.{ℕ, zero, suc, ◌+◌, ◌*◌, ◌^◌, ◌≤◌, ◌<◌}
use mathlib.Core.Path.{◌≡◌, refl, sym}
use mathlib.Core.Bool.{Bool, true, false, cond}
use mathlib.Core.Logic.{⊎_elim}
use mathlib.Core.List.{List, [], ◌∷◌}
use native.Mathlib.Omega.{arith}
use native.Mathlib.Nat.{pow-le-pow_right, one-le-pow, pow-suc}
use lib.Count.{count_leading_zeros, leading_length}
use lib.Dec.{eqb, eqb→eq, lit<}
use lib.ListN.{length}
use Rattle.numeral.specs.Numeral.{value, Digits}
use Rattle.numeral.proofs.Arithmetic.{lt_or_ge}
use Rattle.numeral.proofs.Values.{length_numeral, digits_numeral, value_lt, value_numeral_lt}
use Rattle.rules.specs.Bytes.{upto}
use Rattle.rules.specs.Coding.{binary}
use Rattle.rules.proofs.Tests.{apart}

-- bits whose number has m binary digits
zeros_of : (l : List ℕ) → Digits 2 l → (m : ℕ) → value 2 l < 2 ^ m → 2 ^ m ≤ 2 * value 2 l + 1 → length (upto 1 l) + m ≡ length l
unfolding value
zeros_of [] d zero a b = refl
zeros_of [] d (suc m) a b = absurd (omega (arith, one-le-pow m 2 (lit< tt), pow-suc 2 m))
zeros_of (x ∷ xs) d m a b = go (eqb 1 x) refl (zeros_of xs d.1 m)
  where
    -- a 1 is the first of m digits
    first : x ≡ 1 → m ≡ suc (length xs)
    first one =
        let n = length xs in
        let small = value_lt 2 xs d.1 in
        ⊎_elim (λ (l : m < suc n). let p : 2 ^ m ≤ 2 ^ n = pow-le-pow_right (lit< tt) (omega arith) in absurd (omega (arith, rw one at a)))
        (λ (l : suc n ≤ m).
        ⊎_elim (λ (k : suc n < m). let p : 2 ^ suc (suc n) ≤ 2 ^ m = pow-le-pow_right (lit< tt) k in absurd (omega (arith, small, rw one at b, pow-suc 2 n, pow-suc 2 (suc n)))) (λ (k : m ≤ suc n). omega arith) (lt_or_ge (suc n) m))
        (lt_or_ge m (suc n))

    go : (t : Bool) → eqb 1 x ≡ t → (value 2 xs < 2 ^ m → 2 ^ m ≤ 2 * value 2 xs + 1 → length (upto 1 xs) + m ≡ length xs)
        → length (cond t [] (x ∷ upto 1 xs)) + m ≡ suc (length xs)
    go true e ih = omega (arith, first (sym (eqb→eq 1 x (rw e tt))))
    go false e ih =
        let zero_bit : x ≡ 0 = omega (arith, d.0, apart 1 x (rw e tt)) in
        omega (arith, ih (omega (arith, rw zero_bit at a)) (omega (arith, rw zero_bit at b)))

-- and the number itself
module _ (v width : ℕ) (small : v < 2 ^ width) (narrow : width ≤ 64) where
  pub zeros_before : (count_leading_zeros 64 v + width ≡ length (upto 1 (binary width v)) + 64) × (count_leading_zeros 64 v ≤ 64)
  zeros_before =
      let p : 2 ^ width ≤ 2 ^ 64 = pow-le-pow_right (lit< tt) narrow in
      let (m, e, a, b) = leading_length 64 v (omega arith) in
      let q = value_numeral_lt 2 width v small in
      let z = zeros_of (binary width v) (digits_numeral 2 width v (lit< tt)) m (rw q a) (rw q b) in
      (omega (arith, e, z, length_numeral 2 width v), omega (arith, e))

  pub zeros_within : length (upto 1 (binary width v)) ≤ width
  zeros_within = omega (arith, zeros_before)

  -- a number that is not 0 has a one bit
  pub zeros_some : ¬ (v ≡ 0) → length (upto 1 (binary width v)) < width
  zeros_some some =
      let p : 2 ^ width ≤ 2 ^ 64 = pow-le-pow_right (lit< tt) narrow in
      let (m, e, a, b) = leading_length 64 v (omega arith) in
      let one : 0 < m = positive m a in
      omega (arith, zeros_before, e)
    where
      positive : (m : ℕ) → v < 2 ^ m → 0 < m
      positive zero a = absurd (some (omega arith))
      positive (suc m) a = omega arith

-- and 0 has none
pub zeros_all : (width : ℕ) → length (upto 1 (binary width 0)) ≡ width
zeros_all width =
    let q = value_numeral_lt 2 width 0 (one-le-pow width 2 (lit< tt)) in
    omega (arith, zeros_of (binary width 0) (digits_numeral 2 width 0 (lit< tt)) 0 (rw q (omega arith)) (rw q (omega arith)), length_numeral 2 width 0)
