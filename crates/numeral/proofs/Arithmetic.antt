-- What the library lacks on orders, powers and remainders.
use mathlib.Core.Path.{◌≡◌, refl, sym}
use Prim.Native.Nat.{ℕ, zero, suc, ◌+◌, ◌*◌, ◌/◌, ◌%◌, ◌^◌, ◌≤◌, ◌<◌}
use native.Mathlib.Nat.{zero-add, zero-mul, mul-zero, pow-zero, pow-suc, mod-zero, div-div-eq-div-mul, div-add-mod', mul-suc, zero-lt-suc, add_comm}
use lib.Arith.{mod-mul}
use lib.Pow.{pow-add}
use borrow.Author.Tests.{ltb-true, ltb-false}
use mathlib.Core.Bool.{Bool, true, false}
use lib.Dec.{ltb}
use mathlib.Core.Logic.{◌⊎◌, inl, inr}

-- a comparison, for a proof by cases
pub lt_or_ge : (a b : ℕ) → (a < b) ⊎ (b ≤ a)
lt_or_ge a b = go (ltb a b) refl
  where
    go : (t : Bool) → ltb a b ≡ t → (a < b) ⊎ (b ≤ a)
    go true e = inl (ltb-true a b e)
    go false e = inr (ltb-false a b e)

-- `mod-mul` with no side condition
pub mod_mul' : (v m c : ℕ) → v % (m * c) ≡ (v / c % m) * c + v % c
mod_mul' v m zero = simp (mul-zero, mod-zero, zero-add)
mod_mul' v zero (suc c) = simp (zero-mul, mod-zero) (sym (div-add-mod' v (suc c)))
mod_mul' v (suc m) (suc c) = mod-mul v (zero-lt-suc m) (zero-lt-suc c)

pub pow_mul : (a m n : ℕ) → a ^ (m * n) ≡ (a ^ m) ^ n
pow_mul a m zero = simp (mul-zero, pow-zero)
pow_mul a m (suc n) = rw (mul-suc, pow-add, pow_mul a m n, ← pow-suc)

pub div_pow : (b x n r : ℕ) → x / b ^ (n + r) ≡ x / b ^ r / b ^ n
div_pow b x n r = rw (add_comm n r, pow-add, div-div-eq-div-mul)
