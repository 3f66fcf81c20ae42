-- The numeric string of an integer v, by the highest power of ten that is not above it: v reads as a 1 and k digits exactly if 10^k is that
-- power, and v is below twice it.
use Prim.Native.Nat.{ℕ, ◌+◌, ◌*◌, ◌^◌, ◌≤◌, ◌<◌}
use mathlib.Core.Path.{◌≡◌, refl, sym, ◌∙◌}
use mathlib.Core.Logic.{⊎_elim}
use mathlib.Core.List.{List}
use Rattle.std.specs.Prelude.{Option, None, Some}
use native.Mathlib.Nat.{pow-le-pow_right, pow-suc}
use native.Mathlib.Numerals.{add-one}
use native.Mathlib.Omega.{arith}
use lib.Dec.{lit<, lt→ltb, le→leb}
use lib.ListN.{length}
use Rattle.numeral.specs.Numeral.{numeral, shortest}
use Rattle.numeral.proofs.Arithmetic.{lt_or_ge}
use Rattle.numeral.proofs.Values.{length_numeral, digits_numeral, value_numeral_lt}
use Rattle.rules.specs.BankNumbers.{numeric_in}
use Rattle.rules.specs.Conditions.{OneThen}
use Rattle.rules.proofs.Answers.{Decides}
use Rattle.rules.proofs.Numerics.{one_then, NumericIs, numeric_decides, numeric_of_lem, one_between}
use Rattle.tens.specs.Numerics.{numeric_of, one_before}

-- the next power
pub next_power : (k : ℕ) → 10 ^ (k + 1) ≡ 10 ^ k * 10
next_power k = rw (add-one k, pow-suc 10 k) (omega arith)

pub power_le : (j k : ℕ) → j ≤ k → 10 ^ j ≤ 10 ^ k
power_le j k l = pow-le-pow_right (lit< tt) l

-- a power of ten and a number below it are the number's digits behind a 1
pub one_before_lem : (k v : ℕ) → v < 10 ^ k → 10 ^ k + v ≡ one_before k v
one_before_lem k v l = sym (one_then (numeral 10 k v) ∙ rw (length_numeral, value_numeral_lt 10 k v l))

-- where no 1 and 1 to n digits make v, nothing is read
no_numeric : (n v : ℕ) → ¬ (OneThen n v) → None ≡ numeric_of (numeric_in n (shortest 10 v))
no_numeric n v not-one = go (numeric_in n (shortest 10 v)) (numeric_decides n v)
  where
    go : (o : Option (List ℕ)) → Decides (¬ (OneThen n v)) (NumericIs n v) o → None ≡ numeric_of o
    go None s = refl
    go (Some ds) s = absurd (s.0 not-one)

-- nor in 0
pub none_in_zero : (n v : ℕ) → v ≡ 0 → None ≡ numeric_of (numeric_in n (shortest 10 v))
none_in_zero n v z = no_numeric n v λ r. let (j, s, l, p, q) = (one_between n v).0 r in omega arith

-- the 1 stands at the highest power of ten that is not above v
one_at : (n v k : ℕ) → 10 ^ k ≤ v → v < 10 * 10 ^ k → OneThen n v → (0 < k) × (k ≤ n) × (v < 2 * 10 ^ k)
one_at n v k low high r =
    let (j, s, l, p, q) = (one_between n v).0 r in
    let up : j ≤ k = ⊎_elim (λ (o : k < j). absurd (omega (arith, next_power k, power_le (k + 1) j (omega arith)))) (λ (o : j ≤ k). o) (lt_or_ge k j) in
    let same : j ≡ k = ⊎_elim (λ (o : j < k). absurd (omega (arith, next_power j, power_le (j + 1) k (omega arith)))) (λ (o : k ≤ j). omega arith) (lt_or_ge j k) in
    rw (← same) (s, l, q)

pub none_there : (n v k : ℕ) → 10 ^ k ≤ v → v < 10 * 10 ^ k → ¬ ((0 < k) × (k ≤ n) × (v < 2 * 10 ^ k)) → None ≡ numeric_of (numeric_in n (shortest 10 v))
none_there n v k low high not-one = no_numeric n v λ r. not-one (one_at n v k low high r)

-- the integer of k digits and the 1 before them has them
pub numeric_read : (n v k w : ℕ) → 0 < k → k ≤ n → w < 10 ^ k → v ≡ 10 ^ k + w → Some (record { value = w; count = k }) ≡ numeric_of (numeric_in n (shortest 10 v))
numeric_read n v k w s l h e =
    let ds = numeral 10 k w in
    let size : length ds ≡ k = length_numeral 10 k w in
    let is : numeric_in n (shortest 10 (one_before k w)) ≡ Some ds = numeric_of_lem n ds (digits_numeral 10 k w (lit< tt)) (rw size (lt→ltb 0 k s)) (rw size (le→leb k n l)) in
    rw (e, one_before_lem k w h, is, size, value_numeral_lt 10 k w h)
