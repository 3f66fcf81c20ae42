-- `shortest` is the one numeral with no leading zero.
use mathlib.Core.Path.{◌≡◌, refl, sym, ap, ◌∙◌}
use Prim.Native.Nat.{ℕ, zero, suc, ◌*◌, ◌/◌, ◌%◌, ◌^◌, ◌≤◌, ◌<◌, suc-le-suc}
use native.Mathlib.Nat.{one-mul, pow-zero, pow-suc, mod-eq_of_lt, div-lt_self, div-lt_iff_lt-mul, zero-lt-suc, le_trans, le_of_eq, le-add_right, mul-le-mul_right, pow-le-pow_right}
use native.Mathlib.Omega.{arith}
use mathlib.Core.List.{List, [], ◌∷◌, ◌++◌}
use lib.ListN.{length}
use borrow.Author.Tests.{lt-ltb, le-ltb}
use mathlib.Core.Logic.{⊎_elim}
use Rattle.numeral.specs.Numeral.{value, numeral, Digits, size_in, size, shortest}
use Rattle.numeral.proofs.Arithmetic.{lt_or_ge}
use Rattle.numeral.proofs.Values.{length_numeral, value_lt, value_numeral_lt, numeral_value}

size_in_small : (b f v : ℕ) → v < b → size_in b f v ≡ 1
unfolding size_in
size_in_small b zero v h = refl
size_in_small b (suc f) v h = rw (lt-ltb v b h, size_in)

size_in_large : (b f v : ℕ) → b ≤ v → size_in b (suc f) v ≡ suc (size_in b f (v / b))
unfolding size_in
size_in_large b f v h = rw (le-ltb v b h, size_in)

module _ (b : ℕ) (big : 1 < b) where
  pos : 0 < b
  pos = omega arith

  smaller : (v : ℕ) → b ≤ v → v / b < v
  smaller v h = div-lt_self (omega arith) big

  -- any bound will do
  size_in_lem : (f g v : ℕ) → v ≤ f → v ≤ g → size_in b f v ≡ size_in b g v
  size_in_lem zero g v h k = size_in_small b zero v (omega arith) ∙ sym (size_in_small b g v (omega arith))
  size_in_lem (suc f) zero v h k = size_in_small b (suc f) v (omega arith) ∙ sym (size_in_small b zero v (omega arith))
  size_in_lem (suc f) (suc g) v h k =
      ⊎_elim
      (λ l. size_in_small b (suc f) v l ∙ sym (size_in_small b (suc g) v l))
      (λ m. size_in_large b f v m ∙ ap suc (size_in_lem f g (v / b) (omega (arith, smaller v m)) (omega (arith, smaller v m))) ∙ sym (size_in_large b g v m))
      (lt_or_ge v b)

  pub size_small : (v : ℕ) → v < b → size b v ≡ 1
  unfolding size
  size_small v h = size_in_small b v v h

  pub size_large : (v : ℕ) → b ≤ v → size b v ≡ suc (size b (v / b))
  unfolding size
  size_large zero h = absurd (omega arith)
  size_large (suc v) h =
      size_in_large b v (suc v) h ∙ ap suc (size_in_lem v (suc v / b) (suc v / b) (omega (arith, smaller (suc v) h)) (omega arith))

  pub shortest_small : (v : ℕ) → v < b → shortest b v ≡ v ∷ []
  unfolding shortest numeral
  shortest_small v h = rw (size_small v h, mod-eq_of_lt h)

  pub shortest_large : (v : ℕ) → b ≤ v → shortest b v ≡ shortest b (v / b) ++ (v % b ∷ [])
  unfolding shortest numeral
  shortest_large v h = rw (size_large v h)

  pub length_shortest : (v : ℕ) → length (shortest b v) ≡ size b v
  unfolding shortest
  length_shortest v = length_numeral b (size b v) v

  -- v has that many digits, and no fewer unless it is 0
  size_in_lt : (f v : ℕ) → v ≤ f → v < b ^ size_in b f v
  size_in_lt zero v h = rw (size_in_small b zero v (omega arith), pow-suc b 0, pow-zero, one-mul) (omega arith)
  size_in_lt (suc f) v h =
      ⊎_elim
      (λ l. rw (size_in_small b (suc f) v l, pow-suc b 0, pow-zero, one-mul) l)
      (λ m. rw (size_in_large b f v m, pow-suc) ((div-lt_iff_lt-mul pos).0 (size_in_lt f (v / b) (omega (arith, smaller v m)))))
      (lt_or_ge v b)

  pub size_lt : (v : ℕ) → v < b ^ size b v
  unfolding size
  size_lt v = size_in_lt v v (omega arith)

  pub value_shortest : (v : ℕ) → value b (shortest b v) ≡ v
  unfolding shortest
  value_shortest v = value_numeral_lt b (size b v) v (size_lt v)

  -- at most n digits, where v is below b ^ n
  size_in_le : (f v n : ℕ) → v ≤ f → 0 < n → v < b ^ n → size_in b f v ≤ n
  size_in_le zero v n h p l = rw (size_in_small b zero v (omega arith)) p
  size_in_le (suc f) v zero h p l = absurd (omega arith)
  size_in_le (suc f) v (suc n) h p l =
      ⊎_elim
      (λ k. rw (size_in_small b (suc f) v k) p)
      (λ m. rw (size_in_large b f v m) (suc-le-suc (size_in_le f (v / b) n (omega (arith, smaller v m)) (more n l m) ((div-lt_iff_lt-mul pos).1 (rw pow-suc at l)))))
      (lt_or_ge v b)
    where
      more : (k : ℕ) → v < b ^ suc k → b ≤ v → 0 < k
      more zero u m = absurd (omega (arith, rw (pow-suc b 0, pow-zero, one-mul) at u))
      more (suc k) u m = zero-lt-suc k

  pub size_le : (v n : ℕ) → 0 < n → v < b ^ n → size b v ≤ n
  unfolding size
  size_le v n p l = size_in_le v v n (omega arith) p l

  pub size_pos : (v : ℕ) → 0 < size b v
  size_pos v = ⊎_elim (λ l. rw (size_small v l) (omega arith)) (λ m. rw (size_large v m) (omega arith)) (lt_or_ge v b)

  pub size_ge : (v n : ℕ) → b ^ n ≤ v → n < size b v
  size_ge v n h =
      ⊎_elim (λ l. l) (λ m. absurd (omega (arith, size_lt v, pow-le-pow_right pos m))) (lt_or_ge n (size b v))

  -- digits with no leading zero are the shortest numeral of their value
  pub shortest_value : (d : ℕ) (ds : List ℕ) → Digits b (d ∷ ds) → 0 < d → shortest b (value b (d ∷ ds)) ≡ d ∷ ds
  unfolding shortest
  shortest_value d ds h p = rw long (numeral_value b (d ∷ ds) h)
    where
      low : b ^ length ds ≤ value b (d ∷ ds)
      low = unfold value in le_trans (le_trans (le_of_eq (sym (one-mul (b ^ length ds)))) (mul-le-mul_right (b ^ length ds) p)) (le-add_right (d * b ^ length ds) (value b ds))

      long : size b (value b (d ∷ ds)) ≡ length (d ∷ ds)
      long = omega (arith, size_ge (value b (d ∷ ds)) (length ds) low, size_le (value b (d ∷ ds)) (length (d ∷ ds)) (zero-lt-suc (length ds)) (value_lt b (d ∷ ds) h))
