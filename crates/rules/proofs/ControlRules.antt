-- The length and the control word of a bank, each of the rules 9 to 12 by itself: when it refuses, and where.
use Prim.Native.Nat.{ℕ, ◌≤◌, ◌<◌}
use mathlib.Core.Path.{◌≡◌, refl}
use mathlib.Core.Logic.{◌⊎◌, inl, inr}
use mathlib.Core.List.{List}
use mathlib.Core.Bool.{Bool, true, false, ◌&&◌, not}
use native.Mathlib.Omega.{arith}
use lib.Dec.{T, leb, ltb, eqb, leb→le, ltb→lt, nltb→le, nleb→lt, eqb→eq}
use lib.ListN.{length}
use Rattle.rules.specs.Answers.{demand}
use Rattle.rules.specs.Coding.{word_count, bank_size}
use Rattle.rules.proofs.Tests.{both, apart}
use Rattle.rules.proofs.Answers.{Settled, settled_demand}

-- 9: the words are not all there
abbrev pub Short : List ℕ → Type 0
Short b = (length b < 2) ⊎ (length b < bank_size (word_count b))

abbrev pub enough : List ℕ → Bool
enough b = leb 2 (length b) && leb (bank_size (word_count b)) (length b)

pub enough_is : (b : List ℕ) → T (enough b) → (2 ≤ length b) × (bank_size (word_count b) ≤ length b)
enough_is b h = let (x, y) = both (leb 2 (length b)) (leb (bank_size (word_count b)) (length b)) h in (leb→le 2 (length b) x, leb→le (bank_size (word_count b)) (length b) y)

short_is : (b : List ℕ) → T (not (enough b)) → Short b
short_is b h = go (leb 2 (length b)) refl h
  where
    go : (x : Bool) → leb 2 (length b) ≡ x → T (not (x && leb (bank_size (word_count b)) (length b))) → Short b
    go true e h = inr (nleb→lt (bank_size (word_count b)) (length b) h)
    go false e h = inl (nleb→lt 2 (length b) (rw e tt))

not_short : (b : List ℕ) → T (enough b) → ¬ (Short b)
not_short b h (inl k) = omega (arith, enough_is b h)
not_short b h (inr k) = omega (arith, enough_is b h)

pub settled_9 : (b : List ℕ) → Settled 9 (Short b) (◌≡ length b) (λ _. T (enough b)) (demand (enough b) 9 (length b))
settled_9 b = settled_demand 9 (length b) (Short b) (enough b) (short_is b) (not_short b)

pub settled_10 : (W : ℕ) → Settled 10 (W ≡ 0) (◌≡ 0x10) (λ _. T (ltb 0 W)) (demand (ltb 0 W) 10 0x10)
settled_10 W = settled_demand 10 0x10 (W ≡ 0) (ltb 0 W) (λ t. omega (arith, nltb→le 0 W t)) (λ t e. omega (arith, ltb→lt 0 W t))

-- 11 and 12: a bit that must be 0 is 1
pub settled_bit : (n p t : ℕ) → t < 2 → Settled n (t ≡ 1) (◌≡ p) (λ _. T (eqb t 0)) (demand (eqb t 0) n p)
settled_bit n p t l = settled_demand n p (t ≡ 1) (eqb t 0) (λ h. omega (arith, apart t 0 h)) (λ h e. omega (arith, eqb→eq t 0 h))
