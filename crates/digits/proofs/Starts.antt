-- Whether a text t begins with s: the two are compared byte by byte. At the end: what a caller learns from the answer.
use Prim.Native.Nat.{ℕ, ◌≤◌, ◌<◌}
use mathlib.Core.Path.{◌≡◌, refl, sym, ap, ◌∙◌}
use mathlib.Core.Bool.{Bool, true, false, cond, ◌&&◌}
use mathlib.Core.List.{List, [], ◌∷◌, ◌++◌}
use Rattle.std.specs.Prelude.{Option, None, Some}
use native.Mathlib.Omega.{arith}
use lib.ListN.{length, drop, length-append}
use lib.Seq.{drop_at}
use lib.Dec.{eqb}
use Rattle.rules.specs.TextNumbers.{after}
use Rattle.rules.proofs.Answers.{Gives}
use Rattle.rules.proofs.Starts.{after_is}
use Rattle.digits.specs.Starts.{begun}

-- One more byte of each.
pub begun_more : (x y : ℕ) (s t : List ℕ) (so_far : Bool) → so_far && begun (after (x ∷ s) (y ∷ t)) ≡ (so_far && eqb x y) && begun (after s t)
begun_more x y s t false = refl
begun_more x y s t true = go (eqb x y)
  where
    go : (b : Bool) → begun (cond b (after s t) None) ≡ b && begun (after s t)
    go true = refl
    go false = refl

-- At the end of the start nothing is left to compare.
pub begun_end : (s t : List ℕ) (so_far : Bool) → length s ≡ 0 → so_far && begun (after s t) ≡ so_far
begun_end [] t true e = refl
begun_end [] t false e = refl
begun_end (x ∷ s) t so_far e = absurd (omega arith)

-- A shorter text does not begin so.
pub too_short : (s t : List ℕ) → length t < length s → begun (after s t) ≡ false
too_short [] t l = absurd (omega arith)
too_short (x ∷ s) [] l = refl
too_short (x ∷ s) (y ∷ t) l = begun_more x y s t true ∙ rw (too_short s t (omega arith)) (and_false (eqb x y))
  where
    and_false : (b : Bool) → b && false ≡ false
    and_false true = refl
    and_false false = refl

-- For callers. n is the length of s: a text that begins with s has n bytes or more, and goes on behind them.
pub begun_is : (s t : List ℕ) (n : ℕ) → length s ≡ n → begun (after s t) ≡ true → (n ≤ length t) × (after s t ≡ Some (drop n t))
begun_is s t n k e = go (after s t) refl (after_is s t) e
  where
    go : (o : Option (List ℕ)) → after s t ≡ o → Gives (λ u. t ≡ s ++ u) o → begun o ≡ true → (n ≤ length t) × (after s t ≡ Some (drop n t))
    go None q h b = let x : ◌≡◌ {A = ℕ} 0 1 = cc in absurd (omega arith)
    go (Some u) q h b = (omega (arith, ap length h, length-append s u), q ∙ ap Some (sym (ap (drop n) h ∙ drop_at s u n k)))

pub begun_not : (s t : List ℕ) → begun (after s t) ≡ false → after s t ≡ None
begun_not s t e = go (after s t) e
  where
    go : (o : Option (List ℕ)) → begun o ≡ false → o ≡ None
    go None b = refl
    go (Some u) b = let x : ◌≡◌ {A = ℕ} 0 1 = cc in absurd (omega arith)
