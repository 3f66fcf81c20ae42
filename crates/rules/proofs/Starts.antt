-- How a text begins: what `after` gives is right (`-is`), and what is right it gives (`-of`).
use Prim.Native.Nat.{ℕ, ◌+◌}
use mathlib.Core.Path.{◌≡◌, refl, sym, ◌∙◌, ap, ap₂}
use mathlib.Core.List.{List, [], ◌∷◌, ◌++◌}
use Rattle.std.specs.Prelude.{Option, None, Some}
use mathlib.Core.Bool.{Bool, true, false, cond}
use native.Mathlib.Omega.{arith}
use native.Mathlib.Nat.{zero-add}
use lib.Dec.{T, eqb, eqb→eq, eqb_refl}
use lib.ListN.{length, drop, length-append, length-drop}
use lib.Seq.{drop_at, drop-drop}
use Rattle.rules.specs.TextNumbers.{after}
use Rattle.rules.specs.Conditions.{Begins}
use Rattle.rules.proofs.Tests.{is_true}
use Rattle.rules.proofs.Answers.{Gives, Decides, decided}

pub after_is : (s t : List ℕ) → Gives (λ u. t ≡ s ++ u) (after s t)
after_is [] t = refl
after_is (x ∷ s) [] = tt
after_is (x ∷ s) (y ∷ t) = go (eqb x y) (eqb→eq x y) (after s t) (after_is s t)
  where
    go : (b : Bool) → (T b → x ≡ y) → (o : Option (List ℕ)) → Gives (λ u. t ≡ s ++ u) o → Gives (λ u. y ∷ t ≡ x ∷ s ++ u) (cond b o None)
    go false e o h = tt
    go true e None h = tt
    go true e (Some u) h = ap₂ ◌∷◌ (sym (e tt)) h

pub after_of : (s u : List ℕ) → after s (s ++ u) ≡ Some u
after_of [] u = refl
after_of (x ∷ s) u = rw (is_true (eqb x x) (eqb_refl x), after_of s u)

pub same_rest : (s u v : List ℕ) → s ++ u ≡ s ++ v → u ≡ v
same_rest s u v e = cc (after_of s u, after_of s v, ap (after s) e)

-- t begins with s, or there is nothing that s and it would be t
abbrev pub Begun : List ℕ → List ℕ → Type 0
Begun s t = (u : List ℕ) × (t ≡ s ++ u)

pub after_decides : (s t : List ℕ) → Decides (¬ (Begun s t)) (λ u. t ≡ s ++ u) (after s t)
after_decides s t = decided (Begun s t) (λ u. t ≡ s ++ u) (after s t) (after_is s t) (λ u e. (u, e)) λ r. (r.0, rw r.1 (after_of s r.0))

-- where a text goes on behind a piece of it
pub begins_behind : (t s x : List ℕ) (i : ℕ) → Begins t (s ++ x) i → Begins t x (i + length s)
begins_behind t s x i b = (
  omega (arith, b.0, ap length b.1, length-append s x, length-drop i t),
  sym (drop_at s x (length s) refl) ∙ ap (drop (length s)) b.1 ∙ drop-drop (length s) i t,
)

pub begins_after : (t s x : List ℕ) → t ≡ s ++ x → Begins t x (length s)
begins_after t s x e = rw (← zero-add (length s)) (begins_behind t s x 0 (omega arith, sym e))
