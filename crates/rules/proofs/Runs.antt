-- The run up to a separator, and the text behind it.
use Prim.Native.Nat.{ℕ}
use mathlib.Core.Path.{◌≡◌, refl, sym, ap}
use mathlib.Core.List.{List, [], ◌∷◌, ◌++◌}
use mathlib.Core.Bool.{Bool, true, false, ◌||◌, not, cond}
use lib.Dec.{T, eqb, eqb→eq, eqb_refl}
use Rattle.rules.specs.Bytes.{all, among, upto, behind}
use Rattle.rules.proofs.Tests.{is_true, is_false, both}

pub run_is : (x : ℕ) (t : List ℕ) → T (among x t) → t ≡ upto x t ++ x ∷ behind x t
run_is x [] h = absurd h
run_is x (y ∷ t) h = go (eqb x y) (eqb→eq x y) (run_is x t) h
  where
    go : (b : Bool) → (T b → x ≡ y) → (T (among x t) → t ≡ upto x t ++ x ∷ behind x t) → T (b || among x t)
        → y ∷ t ≡ cond b [] (y ∷ upto x t) ++ x ∷ cond b t (behind x t)
    go true e ih h = ap (◌∷ t) (sym (e tt))
    go false e ih h = ap (y ∷◌) (ih h)

abbrev pub without : ℕ → List ℕ → Bool
without x t = all (λ y. not (eqb x y)) t

-- what a run with no x in it and an x behind it give
module _ (x : ℕ) (u : List ℕ) where
  pub among_of : (t : List ℕ) → among x (t ++ x ∷ u) ≡ true
  among_of [] = rw (is_true (eqb x x) (eqb_refl x))
  among_of (y ∷ t) = go (eqb x y) (among_of t)
    where
      go : (b : Bool) → among x (t ++ x ∷ u) ≡ true → (b || among x (t ++ x ∷ u)) ≡ true
      go true e = refl
      go false e = e

  pub upto_of : (t : List ℕ) → T (without x t) → upto x (t ++ x ∷ u) ≡ t
  upto_of [] h = rw (is_true (eqb x x) (eqb_refl x))
  upto_of (y ∷ t) h =
      let (a, b) = both (not (eqb x y)) (without x t) h in
      rw (is_false (eqb x y) a, upto_of t b)

  pub behind_of_lem : (t : List ℕ) → T (without x t) → behind x (t ++ x ∷ u) ≡ u
  behind_of_lem [] h = rw (is_true (eqb x x) (eqb_refl x))
  behind_of_lem (y ∷ t) h =
      let (a, b) = both (not (eqb x y)) (without x t) h in
      rw (is_false (eqb x y) a, behind_of_lem t b)
