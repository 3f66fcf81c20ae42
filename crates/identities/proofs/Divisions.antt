-- A text divides into its components in one way: what `divided_by` gives is right (`-is`), and what is right it gives (`-of`).
use Prim.Native.Nat.{ℕ}
use mathlib.Core.Path.{◌≡◌, refl, ◌∙◌, ap}
use mathlib.Core.List.{List, [], ◌∷◌, ◌++◌}
use Rattle.std.specs.Prelude.{Option, None, Some, option_map}
use mathlib.Core.Bool.{Bool, true, false, ◌&&◌, cond}
use lib.Dec.{T}
use Rattle.rules.specs.Answers.{kept}
use Rattle.rules.specs.Bytes.{among, upto, behind, dot}
use Rattle.rules.proofs.Tests.{is_true}
use Rattle.rules.proofs.Answers.{Gives}
use Rattle.rules.proofs.Runs.{run_is, among_of, upto_of, behind_of_lem}
use Rattle.identities.specs.declared.Family.{Family}
use Rattle.identities.specs.declared.Family.TheVariants.{Sgtin, Sscc, Sgln, Grai, Giai, Gsrn, Gsrnp, Gdti, Gid, Sgcn, Cpi}
use Rattle.identities.specs.declared.Component.{Component}
use Rattle.identities.specs.Families.{about}
use Rattle.identities.specs.Grammar.{Is, Made, none_left, next, totals, Identity, IdentityFits, joined}
use Rattle.identities.specs.Numbers.{is, divided_by, body_in}
use Rattle.identities.proofs.Components.{component_is, component_of, Dotless, clear}

-- t is the parts xs, joined, and they are the components cs
abbrev Divided : List Component → List ℕ → List (List ℕ) → Type 0
Divided cs t xs = Made cs xs × (t ≡ joined xs)

-- one more part in front
before : {c d : Component} {cs : List Component} {x u : List ℕ} {ys : List (List ℕ)} → Is c x → Divided (d ∷ cs) u ys → Divided (c ∷ d ∷ cs) (x ++ dot ∷ u) (x ∷ ys)
before {x = x} i (next {x = y} {xs = ys} j m, e) = (next i (next j m), ap (λ v. x ++ dot ∷ v) e)

divided_is : (cs : List Component) (t : List ℕ) → Gives (Divided cs t) (divided_by cs t)
divided_is [] t = tt
divided_is (c ∷ []) t = go (is c t) (component_is c t)
  where
    go : (b : Bool) → (T b → Is c t) → Gives (Divided (c ∷ []) t) (cond b (Some (t ∷ [])) None)
    go true h = (next (h tt) none_left, refl)
    go false h = tt
divided_is (c ∷ d ∷ cs) t = go (among dot t) (run_is dot t) (is c (upto dot t)) (component_is c (upto dot t)) (divided_by (d ∷ cs) (behind dot t)) (divided_is (d ∷ cs) (behind dot t))
  where
    go : (a : Bool) → (T a → t ≡ upto dot t ++ dot ∷ behind dot t) → (b : Bool) → (T b → Is c (upto dot t)) → (o : Option (List (List ℕ))) → Gives (Divided (d ∷ cs) (behind dot t)) o
        → Gives (Divided (c ∷ d ∷ cs) t) (cond (a && b) (option_map (upto dot t ∷◌) o) None)
    go false r b h o g = tt
    go true r false h o g = tt
    go true r true h None g = tt
    go true r true h (Some ys) g = let (m, e) = before (h tt) g in (m, r tt ∙ e)

-- none but the last part may hold a dot
abbrev Separable : List Component → Type 0
Separable [] = ⊥
Separable (c ∷ []) = Unit
Separable (c ∷ d ∷ cs) = Dotless c × Separable (d ∷ cs)

divided_of : {cs : List Component} {xs : List (List ℕ)} → Separable cs → Made cs xs → divided_by cs (joined xs) ≡ Some xs
divided_of s none_left = absurd s
divided_of s (next {c = c} {x = x} i none_left) = rw (is_true (is c x) (component_of c x i))
divided_of s (next {c = c} {x = x} i (next {x = y} {xs = ys} j m)) =
    let u = joined (y ∷ ys) in
    let h = clear c x s.0 i in
    rw (among_of dot u x, upto_of dot u x h, behind_of_lem dot u x h, is_true (is c x) (component_of c x i), divided_of s.1 (next j m))

separable : (f : Family) → Separable (about f).components
separable Sgtin = (tt, (tt, tt))
separable Sscc = (tt, tt)
separable Sgln = (tt, (tt, tt))
separable Grai = (tt, (tt, tt))
separable Giai = (tt, tt)
separable Gsrn = (tt, tt)
separable Gsrnp = (tt, tt)
separable Gdti = (tt, (tt, tt))
separable Gid = (tt, (tt, tt))
separable Sgcn = (tt, (tt, tt))
separable Cpi = (tt, (tt, tt))

-- What follows a family's name.
pub body_is : (f : Family) (t : List ℕ) → Gives (λ xs. IdentityFits (record { family = f; parts = xs }) × (t ≡ joined xs)) (body_in f t)
body_is f t = go (divided_by (about f).components t) (divided_is (about f).components t)
  where
    go : (o : Option (List (List ℕ))) → Gives (Divided (about f).components t) o
        → Gives (λ xs. IdentityFits (record { family = f; parts = xs }) × (t ≡ joined xs)) (kept (totals (about f).total) o)
    go None g = tt
    go (Some xs) g = counted (totals (about f).total xs) refl
      where
        counted : (b : Bool) → totals (about f).total xs ≡ b → Gives (λ xs. IdentityFits (record { family = f; parts = xs }) × (t ≡ joined xs)) (cond b (Some xs) None)
        counted true e = (record { parts = g.0; total = rw e tt }, g.1)
        counted false e = tt

pub body_of : (ι : Identity) → IdentityFits ι → body_in ι.family (joined ι.parts) ≡ Some ι.parts
body_of ι h = rw (divided_of (separable ι.family) h.parts, is_true (totals (about ι.family).total ι.parts) h.total)
