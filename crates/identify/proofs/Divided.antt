-- A text cut at its dots: what stands before the first one, what stands behind it, and the components that these are.
use Prim.Native.Nat.{ℕ, suc, ◌+◌, ◌-◌, ◌≤◌}
use mathlib.Core.Path.{◌≡◌, refl, sym, ap, ◌∙◌}
use mathlib.Core.Bool.{Bool, true, false, ◌&&◌, ◌||◌, cond}
use mathlib.Core.List.{List, [], ◌∷◌, ◌++◌, append_assoc}
use Rattle.std.specs.Prelude.{Option, None, Some, nat_lt, ◌==◌, position}
use Rattle.std.proofs.lemmas.List.Recursion.{is_position_or_len}
use native.Mathlib.Omega.{arith}
use lib.Dec.{eqb}
use lib.ListN.{length, take, drop, length-append}
use lib.Seq.{take_at, drop_at}
use borrow.Author.Tests.{lt-ltb, le-ltb}
use Rattle.rules.specs.Answers.{kept}
use Rattle.rules.specs.Bytes.{among, upto, behind, dot}
use Rattle.rules.proofs.Runs.{run_is}
use Rattle.identities.specs.declared.Family.{Family}
use Rattle.identities.specs.declared.Component.{Component}
use Rattle.identities.specs.Families.{about}
use Rattle.identities.specs.Grammar.{totals}
use Rattle.identities.specs.Numbers.{holds, is, divided_by}
use Rattle.identify.specs.Words.{split_by, counts, is_divided, is_body}

-- Whether there is a dot.
upto_least : (x : List ℕ) → length (upto dot x) ≤ length x
upto_least [] = omega arith
upto_least (y ∷ ys) = go (eqb dot y) (upto_least ys)
  where
    go : (b : Bool) → length (upto dot ys) ≤ length ys → length (cond b [] (y ∷ upto dot ys)) ≤ suc (length ys)
    go true h = omega arith
    go false h = omega arith

dotted_length : (x : List ℕ) → among dot x ≡ true → length x ≡ length (upto dot x) + length (behind dot x) + 1
dotted_length x e = omega (arith, ap length (run_is dot x (rw e tt)), length-append (upto dot x) (dot ∷ behind dot x))

undotted_length : (x : List ℕ) → among dot x ≡ false → length (upto dot x) ≡ length x
undotted_length [] e = refl
undotted_length (y ∷ ys) e = go (eqb dot y) (undotted_length ys) e
  where
    go : (b : Bool) → (among dot ys ≡ false → length (upto dot ys) ≡ length ys) → (b || among dot ys) ≡ false → length (cond b [] (y ∷ upto dot ys)) ≡ suc (length ys)
    go true ih e = cc
    go false ih e = ap suc (ih e)

dot_within : (x : List ℕ) → nat_lt (length (upto dot x)) (length x) ≡ among dot x
dot_within x = go (among dot x) refl
  where
    go : (b : Bool) → among dot x ≡ b → nat_lt (length (upto dot x)) (length x) ≡ b
    go true e = lt-ltb (length (upto dot x)) (length x) (omega (arith, dotted_length x e))
    go false e = le-ltb (length (upto dot x)) (length x) (omega (arith, undotted_length x e))

-- the first dot is behind the bytes before it
pub first_dot : (x : List ℕ) → position (dot ==◌) x ≡ cond (among dot x) (Some (length (upto dot x))) None
first_dot x = rw (← is_position_or_len (λ u. length (upto dot u)) (dot ==◌) refl more x) (ap (λ b. cond b (Some (length (upto dot x))) None) (dot_within x))
  where
    more : (y : ℕ) (u : List ℕ) → length (upto dot (y ∷ u)) ≡ cond (dot == y) 0 (1 + length (upto dot u))
    more y u = go (dot == y)
      where
        go : (b : Bool) → length (cond b [] (y ∷ upto dot u)) ≡ cond b 0 (1 + length (upto dot u))
        go true = refl
        go false = omega arith

pub a_dot : (x : List ℕ) (n : ℕ) → position (dot ==◌) x ≡ Some n → (among dot x ≡ true) × (n ≡ length (upto dot x))
a_dot x n e = go (among dot x) (sym (first_dot x) ∙ e)
  where
    go : (b : Bool) → cond b (Some (length (upto dot x))) None ≡ Some n → (b ≡ true) × (n ≡ length (upto dot x))
    go true e = (refl, cc)
    go false e = cc

pub no_dot : (x : List ℕ) → position (dot ==◌) x ≡ None → among dot x ≡ false
no_dot x e = go (among dot x) (sym (first_dot x) ∙ e)
  where
    go : (b : Bool) → cond b (Some (length (upto dot x))) None ≡ None → b ≡ false
    go true e = cc
    go false e = refl

-- the bytes before the dot
pub the_run : (x : List ℕ) → among dot x ≡ true → take (length (upto dot x)) x ≡ upto dot x
the_run x e =
    let s = run_is dot x (rw e tt) in
    let u = upto dot x in
    ap (take (length u)) s ∙ take_at u (dot ∷ behind dot x) (length u) refl

-- A component before a dot.
pub record Cut (c : Component) (x : List ℕ) (n : ℕ) : Type 0 where
  pub dotted : among dot x ≡ true
  pub right : is c (upto dot x) ≡ true
  pub place : n ≡ length (upto dot x)
  pub rest : drop (n + 1) x ≡ behind dot x
  pub sizes : length x ≡ n + length (behind dot x) + 1

pub cut_is : (c : Component) (x : List ℕ) (n : ℕ) → Some n ≡ split_by c x → Cut c x n
cut_is c x n e = go (among dot x) refl (is c (upto dot x)) refl e
  where
    go : (a : Bool) → among dot x ≡ a → (b : Bool) → is c (upto dot x) ≡ b → Some n ≡ cond (a && b) (Some (length (upto dot x))) None → Cut c x n
    go false f b g e = cc
    go true f false g e = cc
    go true f true g e =
        let k : n ≡ length (upto dot x) = cc in
        let u = upto dot x in
        let past : drop (length u + 1) (u ++ dot ∷ behind dot x) ≡ behind dot x = ap (drop (length u + 1)) (sym (append_assoc u (dot ∷ []) (behind dot x))) ∙ drop_at (u ++ dot ∷ []) (behind dot x) (length u + 1) (length-append u (dot ∷ [])) in
        record {
          dotted = f;
          right = g;
          place = k;
          rest = ap (λ m. drop (m + 1) x) k ∙ ap (drop (length u + 1)) (run_is dot x (rw f tt)) ∙ past;
          sizes = omega (arith, k, dotted_length x f);
        }

pub not_cut : (c : Component) (x : List ℕ) → None ≡ split_by c x → (among dot x && is c (upto dot x)) ≡ false
not_cut c x e = go (among dot x && is c (upto dot x)) e
  where
    go : (b : Bool) → None ≡ cond b (Some (length (upto dot x))) None → b ≡ false
    go true e = cc
    go false e = refl

-- The total.
counted : (t : Option ℕ) (p r : List ℕ) (ps : List (List ℕ)) (n : ℕ) → n ≡ length p + length r → counts t n ≡ totals t (p ∷ r ∷ ps)
counted None p r ps n e = refl
counted (Some m) p r ps n e = rw e

-- Two components, and three.
module _ (t : Option ℕ) (a b : Component) (x : List ℕ) where
  pub first_wrong : (cs : List Component) → None ≡ split_by a x → false ≡ is_divided t (a ∷ b ∷ cs) x
  first_wrong cs e = rw (not_cut a x e)

  module _ (n : ℕ) (k : Cut a x n) where
    pub last_wrong : is b (behind dot x) ≡ false → false ≡ is_divided t (a ∷ b ∷ []) x
    last_wrong e = rw (k.dotted, k.right, e)

    pub pair_right : is b (behind dot x) ≡ true → (m : ℕ) → m ≡ length x - 1 → counts t m ≡ is_divided t (a ∷ b ∷ []) x
    pair_right e m s = rw (k.dotted, k.right, e) (counted t (upto dot x) (behind dot x) [] m (omega (arith, s, k.sizes, k.place)))

    module _ (c : Component) where
      pub second_wrong : None ≡ split_by b (behind dot x) → false ≡ is_divided t (a ∷ b ∷ c ∷ []) x
      second_wrong e = rw (k.dotted, k.right, not_cut b (behind dot x) e)

      module _ (m : ℕ) (j : Cut b (behind dot x) m) where
        pub third_wrong : is c (behind dot (behind dot x)) ≡ false → false ≡ is_divided t (a ∷ b ∷ c ∷ []) x
        third_wrong e = rw (k.dotted, k.right, j.dotted, j.right, e)

        pub triple_right : is c (behind dot (behind dot x)) ≡ true → counts t (n + m) ≡ is_divided t (a ∷ b ∷ c ∷ []) x
        triple_right e =
            rw (k.dotted, k.right, j.dotted, j.right, e) (counted t (upto dot x) (upto dot (behind dot x)) (behind dot (behind dot x) ∷ []) (n + m) (omega (arith, k.place, j.place)))

-- A family's components.
kept_holds : {X : Type 0} (test : X → Bool) (o : Option X) → holds test o ≡ holds (λ _. true) (kept test o)
kept_holds test None = refl
kept_holds test (Some x) = go (test x)
  where
    go : (b : Bool) → b ≡ holds (λ _. true) (cond b (Some x) None)
    go true = refl
    go false = refl

pub body_divided : (f : Family) (t : Option ℕ) (cs : List Component) (x : List ℕ) → cs ≡ (about f).components → t ≡ (about f).total → is_divided t cs x ≡ is_body f x
body_divided f t cs x e k = rw (e, k) (kept_holds (totals (about f).total) (divided_by (about f).components x))
