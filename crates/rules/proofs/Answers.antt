-- What an answer says: which rule refused, or that what is taken is right and no rule applies.
use Prim.Native.Nat.{ℕ, ◌<◌}
use mathlib.Core.Path.{◌≡◌, refl, sym, ◌∙◌}
use mathlib.Core.Logic.Iff
use mathlib.Core.Logic.{inl, inr, ◌↔◌}
use mathlib.Core.List.{List, [], ◌∷◌, ◌++◌}
use Rattle.std.specs.Prelude.{Option, None, Some}
use mathlib.Core.Bool.{Bool, true, false, not}
use native.Mathlib.Omega.{arith}
use lib.Dec.{T}
use Rattle.rules.specs.Answers.{Answer, refused, taken, ◌>>=◌, ◌>>◌, demand, given, number_of, place_of}
use Rattle.rules.specs.Conditions.{Rule, rule, First}

-- what a reader gives, if anything
abbrev pub Gives : {X : Type 0} → (X → Type 0) → Option X → Type 0
Gives Right None = Unit
Gives Right (Some x) = Right x

-- a reader gives nothing exactly where P holds
abbrev pub Decides : {X : Type 0} → Type 0 → (X → Type 0) → Option X → Type 0
Decides P Right None = P
Decides P Right (Some x) = (¬ P) × Right x

-- a reader that gives what is right, and gives something where W holds, decides W
pub decided : {X : Type 0} (W : Type 0) (R : X → Type 0) (o : Option X) → Gives R o → ((x : X) → R x → W) → (W → (x : X) × (o ≡ Some x)) → Decides (¬ W) R o
decided W R None g f k = λ w. let z : ◌≡◌ {A = ℕ} 0 1 = cc (k w).1 in omega arith
decided W R (Some x) g f k = (λ not-W. not-W (f x g), g)

-- an answer is the refusal n, at such a place, exactly where P holds
abbrev pub Settled : {X : Type 0} → ℕ → Type 0 → (ℕ → Type 0) → (X → Type 0) → Answer X → Type 0
Settled n P Place Right (refused m p) = (m ≡ n) × Place p × P
Settled n P Place Right (taken x) = (¬ P) × Right x

-- none of the rules applies
abbrev pub NoneApplies : List Rule → Type 0
NoneApplies [] = Unit
NoneApplies (r ∷ rs) = (¬ r.applies) × NoneApplies rs

-- an answer is the first of the rules that applies; where none does, what is taken is right
abbrev pub Reads : {X : Type 0} → List Rule → (X → Type 0) → Answer X → Type 0
Reads rs Right (refused n p) = First rs n p × (0 < n)
Reads rs Right (taken x) = NoneApplies rs × Right x

pub settled_given : {X : Type 0} (n p : ℕ) (P : Type 0) (Right : X → Type 0) (o : Option X) → Decides P Right o → Settled n P (◌≡ p) Right (given o n p)
settled_given n p P Right None h = (refl, refl, h)
settled_given n p P Right (Some x) h = h

pub settled_at : (n p : ℕ) (P : Type 0) (Place : ℕ → Type 0) (b : Bool) → (T (not b) → P × Place p) → (T b → ¬ P) → Settled n P Place (λ _. T b) (demand b n p)
settled_at n p P Place true h k = (k tt, tt)
settled_at n p P Place false h k = (refl, (h tt).1, (h tt).0)

pub settled_demand : (n p : ℕ) (P : Type 0) (b : Bool) → (T (not b) → P) → (T b → ¬ P) → Settled n P (◌≡ p) (λ _. T b) (demand b n p)
settled_demand n p P b h k = settled_at n p P (◌≡ p) b (λ t. (h t, refl)) k

pub settled_where : {X : Type 0} (n p : ℕ) (P : Type 0) (Place : ℕ → Type 0) (Right : X → Type 0) (a : Answer X) → Place p → Settled n P (◌≡ p) Right a → Settled n P Place Right a
settled_where n p P Place Right (refused m q) k h = (h.0, rw h.1 k, h.2)
settled_where n p P Place Right (taken x) k h = h

pub settled_as : {X : Type 0} (n : ℕ) (P Q : Type 0) (Place : ℕ → Type 0) (Right : X → Type 0) (a : Answer X) → P ↔ Q → Settled n P Place Right a → Settled n Q Place Right a
settled_as n P Q Place Right (refused m p) e h = (h.0, h.1, e.0 h.2)
settled_as n P Q Place Right (taken x) e h = (λ q. h.0 (e.1 q), h.1)

-- One reader after the other, each settled by a rule.
module _ {Y : Type 0} (rs : List Rule) (Right : Y → Type 0) where
  pass : (n : ℕ) (P : Type 0) (Place : ℕ → Type 0) (a : Answer Y) → ¬ P → Reads rs Right a → Reads (rule n P Place ∷ rs) Right a
  pass n P Place (refused m p) not-P h = (inr (not-P, h.0), h.1)
  pass n P Place (taken y) not-P h = ((not-P, h.0), h.1)

  pub step : {X : Type 0} (n : ℕ) (P : Type 0) (Place : ℕ → Type 0) (R : X → Type 0) (a : Answer X) (go : X → Answer Y) → 0 < n → Settled n P Place R a
      → ((x : X) → R x → Reads rs Right (go x)) → Reads (rule n P Place ∷ rs) Right (a >>= go)
  step n P Place R (refused m p) go z h f = (inl (h.2, h.0, h.1), rw h.0 z)
  step n P Place R (taken x) go z h f = pass n P Place (go x) h.0 (f x h.1)

  pub check : (n : ℕ) (P : Type 0) (Place : ℕ → Type 0) (R : Type 0) (a : Answer Unit) (b : Answer Y) → 0 < n → Settled n P Place (λ _. R) a → (R → Reads rs Right b)
      → Reads (rule n P Place ∷ rs) Right (a >> b)
  check n P Place R (refused m p) b z h f = (inl (h.2, h.0, h.1), rw h.0 z)
  check n P Place R (taken x) b z h f = pass n P Place b h.0 (f h.1)

pub reads_weaken : {X : Type 0} (rs : List Rule) (R Right : X → Type 0) (a : Answer X) → Reads rs R a → ((x : X) → R x → Right x) → Reads rs Right a
reads_weaken rs R Right (refused n p) h k = h
reads_weaken rs R Right (taken x) h k = (h.0, k x h.1)

-- what is made of what is taken
pub reads_map : {X Y : Type 0} (rs : List Rule) (R : X → Type 0) (Right : Y → Type 0) (f : X → Y) (a : Answer X) → Reads rs R a → ((x : X) → R x → Right (f x))
    → Reads rs Right (a >>= λ x. taken (f x))
reads_map rs R Right f (refused n p) h k = h
reads_map rs R Right f (taken x) h k = (h.0, k x h.1)

-- several rules settle the first reader
first_left : (rs qs : List Rule) (n p : ℕ) → 0 < n → First rs n p → First (rs ++ qs) n p
first_left [] qs n p z h = absurd (omega (arith, h.0))
first_left (r ∷ rs) qs n p z (inl h) = inl h
first_left (r ∷ rs) qs n p z (inr h) = inr (h.0, first_left rs qs n p z h.1)

first_right : (rs qs : List Rule) (n p : ℕ) → NoneApplies rs → First qs n p → First (rs ++ qs) n p
first_right [] qs n p h k = k
first_right (r ∷ rs) qs n p h k = inr (h.0, first_right rs qs n p h.1 k)

none_both : (rs qs : List Rule) → NoneApplies rs → NoneApplies qs → NoneApplies (rs ++ qs)
none_both [] qs h k = k
none_both (r ∷ rs) qs h k = (h.0, none_both rs qs h.1 k)

pub reads_bind : {X Y : Type 0} (rs qs : List Rule) (R : X → Type 0) (Right : Y → Type 0) (a : Answer X) (go : X → Answer Y) → Reads rs R a
    → ((x : X) → R x → Reads qs Right (go x)) → Reads (rs ++ qs) Right (a >>= go)
reads_bind rs qs R Right (refused n p) go h f = (first_left rs qs n p h.1 h.0, h.1)
reads_bind rs qs R Right (taken x) go h f = after (go x) (f x h.1)
  where
    after : (a : Answer _) → Reads qs Right a → Reads (rs ++ qs) Right a
    after (refused n p) k = (first_right rs qs n p h.0 k.0, k.1)
    after (taken y) k = (none_both rs qs h.0 k.0, k.1)

-- The same rules in other words, with rules between them that never apply.
pub data Covers : List Rule → List Rule → Type 1 where
  done : Covers [] []
  same : {r q : Rule} {rs qs : List Rule} → r.number ≡ q.number → r.applies ↔ q.applies → ((p : ℕ) → r.place p → q.place p) → Covers rs qs → Covers (r ∷ rs) (q ∷ qs)
  extra : {q : Rule} {rs qs : List Rule} → ¬ q.applies → Covers rs qs → Covers rs (q ∷ qs)

-- a rule whose place stays: in other words, and in the same
pub alike : {n : ℕ} {P Q : Type 0} {Place : ℕ → Type 0} {rs qs : List Rule} → P ↔ Q → Covers rs qs → Covers (rule n P Place ∷ rs) (rule n Q Place ∷ qs)
alike e c = same refl e (λ p h. h) c

pub stays : {n : ℕ} {P : Type 0} {Place : ℕ → Type 0} {rs qs : List Rule} → Covers rs qs → Covers (rule n P Place ∷ rs) (rule n P Place ∷ qs)
stays c = alike Iff.rfl c

first_covers : {rs qs : List Rule} → Covers rs qs → (n p : ℕ) → First rs n p → First qs n p
first_covers done n p k = k
first_covers (same e i f c) n p (inl k) = inl (i.0 k.0, k.1 ∙ e, f p k.2)
first_covers (same e i f c) n p (inr k) = inr (λ q. k.0 (i.1 q), first_covers c n p k.1)
first_covers (extra x c) n p k = inr (x, first_covers c n p k)

none_covers : {rs qs : List Rule} → Covers rs qs → NoneApplies rs → NoneApplies qs
none_covers done k = k
none_covers (same e i f c) k = (λ q. k.0 (i.1 q), none_covers c k.1)
none_covers (extra x c) k = (x, none_covers c k)

pub reads_covers : {X : Type 0} {rs qs : List Rule} (R : X → Type 0) (a : Answer X) → Covers rs qs → Reads rs R a → Reads qs R a
reads_covers R (refused n p) c k = (first_covers c n p k.0, k.1)
reads_covers R (taken x) c k = (none_covers c k.0, k.1)

-- Each rule has one place; then of any list of rules one number and one place are the first.
abbrev pub OnePlace : List Rule → Type 0
OnePlace [] = Unit
OnePlace (r ∷ rs) = ((p q : ℕ) → r.place p → r.place q → p ≡ q) × OnePlace rs

pub one_first : (rs : List Rule) → OnePlace rs → (n p m q : ℕ) → First rs n p → First rs m q → (n ≡ m) × (p ≡ q)
one_first [] o n p m q h k = (h.0 ∙ sym k.0, h.1 ∙ sym k.1)
one_first (r ∷ rs) o n p m q (inl h) (inl k) = (h.1 ∙ sym k.1, o.0 p q h.2 k.2)
one_first (r ∷ rs) o n p m q (inl h) (inr k) = absurd (k.0 h.0)
one_first (r ∷ rs) o n p m q (inr h) (inl k) = absurd (h.0 k.0)
one_first (r ∷ rs) o n p m q (inr h) (inr k) = one_first rs o.1 n p m q h.1 k.1

none_first : (rs : List Rule) → NoneApplies rs → First rs 0 0
none_first [] h = (refl, refl)
none_first (r ∷ rs) h = inr (h.0, none_first rs h.1)

module _ {X : Type 0} (rs : List Rule) (Right : X → Type 0) where
  pub first_of : (a : Answer X) → Reads rs Right a → First rs (number_of a) (place_of a)
  first_of (refused n p) h = h.0
  first_of (taken x) h = none_first rs h.0

  pub right_of : (a : Answer X) → Reads rs Right a → number_of a ≡ 0 → (x : X) × (a ≡ taken x) × Right x
  right_of (refused n p) h e = absurd (omega arith)
  right_of (taken x) h e = (x, refl, h.1)
