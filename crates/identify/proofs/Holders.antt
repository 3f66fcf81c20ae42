-- The scheme that holds an identity is the one that is chosen, whatever the filter.
use Prim.Native.Nat.{ℕ, ◌≤◌}
use mathlib.Core.Path.{◌≡◌, refl, sym, ap, ◌∙◌}
use mathlib.Core.Bool.{Bool, true, false, cond}
use mathlib.Core.List.{List}
use Rattle.std.specs.Prelude.{Err, Ok, Option, None, Some}
use native.Mathlib.Omega.{arith}
use Rattle.rules.specs.declared.Scheme.{Scheme}
use Rattle.rules.specs.Grammar.{Tag, TagText}
use Rattle.rules.proofs.Answers.{Gives}
use Rattle.identities.specs.declared.Family.{Family}
use Rattle.identities.specs.declared.Family.TheVariants.{Giai, Gid, Cpi}
use Rattle.identities.specs.Families.{about, family_of, short, long, most_filter}
use Rattle.identities.specs.Grammar.{joined}
use Rattle.identities.specs.OfTags.{identity_of}
use Rattle.identities.specs.Numbers.{holds, tag_text, held_by, or_else, and_then, chosen}
use Rattle.identities.proofs.Held.{held_is, held_split, held_of}
use Rattle.identities.proofs.Choices.{short_is, LongIs, long_is, chosen_formed}
use Rattle.identify.specs.declared.counted.Fault.TheVariants.{WrongText, Unheld}
use Rattle.identify.specs.Words.{is_body, held, held_in, holder, judged_as, judged}

-- another filter, the same scheme
refiltered : (f g : ℕ) (x : List ℕ) (s : Scheme) (σ : Tag) → f ≤ most_filter (family_of s) → g ≤ most_filter (family_of s) → held_by f x s ≡ Some σ → (τ : Tag) × (held_by g x s ≡ Some τ)
refiltered f g x s σ l m e =
    let h = held_is f x s σ e in
    let (_, b) = held_split f x s σ l h in
    let (τ, k) = held_of σ g h.fits (rw h.scheme m) in
    (τ, ap (λ y. held_by g y s) (sym b) ∙ ap (held_by g (joined (identity_of σ).parts)) (sym h.scheme) ∙ k)

module _ (f : ℕ) (x : List ℕ) (s : Scheme) (l : f ≤ most_filter (family_of s)) where
  pub holds_it : held x s ≡ true → (τ : Tag) × (held_by f x s ≡ Some τ)
  holds_it e = go (held_by 0 x s) refl e
    where
      go : (o : Option Tag) → held_by 0 x s ≡ o → holds (λ (_ : Tag). true) o ≡ true → (τ : Tag) × (held_by f x s ≡ Some τ)
      go None k e = cc
      go (Some σ) k e = refiltered 0 f x s σ (omega arith) l k

  pub holds_not : held x s ≡ false → held_by f x s ≡ None
  holds_not e = go (held_by f x s) refl
    where
      go : (o : Option Tag) → held_by f x s ≡ o → o ≡ None
      go None k = refl
      go (Some σ) k =
          let (τ, h) = refiltered f 0 x s σ l (omega arith) k in
          let z : ◌≡◌ {A = Bool} true false = sym (ap (holds λ (_ : Tag). true) h) ∙ e in
          cc

-- the choice, from the holder
module _ (f : ℕ) (g : Family) (x : List ℕ) (l : f ≤ most_filter g) where
  in_short : f ≤ most_filter (family_of (short g))
  in_short = rw (short_is g).0 l

  pub nobody : holder g x ≡ None → chosen f g x ≡ None
  nobody e = go (held x (short g)) refl (long g) (long_is g) e
    where
      after : (h : Scheme) → family_of h ≡ g → (b : Bool) → held x h ≡ b → cond b (Some h) None ≡ None → held_by f x h ≡ None
      after h k true q e = cc
      after h k false q e = holds_not f x h (rw k l) q

      go : (b : Bool) → held x (short g) ≡ b → (o : Option Scheme) → Gives (LongIs g) o → or_else (cond b (Some (short g)) None) (and_then o (held_in x)) ≡ None
          → or_else (held_by f x (short g)) (and_then o (held_by f x)) ≡ None
      go true q o h e = cc
      go false q None h e = rw (holds_not f x (short g) in_short q)
      go false q (Some s) h e = rw (holds_not f x (short g) in_short q) (after s h.0 (held x s) refl e)

  pub somebody : (s : Scheme) → holder g x ≡ Some s → (τ : Tag) × (chosen f g x ≡ Some τ) × TagText (tag_text f x s) τ
  somebody s e = go (held x (short g)) refl (long g) (long_is g) e
    where
      given : (h : Scheme) → family_of h ≡ g → held x h ≡ true → h ≡ s → (τ : Tag) × (held_by f x h ≡ Some τ) × TagText (tag_text f x s) τ
      given h k q e = let (τ, b) = holds_it f x h (rw k l) q in let r = held_is f x h τ b in (τ, b, record { fits = r.fits; text = ap (tag_text f x) (sym e) ∙ r.text })

      after : (h : Scheme) → family_of h ≡ g → (b : Bool) → held x h ≡ b → cond b (Some h) None ≡ Some s → (τ : Tag) × (held_by f x h ≡ Some τ) × TagText (tag_text f x s) τ
      after h k true q e = given h k q cc
      after h k false q e = cc

      go : (b : Bool) → held x (short g) ≡ b → (o : Option Scheme) → Gives (LongIs g) o → or_else (cond b (Some (short g)) None) (and_then o (held_in x)) ≡ Some s
          → (τ : Tag) × (or_else (held_by f x (short g)) (and_then o (held_by f x)) ≡ Some τ) × TagText (tag_text f x s) τ
      go true q o h e = let (τ, b, t) = given (short g) (short_is g).0 q cc in (τ, rw b, t)
      go false q None h e = cc
      go false q (Some r) h e = let (τ, b, t) = after r h.0 (held x r) refl e in (τ, rw (holds_not f x (short g) in_short q) b, t)

-- what a verdict says
pub wrong_is : (b : Bool) (o : Option Scheme) → (Err WrongText) ≡ judged_as b o → b ≡ false
wrong_is false o e = refl
wrong_is true None e = cc
wrong_is true (Some s) e = cc

pub unheld_is : (b : Bool) (o : Option Scheme) → (Err Unheld) ≡ judged_as b o → (b ≡ true) × (o ≡ None)
unheld_is false o e = cc
unheld_is true None e = (refl, refl)
unheld_is true (Some s) e = cc

pub by_is : (b : Bool) (o : Option Scheme) (s : Scheme) → Ok s ≡ judged_as b o → (b ≡ true) × (o ≡ Some s)
by_is false o s e = cc
by_is true None s e = cc
by_is true (Some r) s e = (refl, cc)

-- A family without a total has one scheme.
one_scheme : (g : Family) → (about g).total ≡ None → long g ≡ None
one_scheme Giai e = refl
one_scheme Gid e = refl
one_scheme Cpi e = refl
one_scheme _ e = cc

module _ (g : Family) (x : List ℕ) where
  pub held_alone : (about g).total ≡ None → held x (short g) ≡ true → Ok (short g) ≡ judged g x
  held_alone t h =
      let (τ, c, _) = somebody 0 g x (omega arith) (short g) (rw h refl) in
      sym (ap (λ q. judged_as q (holder g x)) (ap (holds λ (_ : List (List ℕ)). true) (chosen_formed 0 g x τ (omega arith) c).0) ∙ rw h refl)

  pub unheld_alone : (about g).total ≡ None → held x (short g) ≡ false → is_body g x ≡ true → (Err Unheld) ≡ judged g x
  unheld_alone t h b = sym (ap (λ q. judged_as q (holder g x)) b ∙ rw (h, one_scheme g t) refl)

  pub wrong_alone : is_body g x ≡ false → (Err WrongText) ≡ judged g x
  wrong_alone b = sym (ap (λ q. judged_as q (holder g x)) b)
