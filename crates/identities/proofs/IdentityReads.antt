-- An identity text and a filter are refused by the first rule that applies; taken, the tag is the one that is to be given.
use Prim.Native.Nat.{ℕ, ◌≤◌, ◌<◌}
use mathlib.Core.Path.{◌≡◌, refl, ◌∙◌, ap}
use mathlib.Core.Logic.{◌⊎◌, inl, inr, ⊎_elim, ◌↔◌}
use mathlib.Core.List.{List, [], ◌∷◌}
use Rattle.std.specs.Prelude.{Option, None, Some}
use native.Mathlib.Omega.{arith}
use lib.Dec.{T, leb, leb→le, nleb→lt, lit<}
use Rattle.rules.specs.Answers.{given, demand, number_of, place_of}
use Rattle.rules.specs.Grammar.{Tag}
use Rattle.rules.specs.Conditions.{rule, First}
use Rattle.rules.proofs.Answers.{Decides, Reads, settled_given, settled_demand, step, check, OnePlace}
use Rattle.rules.proofs.OnePlace.{fixed}
use Rattle.rules.proofs.FirstRule.{exactly}
use Rattle.identities.specs.declared.Family.{Family}
use Rattle.identities.specs.declared.Family.TheVariants.{Sgtin, Sscc, Sgln, Grai, Giai, Gsrn, Gsrnp, Gdti, Gid, Sgcn, Cpi}
use Rattle.identities.specs.Families.{most_filter}
use Rattle.identities.specs.Grammar.{Identity, joined, IdentityText}
use Rattle.identities.specs.Numbers.{identity_in, chosen, tag_of_identity}
use Rattle.identities.specs.Conditions.{Holds, identity_rules}
use Rattle.identities.specs.Promises.{Given}
use Rattle.identities.proofs.IdentityTexts.{identity_decides, one_identity}
use Rattle.identities.proofs.Choices.{chosen_decides}

-- 24: the filter's limit is 7, and 0 for gid.
over_limit : (f : ℕ) (g : Family) → most_filter g < f → (7 < f) ⊎ ((¬ (f ≡ 0)) × (g ≡ Gid))
over_limit f Sgtin h = inl h
over_limit f Sscc h = inl h
over_limit f Sgln h = inl h
over_limit f Grai h = inl h
over_limit f Giai h = inl h
over_limit f Gsrn h = inl h
over_limit f Gsrnp h = inl h
over_limit f Gdti h = inl h
over_limit f Gid h = inr (λ e. omega arith, refl)
over_limit f Sgcn h = inl h
over_limit f Cpi h = inl h

pub most_7 : (g : Family) → most_filter g ≤ 7
most_7 Sgtin = omega arith
most_7 Sscc = omega arith
most_7 Sgln = omega arith
most_7 Grai = omega arith
most_7 Giai = omega arith
most_7 Gsrn = omega arith
most_7 Gsrnp = omega arith
most_7 Gdti = omega arith
most_7 Gid = omega arith
most_7 Sgcn = omega arith
most_7 Cpi = omega arith

abbrev WrongFilter : ℕ → List ℕ → Type 0
WrongFilter f t = (7 < f) ⊎ ((¬ (f ≡ 0)) × (ι : Identity) × IdentityText t ι × (ι.family ≡ Gid))

module _ (f : ℕ) (t : List ℕ) (ι : Identity) (r : IdentityText t ι) where
  wrong_filter : most_filter ι.family < f → WrongFilter f t
  wrong_filter h = ⊎_elim (λ (l : 7 < f). inl l) (λ (m : (¬ (f ≡ 0)) × (ι.family ≡ Gid)). inr (m.0, ι, r, m.1)) (over_limit f ι.family h)

  right_filter : f ≤ most_filter ι.family → ¬ (WrongFilter f t)
  right_filter h (inl l) = omega (arith, most_7 ι.family)
  right_filter h (inr (n, ι', r', e)) =
      let same : most_filter ι.family ≡ 0 = ap (λ x. most_filter x.family) (one_identity t ι ι' r r') ∙ ap most_filter e in
      n (omega arith)

-- the last rule
last_reads : {X : Type 0} (n : ℕ) (P : Type 0) (R : X → Type 0) (o : Option X) → 0 < n → Decides P R o → Reads (rule n P (◌≡ 0) ∷ []) R (given o n 0)
last_reads n P R None z h = (inl (h, refl, refl), z)
last_reads n P R (Some x) z h = ((h.0, tt), h.1)

pub identity_reads : (f : ℕ) (t : List ℕ) → Reads (identity_rules f t) (Given f t) (tag_of_identity f t)
unfolding identity_rules tag_of_identity
identity_reads f t =
    step (rule 24 (WrongFilter f t) (◌≡ 0) ∷ rule 25 (¬ ((τ : Tag) × Holds t τ)) (◌≡ 0) ∷ []) (Given f t) 23 (¬ ((ι : Identity) × IdentityText t ι)) (◌≡ 0) (IdentityText t) (given (identity_in t) 23 0) _ (lit< tt)
    (settled_given 23 0 (¬ ((ι : Identity) × IdentityText t ι)) (IdentityText t) (identity_in t) (identity_decides t)) λ ι r.
    let most = most_filter ι.family in
    check (rule 25 (¬ ((τ : Tag) × Holds t τ)) (◌≡ 0) ∷ []) (Given f t) 24 (WrongFilter f t) (◌≡ 0) (T (leb f most)) (demand (leb f most) 24 0) _ (lit< tt)
    (settled_demand 24 0 (WrongFilter f t) (leb f most) (λ h. wrong_filter f t ι r (nleb→lt f most h)) (λ h. right_filter f t ι r (leb→le f most h))) λ h.
    last_reads 25 (¬ ((τ : Tag) × Holds t τ)) (Given f t) (chosen f ι.family (joined ι.parts)) (lit< tt) (chosen_decides f t ι r (leb→le f most h))

pub one_place_of_identity : (f : ℕ) (t : List ℕ) → OnePlace (identity_rules f t)
unfolding identity_rules
one_place_of_identity f t = (fixed 0, (fixed 0, (fixed 0, tt)))

-- the number given is that of the first rule that applies, 0 exactly where none does; all places are 0
pub first_rule_of_identity : (f : ℕ) (t : List ℕ) (n p : ℕ) → ((number_of (tag_of_identity f t) ≡ n) × (place_of (tag_of_identity f t) ≡ p)) ↔ First (identity_rules f t) n p
first_rule_of_identity f t n p = exactly (identity_rules f t) (Given f t) (tag_of_identity f t) (one_place_of_identity f t) (identity_reads f t) n p
