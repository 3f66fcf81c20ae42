-- The place of a tag text's refusal is an offset in it, every other place is 0, and so is W.
use Prim.Native.Nat.{ℕ, zero, suc, ◌≤◌}
use mathlib.Core.Path.{◌≡◌, refl}
use mathlib.Core.Logic.{inl, inr}
use mathlib.Core.List.{List, [], ◌∷◌}
use mathlib.Core.Bool.{Bool, true, false}
use native.Mathlib.Omega.{arith}
use lib.Dec.{leb}
use lib.ListN.{length}
use Rattle.rules.specs.Answers.{Answer, refused, taken, ◌>>=◌, ◌>>◌, demand, place_of}
use Rattle.rules.specs.Grammar.{Tag}
use Rattle.rules.specs.TextNumbers.{tag_of_text, text_place}
use Rattle.rules.specs.Conditions.{Rule, First}
use Rattle.rules.specs.Calls.{Call, call, text_room}
use Rattle.rules.specs.Promises.{Promised, Short}
use Rattle.rules.proofs.Places.{text_place_lem}
use Rattle.identities.specs.Grammar.{identity_text}
use Rattle.identities.specs.OfTags.{identity_of}
use Rattle.identities.specs.Conditions.{identity_rules}
use Rattle.identities.specs.Calls.{tag_to_identity, identity_to_tag}
use Rattle.identities.proofs.OneAnswer.{one_answer_of_tag_to_identity, one_answer_of_identity_to_tag}

pub identity_place : (t out : List ℕ) → (tag_to_identity t out).place ≤ 116
unfolding tag_to_identity text_place
identity_place t out = go (leb text_room (length out)) (tag_of_text t) (text_place_lem t)
  where
    go : (b : Bool) (a : Answer Tag) → place_of a ≤ 116 → (call out (demand b 1 0 >> (a >>= λ τ. taken (0, identity_text (identity_of τ))))).place ≤ 116
    go false a h = omega arith
    go true (refused n p) h = h
    go true (taken τ) h = omega arith

-- every rule's place is 0
abbrev AtZero : List Rule → Type 0
AtZero [] = Unit
AtZero (r ∷ rs) = ((p : ℕ) → r.place p → p ≡ 0) × AtZero rs

at_zero : (rs : List Rule) → AtZero rs → (n p : ℕ) → First rs n p → p ≡ 0
at_zero [] z n p h = h.1
at_zero (r ∷ rs) z n p (inl h) = z.0 p h.2
at_zero (r ∷ rs) z n p (inr h) = at_zero rs z.1 n p h.1

pub tag_place : (f : ℕ) (t out : List ℕ) → (identity_to_tag f t out).place ≡ 0
unfolding identity_rules
tag_place f t out = at_zero (Short 160 out ∷ identity_rules f t) (λ p e. e, (λ p e. e, (λ p e. e, (λ p e. e, tt)))) _ _ ((one_answer_of_identity_to_tag f t out (identity_to_tag f t out)).1 refl).first

-- W is 0, accepted or refused
no_words : (rs : List Rule) (Right : ℕ → List ℕ → Type 0) (out : List ℕ) (c : Call) → ((W : ℕ) (w : List ℕ) → Right W w → W ≡ 0) → Promised rs Right out c → c.words ≡ 0
no_words rs Right out c z h = go c.number refl
  where
    go : (n : ℕ) → c.number ≡ n → c.words ≡ 0
    go zero e = let (w, r, _, _) = h.accepted e in z c.words w r
    go (suc n) e = (h.refused (λ k. omega arith)).0

pub words_zero : (f : ℕ) (t out : List ℕ) → ((tag_to_identity t out).words ≡ 0) × ((identity_to_tag f t out).words ≡ 0)
words_zero f t out = (
  no_words _ _ out (tag_to_identity t out) (λ W w r. r.0) ((one_answer_of_tag_to_identity t out (tag_to_identity t out)).1 refl),
  no_words _ _ out (identity_to_tag f t out) (λ W w r. r.0) ((one_answer_of_identity_to_tag f t out (identity_to_tag f t out)).1 refl),
)
