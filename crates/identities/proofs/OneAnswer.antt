-- For each call one answer keeps the promise: no second number, place, W, length or output does.
use Prim.Native.Nat.{ℕ}
use mathlib.Core.Path.{◌≡◌, refl, sym, ◌∙◌, ap}
use mathlib.Core.Logic.{◌↔◌}
use mathlib.Core.List.{List, ◌∷◌}
use native.Mathlib.Omega.{arith}
use lib.ListN.{length}
use Rattle.rules.specs.Grammar.{Tag, TagText, text_of}
use Rattle.rules.specs.TextNumbers.{tag_of_text}
use Rattle.rules.specs.Conditions.{text_rules}
use Rattle.rules.specs.Calls.{Call, text_room}
use Rattle.rules.specs.Promises.{Short}
use Rattle.rules.proofs.Answers.{Reads, reads_map}
use Rattle.rules.proofs.TextReads.{tag_reads}
use Rattle.rules.proofs.OnePlace.{one_place_of_text}
use Rattle.rules.proofs.Exact.{one_division}
use Rattle.rules.proofs.Lengths.{text_length}
use Rattle.rules.proofs.OneAnswer.{Fitting, One, the_answer, lent_places, lent_reads, same_length}
use Rattle.identities.specs.Grammar.{identity_text}
use Rattle.identities.specs.OfTags.{identity_of}
use Rattle.identities.specs.Numbers.{tag_of_identity}
use Rattle.identities.specs.Calls.{identity_answer, tag_answer, tag_to_identity, identity_to_tag}
use Rattle.identities.specs.Conditions.{identity_rules}
use Rattle.identities.specs.Promises.{TagToIdentity, Given, IdentityToTag}
use Rattle.identities.proofs.Choices.{one_given}
use Rattle.identities.proofs.IdentityReads.{identity_reads, one_place_of_identity}
use Rattle.identities.proofs.Lengths.{identity_length}

abbrev IdentityIs : List ℕ → ℕ → List ℕ → Type 0
IdentityIs t W w = (W ≡ 0) × (τ : Tag) × TagText t τ × (w ≡ identity_text (identity_of τ))

one_identity_text : (t : List ℕ) → One (IdentityIs t)
one_identity_text t m n v w (a, τ, r, x) (b, τ', r', y) = (a ∙ sym b, x ∙ ap (λ σ. identity_text (identity_of σ)) (one_division t τ τ' r r') ∙ sym y)

abbrev TagIs : ℕ → List ℕ → ℕ → List ℕ → Type 0
TagIs f t W w = (W ≡ 0) × (τ : Tag) × TagText w τ × Given f t τ

one_tag_text : (f : ℕ) (t : List ℕ) → One (TagIs f t)
one_tag_text f t m n v w (a, τ, r, g) (b, τ', r', g') = (a ∙ sym b, r.text ∙ one_given f t τ τ' g g' ∙ sym r'.text)

module _ (t out : List ℕ) where
  identity_written : Reads (Short text_room out ∷ text_rules t) (Fitting (IdentityIs t) out) (identity_answer t out)
  identity_written =
      lent_reads text_room (text_rules t) (IdentityIs t) out _ λ l.
      reads_map (text_rules t) (TagText t) (Fitting (IdentityIs t) out) (λ τ. (0, identity_text (identity_of τ))) (tag_of_text t) (tag_reads t) λ τ r.
      ((refl, τ, r, refl), omega (arith, identity_length t τ r))

  pub one_answer_of_tag_to_identity : (c : Call) → TagToIdentity t out c ↔ (c ≡ tag_to_identity t out)
  unfolding tag_to_identity
  one_answer_of_tag_to_identity =
      the_answer (Short text_room out ∷ text_rules t) (lent_places text_room (text_rules t) out (one_place_of_text t)) (IdentityIs t) out (identity_answer t out) (one_identity_text t) identity_written

module _ (f : ℕ) (t out : List ℕ) where
  tag_written : Reads (Short text_room out ∷ identity_rules f t) (Fitting (TagIs f t) out) (tag_answer f t out)
  tag_written =
      lent_reads text_room (identity_rules f t) (TagIs f t) out _ λ l.
      reads_map (identity_rules f t) (Given f t) (Fitting (TagIs f t) out) (λ τ. (0, text_of τ)) (tag_of_identity f t) (identity_reads f t) λ τ g.
      let r : TagText (text_of τ) τ = record { fits = g.holds.fits; text = refl } in
      ((refl, τ, r, g), omega (arith, text_length (text_of τ) τ r))

  pub one_answer_of_identity_to_tag : (c : Call) → IdentityToTag f t out c ↔ (c ≡ identity_to_tag f t out)
  unfolding identity_to_tag
  one_answer_of_identity_to_tag =
      the_answer (Short text_room out ∷ identity_rules f t) (lent_places text_room (identity_rules f t) out (one_place_of_identity f t)) (TagIs f t) out (tag_answer f t out) (one_tag_text f t) tag_written

-- a call leaves the output as long as it was
pub same_lengths : (f : ℕ) (t out : List ℕ) → (length (tag_to_identity t out).output ≡ length out) × (length (identity_to_tag f t out).output ≡ length out)
unfolding tag_to_identity identity_to_tag
same_lengths f t out = (
  same_length (Short text_room out ∷ text_rules t) (IdentityIs t) out (identity_answer t out) (identity_written t out),
  same_length (Short text_room out ∷ identity_rules f t) (TagIs f t) out (tag_answer f t out) (tag_written f t out),
)
