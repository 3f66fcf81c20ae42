-- No second answer keeps a call's contract: what is accepted is never empty.
use Prim.Native.Nat.{ℕ, ◌<◌}
use mathlib.Core.Path.{◌≡◌, refl}
use mathlib.Core.List.{List}
use native.Mathlib.Omega.{arith}
use lib.ListN.{length}
use Rattle.codec.specs.Answers.{Answer, answered}
use Rattle.codec.proofs.OneAnswer.{text_full, Full, one_answer}
use Rattle.identities.specs.Grammar.{Identity, start, identity_text}
use Rattle.identities.specs.Calls.{tag_to_identity, identity_to_tag}
use Rattle.identities.proofs.OneAnswer as rules

identity_full : (ι : Identity) → 0 < length (identity_text ι)
unfolding identity_text start
identity_full ι = omega arith

written_full : (t out : List ℕ) → Full (tag_to_identity t out)
written_full t out e =
    let (w, r, n, _) = ((rules.one_answer_of_tag_to_identity t out (tag_to_identity t out)).1 refl).accepted e in
    rw (n, r.3) (identity_full _)

given_full : (f : ℕ) (t out : List ℕ) → Full (identity_to_tag f t out)
given_full f t out e =
    let (w, r, n, _) = ((rules.one_answer_of_identity_to_tag f t out (identity_to_tag f t out)).1 refl).accepted e in
    rw (n, r.2.text) (text_full r.1)

module _ (r s : Answer) (o p : List ℕ) where
  pub one_answer_of_tag_to_identity : (t out : List ℕ) → answered r o ≡ tag_to_identity t out → answered s p ≡ tag_to_identity t out → (r ≡ s) × (o ≡ p)
  one_answer_of_tag_to_identity t out = one_answer (tag_to_identity t out) (written_full t out) r s o p

  pub one_answer_of_identity_to_tag : (f : ℕ) (t out : List ℕ) → answered r o ≡ identity_to_tag f t out → answered s p ≡ identity_to_tag f t out → (r ≡ s) × (o ≡ p)
  one_answer_of_identity_to_tag f t out = one_answer (identity_to_tag f t out) (given_full f t out) r s o p
