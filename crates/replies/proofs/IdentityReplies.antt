-- What is written for a tag text or an identity text: the other text in a part of the output, and then the letter before it.
use Prim.Native.Nat.{ℕ, ◌+◌, ◌≤◌, ◌<◌}
use Prim.Native.Char.{code}
use mathlib.Core.Path.{◌≡◌, refl}
use mathlib.Core.List.{List, ◌∷◌}
use native.Mathlib.Omega.{arith}
use lib.ListN.{length}
use borrow.Rule.Slice.PartMut.{mid_len}
use Rattle.rules.specs.Conditions.{Rule, text_rules}
use Rattle.rules.specs.Grammar.{TagText, text_of}
use Rattle.rules.specs.TextNumbers.{tag_of_text}
use Rattle.rules.specs.Calls.{text_room}
use Rattle.rules.proofs.TextReads.{tag_reads}
use Rattle.rules.proofs.Lengths.{text_length}
use Rattle.identities.specs.Grammar.{Identity, start, identity_text}
use Rattle.identities.specs.OfTags.{identity_of}
use Rattle.identities.specs.Numbers.{tag_of_identity}
use Rattle.identities.specs.Conditions.{identity_rules}
use Rattle.identities.specs.Promises.{Given}
use Rattle.identities.specs.Calls.{tag_to_identity, identity_to_tag}
use Rattle.identities.proofs.IdentityReads.{identity_reads}
use Rattle.identities.proofs.Lengths.{identity_length}
use Rattle.rules.specs.Answers.{Answer, refused, taken, ◌>>=◌}
use Rattle.rules.specs.Calls.{call, lent}
use Rattle.rules.proofs.Answers.{Reads}
use Rattle.std.specs.Prelude.{Ok, Err}
use Rattle.scheme.specs.Refusals.{number}
use Rattle.codec.specs.Answers.{Answer as CodecAnswer, answered, length_of}
use Rattle.codec.proofs.OneAnswer.{text_full}
use Rattle.replies.specs.Replies.{space, reply_n}
use Rattle.replies.specs.Identities.{of_tag, of_identity, with_letter}
use Rattle.replies.specs.Writing.{Wrote, reply_room}
use Rattle.replies.proofs.Answered.{shows, refuses}
use Rattle.replies.proofs.Pieces.{part, back, put_back, put_nothing, wrote_before}

identity_full : (ι : Identity) → 0 < length (identity_text ι)
unfolding identity_text start
identity_full ι = omega arith

-- A text is written for what is read, behind the place of its letter; the reply is the letter and the text, or the number.
module _ {X : Type 0} (rs : List Rule) (Right : X → Type 0) (a : Answer X) (reads : Reads rs Right a) (text : X → List ℕ) (full : (x : X) → Right x → 0 < length (text x))
    (few : (x : X) → Right x → length (text x) ≤ 116) (letter : ℕ) (reply : Answer X → List ℕ) (good : (x : X) → reply (taken x) ≡ letter ∷ space ∷ text x)
    (bad : (n p : ℕ) → reply (refused n p) ≡ reply_n n) (l e : List ℕ) (long : reply_room ≤ length l) where
  room : text_room ≤ length (part l 2)
  room = omega (arith, mid_len 2 (length l) l (omega arith))

  pub replied : (r : CodecAnswer) → answered r e ≡ call (part l 2) (lent text_room (part l 2) (a >>= λ x. taken (0, text x)))
      → (2 + length_of r ≤ length l) × ((k : ℕ) (out' : List ℕ) → Wrote (with_letter letter r (back l 2 e)) (back l 2 e) k out' → Wrote (reply a) l k out')
  replied (Ok v) h =
      let (x, k, r, (c, o)) = shows rs Right a reads 0 text full (part l 2) e v.length room v.words h in
      let short : length (text x) ≤ 116 = few x r in (
        omega (arith, c),
        λ m out' w.
            rw (k, good x) (wrote_before l (back l 2 e) (text x) out' letter v.length m (omega arith) (put_back l e 2 (text x) (omega arith) o) c w),
      )
  replied (Err r) h =
      let n = number r.rule in
      let p = r.place in
      let (k, o) = refuses rs Right a reads 0 text full (part l 2) e n room p h in
      (omega arith, λ m out' w. rw (k, bad n p) (rw (put_nothing l e 2 o) at w))

module _ (l e t : List ℕ) (long : reply_room ≤ length l) where
  pub identity_shown : (r : CodecAnswer) → answered r e ≡ tag_to_identity t (part l 2)
      → (2 + length_of r ≤ length l) × ((k : ℕ) (out' : List ℕ) → Wrote (with_letter (code "I") r (back l 2 e)) (back l 2 e) k out' → Wrote (of_tag (tag_of_text t)) l k out')
  unfolding tag_to_identity
  identity_shown = replied (text_rules t) (TagText t) (tag_of_text t) (tag_reads t) (λ τ. identity_text (identity_of τ)) (λ τ _. identity_full (identity_of τ)) (λ τ r. let few = identity_length t τ r in omega arith)
      (code "I") of_tag (λ τ. refl) (λ n p. refl) l e long

  pub tag_shown : (f : ℕ) (r : CodecAnswer) → answered r e ≡ identity_to_tag f t (part l 2)
      → (2 + length_of r ≤ length l) × ((k : ℕ) (out' : List ℕ) → Wrote (with_letter (code "T") r (back l 2 e)) (back l 2 e) k out' → Wrote (of_identity (tag_of_identity f t)) l k out')
  unfolding identity_to_tag
  tag_shown f = replied (identity_rules f t) (Given f t) (tag_of_identity f t) (identity_reads f t) text_of (λ τ _. text_full τ)
      (λ τ g. text_length (text_of τ) τ (record { fits = g.holds.fits; text = refl })) (code "T") of_identity (λ τ. refl) (λ n p. refl) l e long
