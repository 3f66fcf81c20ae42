-- The W asked for: 21 and 22 are given by their conditions, and what is written is the text's bank in the words that were asked for.
use Prim.Native.Nat.{ℕ, zero, suc, ◌≤◌, ◌<◌}
use mathlib.Core.Path.{◌≡◌, refl, sym, ◌∙◌}
use mathlib.Core.Logic.{inl, inr}
use mathlib.Core.List.{List, []}
use mathlib.Core.Bool.{Bool, true, false, not}
use native.Mathlib.Omega.{arith}
use lib.Dec.{T, leb, leb→le, nleb→lt, lit<}
use borrow.Author.Tests.{ne_eqb, le-leb}
use Rattle.rules.specs.Answers.{taken, ◌>>◌, demand}
use Rattle.rules.specs.declared.Scheme.{Scheme}
use Rattle.rules.specs.Schemes.{words}
use Rattle.rules.specs.Grammar.{Tag, TagText, text_of, layout, written}
use Rattle.rules.specs.Coding.{bank_of, most_words, EnoughWords}
use Rattle.rules.specs.TextNumbers.{tag_of_text}
use Rattle.rules.specs.Calls.{Output, words_to_write, bank_of_text}
use Rattle.rules.specs.Conditions.{Named, text_rules, TooFew, asked_rules}
use Rattle.rules.specs.Promises.{Asks}
use Rattle.rules.proofs.Answers.{Reads, Settled, settled_demand, settled_as, step, check, reads_bind}
use Rattle.rules.proofs.Codes.{sizes}
use Rattle.rules.proofs.TextReads.{tag_reads, tag_of, of_named}

pub words_settled : (W : ℕ) (s : Scheme) → Settled 22 (TooFew W s) (◌≡ 0) (λ n. Asks W s n × (words s ≤ n)) (words_to_write W s)
words_settled zero s = ((λ h. h.0 refl), (inl (refl, refl), omega arith))
words_settled (suc k) s = rw (ne_eqb (suc k) 0 (λ e. omega arith)) (go (leb (words s) (suc k)) (leb→le (words s) (suc k)) (nleb→lt (words s) (suc k)))
  where
    go : (t : Bool) → (T t → words s ≤ suc k) → (T (not t) → suc k < words s) → Settled 22 (TooFew (suc k) s) (◌≡ 0) (λ n. Asks (suc k) s n × (words s ≤ n)) (demand t 22 0 >> taken (suc k))
    go true h l = ((λ f. f.1 (h tt)), (inr (omega arith, refl), h tt))
    go false h l = (refl, refl, ((λ e. omega arith), λ m. omega (arith, l tt)))

-- one W is written for the W asked for
pub one_asked : (W : ℕ) (s : Scheme) (m n : ℕ) → Asks W s m → Asks W s n → m ≡ n
one_asked W s m n (inl h) (inl k) = h.1 ∙ sym k.1
one_asked W s m n (inl h) (inr k) = absurd (omega (arith, h.0, k.0))
one_asked W s m n (inr h) (inl k) = absurd (omega (arith, h.0, k.0))
one_asked W s m n (inr h) (inr k) = h.1 ∙ sym k.1

-- which is at most 31
pub asked_enough : (W : ℕ) (s : Scheme) (n : ℕ) → W ≤ most_words → Asks W s n → words s ≤ n → EnoughWords n s
asked_enough W s n most (inl h) l = (l, omega (arith, h.1, (sizes s).few_words))
asked_enough W s n most (inr h) l = (l, omega (arith, h.1))

-- the text names its scheme
text_named : (t : List ℕ) (τ : Tag) → TagText t τ → Named t τ.scheme (written (layout τ.scheme) τ.parts)
unfolding text_of
text_named t τ r = (τ.control, r.fits.control, r.text)

-- the bank of the text's tag in n words, as many as W asks for
pub record Encoded (W : ℕ) (t : List ℕ) (o : Output) : Type 0 where
  pub tag : Tag
  pub text : TagText t tag
  pub asks : Asks W tag.scheme o.0
  pub enough : EnoughWords o.0 tag.scheme
  pub bank : o.1 ≡ bank_of o.0 tag

pub bank_reads : (W : ℕ) (t : List ℕ) → Reads (asked_rules W t) (Encoded W t) (bank_of_text W t)
unfolding asked_rules bank_of_text
bank_reads W t =
    let R = Encoded W t in
    check _ R 21 (most_words < W) (◌≡ 0) (T (leb W most_words)) (demand (leb W most_words) 21 0) _ (lit< tt)
    (settled_demand 21 0 (most_words < W) (leb W most_words) (nleb→lt W most_words) (λ h l. omega (arith, leb→le W most_words h))) λ most.
    reads_bind (text_rules t) _ (TagText t) R (tag_of_text t) _ (tag_reads t) λ τ r.
    let s = τ.scheme in
    step [] R 22 _ (◌≡ 0) (λ n. Asks W s n × (words s ≤ n)) (words_to_write W s) _ (lit< tt)
    (settled_as 22 (TooFew W s) _ (◌≡ 0) _ (words_to_write W s) (of_named t s _ (text_named t τ r) λ s _. TooFew W s) (words_settled W s)) λ n (asks, l).
    (tt, record { tag = τ; text = r; asks = asks; enough = asked_enough W s n (leb→le W most_words most) asks l; bank = refl })

-- a tag's own text, and a W that can be written
pub bank_of_lem : (W n : ℕ) (t : List ℕ) (τ : Tag) → TagText t τ → Asks W τ.scheme n → EnoughWords n τ.scheme → bank_of_text W t ≡ taken (n, bank_of n τ)
unfolding bank_of_text
bank_of_lem W n t τ r (inl h) enough = rw (h.0, h.1, tag_of t τ r)
bank_of_lem W n t τ r (inr h) enough =
    rw (← h.1, le-leb n most_words enough.1, tag_of t τ r, ne_eqb n 0 (λ e. omega (arith, h.0, h.1)), le-leb (words τ.scheme) n enough.0)
