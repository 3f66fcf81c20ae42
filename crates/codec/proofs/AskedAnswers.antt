-- What text to bank answers where a W is asked for: 21 before the text is looked at, then what the text says, then 22.
use Prim.Native.Nat.{ℕ, ◌≤◌, ◌<◌}
use mathlib.Core.Path.{◌≡◌, refl, ap, ◌∙◌}
use mathlib.Core.List.{List}
use native.Mathlib.Omega.{arith}
use borrow.Author.Tests.{ne_eqb, le-leb, lt-leb}
use Rattle.rules.specs.Answers.{Answer, refused, taken, ◌>>=◌}
use Rattle.rules.specs.declared.Scheme.{Scheme}
use Rattle.rules.specs.Schemes.{words}
use Rattle.rules.specs.Grammar.{Tag}
use Rattle.rules.specs.Coding.{bank_of, most_words, EnoughWords}
use Rattle.rules.specs.TextNumbers.{tag_of_text}
use Rattle.rules.specs.Calls.{Output, words_to_write, bank_of_text}
use Rattle.rules.specs.Promises.{Asks}
use Rattle.rules.specs.Conditions.{TooFew}
use Rattle.rules.proofs.Answers.{Settled}
use Rattle.rules.proofs.AskedWords.{words_settled, asked_enough}
use Rattle.scheme.specs.declared.refusal.Refusal.{Refusal}
use Rattle.scheme.specs.declared.record.Record.{Record}
use Rattle.scheme.specs.Records.{record_of, RecordIs}
use Rattle.scheme.specs.Refusals.{number, rule_of, by, refusal, in_code}
use Rattle.std.specs.Prelude.{Ok, Err}

-- the W to write, by the tests of the W asked for
module _ (W : ℕ) (s : Scheme) where
  pub smallest : W ≡ 0 → in_code (words_to_write W s) ≡ Ok (words s)
  smallest e = rw e

  pub too_small : ¬ (W ≡ 0) → W < words s → in_code (words_to_write W s) ≡ refusal 22 0
  too_small z l = rw (ne_eqb W 0 z, lt-leb (words s) W l)

  pub itself : ¬ (W ≡ 0) → words s ≤ W → in_code (words_to_write W s) ≡ Ok W
  itself z l = rw (ne_eqb W 0 z, le-leb (words s) W l)

-- a tag's record has its scheme
pub scheme_is : (r : Record) (τ : Tag) → RecordIs r τ → r.scheme ≡ τ.scheme
unfolding record_of
scheme_is r τ h = ap (λ (q : Record). q.scheme) h.same

module _ (W : ℕ) (t : List ℕ) where
  pub too_many : most_words < W → bank_of_text W t ≡ refused 21 0
  unfolding bank_of_text
  too_many h = rw (lt-leb W most_words h)

  module _ (most : W ≤ most_words) where
    pub text_refused : (n p : ℕ) → tag_of_text t ≡ refused n p → bank_of_text W t ≡ refused n p
    unfolding bank_of_text
    text_refused n p e = rw (le-leb W most_words most, e)

    -- the text is a tag's, and r is what is asked for in code
    module _ (τ : Tag) (e : tag_of_text t ≡ taken τ) where
      abbrev s : Scheme
      s = τ.scheme

      after_text : bank_of_text W t ≡ (words_to_write W s >>= λ n. taken (n, bank_of n τ))
      unfolding bank_of_text
      after_text = rw (le-leb W most_words most, e)

      pub too_few : (r : Refusal) → Err r ≡ in_code (words_to_write W s) → bank_of_text W t ≡ refused (number r.rule) r.place
      too_few r q = after_text ∙ go (words_to_write W s) (words_settled W s) q
        where
          go : (a : Answer ℕ) → Settled 22 (TooFew W s) (◌≡ 0) (λ n. Asks W s n × (words s ≤ n)) a → Err r ≡ in_code a
              → ◌>>=◌ {Y = Output} a (λ n. taken (n, bank_of n τ)) ≡ refused (number r.rule) r.place
          go (refused n p) h f = let x : r ≡ by (rule_of n) p = cc in rw (x, h.0, h.1)
          go (taken n) h f = let z : ◌≡◌ {A = ℕ} 0 1 = cc in absurd (omega arith)

      pub enough_words : (v : ℕ) → Ok v ≡ in_code (words_to_write W s) → EnoughWords v s × (bank_of_text W t ≡ taken (v, bank_of v τ))
      enough_words v q = let (x, y) = go (words_to_write W s) (words_settled W s) q in (x, after_text ∙ y)
        where
          go : (a : Answer ℕ) → Settled 22 (TooFew W s) (◌≡ 0) (λ n. Asks W s n × (words s ≤ n)) a → Ok v ≡ in_code a
              → EnoughWords v s × (◌>>=◌ {Y = Output} a (λ n. taken (n, bank_of n τ)) ≡ taken (v, bank_of v τ))
          go (refused n p) h f = let z : ◌≡◌ {A = ℕ} 0 1 = cc in absurd (omega arith)
          go (taken n) h f = let x : v ≡ n = cc in rw x (asked_enough W s n most h.1.0 h.1.1, refl)
