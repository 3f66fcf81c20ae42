-- No second answer keeps a call's contract. Number, place, W and length tell the answers apart, because what is accepted is never empty.
use Prim.Native.Nat.{ℕ, ◌<◌}
use mathlib.Core.Path.{◌≡◌, refl, sym, ap, ◌∙◌}
use mathlib.Core.List.{List}
use native.Mathlib.Omega.{arith}
use lib.ListN.{length}
use Rattle.numeral.specs.Numeral.{Digits}
use Rattle.numeral.proofs.Spreads.{length_gather}
use Rattle.rules.specs.Grammar.{Tag, start, text_of}
use Rattle.rules.specs.Coding.{bank_of}
use Rattle.rules.specs.Raw.{raw_text}
use Rattle.rules.specs.Calls.{Call, text_to_bank, bank_to_text, raw_line}
use Rattle.rules.proofs.OneAnswer as rules
use Rattle.std.specs.Prelude.{Ok, Err}
use Rattle.scheme.specs.declared.refusal.Refusal.{Refusal}
use Rattle.scheme.specs.Refusals.{number, by, rule_of}
use Rattle.scheme.proofs.Numbers.{rule_of_number}
use Rattle.codec.specs.Answers.{Answer, answered}
use Rattle.codec.specs.declared.Written.{Written}

pub text_full : (τ : Tag) → 0 < length (text_of τ)
unfolding text_of start
text_full τ = omega arith

pub bank_full : (W : ℕ) (τ : Tag) → 0 < length (bank_of W τ)
unfolding bank_of
bank_full W τ = rw length_gather (omega arith)

raw_full : (b : List ℕ) → 0 < length (raw_text b)
unfolding raw_text
raw_full b = omega arith

-- a call that accepts has written something
abbrev pub Full : Call → Type 0
Full c = c.number ≡ 0 → 0 < c.written

pub written_full : (W : ℕ) (t out : List ℕ) → Full (text_to_bank W t out)
written_full W t out e =
    let (w, r, n, _) = ((rules.one_answer_of_text_to_bank W t out (text_to_bank W t out)).1 refl).accepted e in
    rw (n, r.3) (bank_full (text_to_bank W t out).words r.0)

pub shown_full : (b out : List ℕ) → Digits 256 b → Full (bank_to_text b out)
shown_full b out d e =
    let (w, r, n, _) = ((rules.one_answer_of_bank_to_text b out d (bank_to_text b out)).1 refl).accepted e in
    rw (n, r.2) (text_full r.0)

pub raw_line_full : (b out : List ℕ) → Full (raw_line b out)
raw_line_full b out e =
    let (w, r, n, _) = ((rules.one_answer_of_raw_line b out (raw_line b out)).1 refl).accepted e in
    rw (n, r.1) (raw_full b)

module _ (c : Call) (full : Full c) where
  told_apart : (w : Written) (e : Refusal) (o p : List ℕ) → answered (Ok w) o ≡ c → ¬ (answered (Err e) p ≡ c)
  told_apart w e o p f g = omega (arith, full (sym (ap (λ x. x.number) f)), ap (λ x. x.written) g)

  pub one_answer : (r s : Answer) (o p : List ℕ) → answered r o ≡ c → answered s p ≡ c → (r ≡ s) × (o ≡ p)
  one_answer (Ok w) (Ok v) o p e f = (ap (λ x. Ok (record { length = x.written; words = x.words })) (e ∙ sym f), ap (λ x. x.output) (e ∙ sym f))
  one_answer (Err d) (Err g) o p e f =
      let same : ◌≡◌ {A = Answer} (Err (by (rule_of (number d.rule)) d.place)) (Err (by (rule_of (number g.rule)) g.place)) = ap (λ x. Err (by (rule_of x.number) x.place)) (e ∙ sym f) in
      (rw (rule_of_number d.rule, rule_of_number g.rule) at same, ap (λ x. x.output) (e ∙ sym f))
  one_answer (Ok w) (Err d) o p e f = absurd (told_apart w d o p e f)
  one_answer (Err d) (Ok w) o p e f = absurd (told_apart w d p o f e)

module _ (r s : Answer) (o p : List ℕ) where
  pub one_answer_of_text_to_bank : (W : ℕ) (t out : List ℕ) → answered r o ≡ text_to_bank W t out → answered s p ≡ text_to_bank W t out → (r ≡ s) × (o ≡ p)
  one_answer_of_text_to_bank W t out = one_answer (text_to_bank W t out) (written_full W t out) r s o p

  pub one_answer_of_bank_to_text : (b out : List ℕ) → Digits 256 b → answered r o ≡ bank_to_text b out → answered s p ≡ bank_to_text b out → (r ≡ s) × (o ≡ p)
  one_answer_of_bank_to_text b out d = one_answer (bank_to_text b out) (shown_full b out d) r s o p

  pub one_answer_of_raw_line : (b out : List ℕ) → answered r o ≡ raw_line b out → answered s p ≡ raw_line b out → (r ≡ s) × (o ≡ p)
  one_answer_of_raw_line b out = one_answer (raw_line b out) (raw_line_full b out) r s o p
