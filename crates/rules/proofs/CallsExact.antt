-- Demand 3, said of the calls, of W and of what they write, given an output of the stated size.
use Prim.Native.Nat.{ℕ, ◌≤◌}
use mathlib.Core.Path.{◌≡◌, refl, sym, ◌∙◌, ap}
use mathlib.Core.Logic.{◌↔◌}
use mathlib.Core.List.{List}
use lib.ListN.{length}
use Rattle.numeral.specs.Numeral.{Digits}
use Rattle.rules.specs.Answers.{taken}
use Rattle.rules.specs.Grammar.{Tag, text_of}
use Rattle.rules.specs.Coding.{bank_of, within}
use Rattle.rules.specs.Calls.{call, wrote, bank_room, text_room, text_to_bank, bank_to_text}
use Rattle.rules.specs.Promises.{Asks}
use Rattle.rules.proofs.Exact.{Pair, one_text, one_bank}
use Rattle.rules.proofs.Again.{WrittenBank, written_bank, shown_text, call_of_text, call_of_bank}

-- text to bank accepts exactly the texts of the grammar, asked for a W that its scheme can have or for 0, and writes the bank of the text's tag in
-- as many words as it gives
pub takes_texts : (W : ℕ) (t out : List ℕ) → bank_room ≤ length out → ((text_to_bank W t out).number ≡ 0) ↔ WrittenBank W t (text_to_bank W t out)
takes_texts W t out l = (
  written_bank W t out,
  λ r. ap (λ c. c.number) (call_of_text W (text_to_bank W t out).words t out r.tag r.text r.asks r.enough l),
)

pub takes_words : (W n : ℕ) (t out : List ℕ) (τ : Tag) → bank_room ≤ length out → Pair t n τ → Asks W τ.scheme n → text_to_bank W t out ≡ call out (taken (n, bank_of n τ))
takes_words W n t out τ l r asks = call_of_text W n t out τ r.text asks r.enough l

-- bank to text accepts exactly the banks that a text of the grammar encodes to with a W that its scheme can have, and gives that text and that W
pub takes_banks : (b out : List ℕ) → Digits 256 b → text_room ≤ length out
    → ((bank_to_text b out).number ≡ 0) ↔ ((t : List ℕ) × (W : ℕ) × (τ : Tag) × Pair t W τ × (within b ≡ bank_of W τ) × (wrote (bank_to_text b out) ≡ t) × ((bank_to_text b out).words ≡ W))
takes_banks b out d l = (shown, λ (t, W, τ, r, e, _, _). ap (λ c. c.number) (call_of_bank b out W τ (record { fits = r.text.fits; enough = r.enough; bank = e }) l))
  where
    shown : (bank_to_text b out).number ≡ 0
        → (t : List ℕ) × (W : ℕ) × (τ : Tag) × Pair t W τ × (within b ≡ bank_of W τ) × (wrote (bank_to_text b out) ≡ t) × ((bank_to_text b out).words ≡ W)
    shown e =
        let (τ, r, w) = shown_text b out d e in
        (text_of τ, (bank_to_text b out).words, τ, record { text = record { fits = r.fits; text = refl }; enough = r.enough }, r.bank, w, refl)

-- no two pairs of a text and the W that is written share a bank
pub one_text_a_bank : (W W' : ℕ) (t t' out out' : List ℕ) → (text_to_bank W t out).number ≡ 0 → (text_to_bank W' t' out').number ≡ 0
    → wrote (text_to_bank W t out) ≡ wrote (text_to_bank W' t' out') → (t ≡ t') × ((text_to_bank W t out).words ≡ (text_to_bank W' t' out').words)
one_text_a_bank W W' t t' out out' e e' same =
    let r = written_bank W t out e in
    let r' = written_bank W' t' out' e' in
    one_text t t' _ _ r.tag r'.tag (record { text = r.text; enough = r.enough }) (record { text = r'.text; enough = r'.enough }) (sym r.bank ∙ same ∙ r'.bank)

-- no two banks that differ within their words share a text and a W
pub one_bank_a_text : (b b' out out' : List ℕ) → Digits 256 b → Digits 256 b' → (bank_to_text b out).number ≡ 0 → (bank_to_text b' out').number ≡ 0
    → wrote (bank_to_text b out) ≡ wrote (bank_to_text b' out') → (bank_to_text b out).words ≡ (bank_to_text b' out').words → within b ≡ within b'
one_bank_a_text b b' out out' d d' e e' same words =
    let (τ, r, w) = shown_text b out d e in
    let (τ', r', w') = shown_text b' out' d' e' in
    one_bank b b' (wrote (bank_to_text b out)) (bank_to_text b out).words τ τ' r (rw (← words) at r') w (same ∙ w')
