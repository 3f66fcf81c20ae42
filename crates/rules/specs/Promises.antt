-- What documents 01 and 02 (C-12, C-13, C-15) promise of each public call, in their words; Calls has the one answer that keeps it (proofs/OneAnswer).
use Rattle.std.specs.Prelude.{ℕ, ◌≤◌, ◌<◌, ◌≡◌, ◌⊎◌, List, [], ◌∷◌, ◌++◌, length, drop}
use Rattle.rules.specs.declared.Scheme.{Scheme}
use Rattle.rules.specs.Schemes.{words}
use Rattle.rules.specs.Grammar.{Tag, TagText, text_of}
use Rattle.rules.specs.Coding.{TagBank, bank_of, word_count}
use Rattle.rules.specs.Raw.{raw_text}
use Rattle.rules.specs.Calls.{Call}
use Rattle.rules.specs.Conditions.{Rule, rule, First, asked_rules, bank_rules, raw_rules}

-- the first number that applies is given, with its place; accepted is 0 with W and the length written, output past it unchanged;
-- any refusal gives W 0, length 0 and an unchanged output
pub record Promised (rules : List Rule) (Right : ℕ → List ℕ → Type 0) (out : List ℕ) (c : Call) : Type 0 where
  pub first : First rules c.number c.place
  pub accepted : c.number ≡ 0 → (w : List ℕ) × Right c.words w × (c.written ≡ length w) × (c.output ≡ w ++ drop (length w) out)
  pub refused : ¬ (c.number ≡ 0) → (c.words ≡ 0) × (c.written ≡ 0) × (c.output ≡ out)

-- 1: output shorter than the room
abbrev pub Short : ℕ → List ℕ → Rule
Short room out = rule 1 (length out < room) (◌≡ 0)

-- where W is asked for, n words are written: W, or for 0 the smallest
abbrev pub Asks : ℕ → Scheme → ℕ → Type 0
Asks W s n = ((W ≡ 0) × (n ≡ words s)) ⊎ ((0 < W) × (n ≡ W))

abbrev pub TextToBank : ℕ → List ℕ → List ℕ → Call → Type 0
TextToBank W t out = Promised (Short 64 out ∷ asked_rules W t) (λ n w. (τ : Tag) × TagText t τ × Asks W τ.scheme n × (w ≡ bank_of n τ)) out

abbrev pub BankToText : List ℕ → List ℕ → Call → Type 0
BankToText b out = Promised (Short 160 out ∷ bank_rules b) (λ W w. (τ : Tag) × TagBank b W τ × (w ≡ text_of τ)) out

abbrev pub RawLine : List ℕ → List ℕ → Call → Type 0
RawLine b out = Promised (Short 160 out ∷ raw_rules b) (λ W w. (W ≡ word_count b) × (w ≡ raw_text b)) out

-- the line on the screen: all of the tag text for 0, all of the raw text for 11 to 19, the raw text's empty start for every other number
pub record OnScreen (tag raw : List ℕ) (n : ℕ) (shown : List ℕ) : Type 0 where
  pub clean : n ≡ 0 → shown ≡ tag
  pub broken : 11 ≤ n → n ≤ 19 → shown ≡ raw
  pub other : 0 < n → (n < 11) ⊎ (19 < n) → shown ≡ []
