-- The number and the place given are those of the first rule of document 01's list that applies, and 0 exactly where none does.
use Prim.Native.Nat.{ℕ}
use mathlib.Core.Path.{◌≡◌}
use mathlib.Core.Logic.{◌↔◌}
use mathlib.Core.List.{List}
use Rattle.rules.specs.Answers.{Answer, number_of, place_of}
use Rattle.rules.specs.TextNumbers.{text_number, text_place, tag_of_text}
use Rattle.rules.specs.BankNumbers.{bank_number, bank_place, tag_of_bank}
use Rattle.rules.specs.Conditions.{Rule, First, text_rules, bank_rules}
use Rattle.rules.proofs.Answers.{Reads, OnePlace, one_first, first_of}
use Rattle.rules.proofs.TextReads.{tag_reads}
use Rattle.rules.proofs.BankReads.{bank_reads}
use Rattle.rules.proofs.OnePlace.{one_place_of_text, one_place_of_bank}

pub exactly : {X : Type 0} (rs : List Rule) (Right : X → Type 0) (a : Answer X) → OnePlace rs → Reads rs Right a → (n p : ℕ) → ((number_of a ≡ n) × (place_of a ≡ p)) ↔ First rs n p
exactly rs Right a o h n p = let f = first_of rs Right a h in (λ e. rw (← e.0, ← e.1) f, λ k. one_first rs o (number_of a) (place_of a) n p f k)

pub first_rule_of_text : (t : List ℕ) (n p : ℕ) → ((text_number t ≡ n) × (text_place t ≡ p)) ↔ First (text_rules t) n p
unfolding text_number text_place
first_rule_of_text t n p = exactly (text_rules t) _ (tag_of_text t) (one_place_of_text t) (tag_reads t) n p

pub first_rule_of_bank : (b : List ℕ) (n p : ℕ) → ((bank_number b ≡ n) × (bank_place b ≡ p)) ↔ First (bank_rules b) n p
unfolding bank_number bank_place
first_rule_of_bank b n p = exactly (bank_rules b) _ (tag_of_bank b) (one_place_of_bank b) (bank_reads b) n p
