-- What a bank reads as where one of the rules 13 to 15 refuses it, and what is left to read where none does.
use Prim.Native.Nat.{ℕ, ◌+◌, ◌*◌, ◌≤◌, ◌<◌}
use mathlib.Core.Path.{◌≡◌, ap, ◌∙◌}
use mathlib.Core.Bool.{Bool, true, false}
use mathlib.Core.List.{List}
use Rattle.std.specs.Prelude.{Option, None, Some}
use native.Mathlib.Omega.{arith}
use lib.Dec.{T, leb, not_T}
use lib.ListN.{length, drop}
use borrow.Author.Tests.{le-leb, lt-leb}
use Rattle.rules.specs.Answers.{Answer, refused, taken, ◌>>=◌, ◌>>◌, demand, given}
use Rattle.rules.specs.Bytes.{upto}
use Rattle.rules.specs.declared.Scheme.{Scheme}
use Rattle.rules.specs.Schemes.{schemes, words}
use Rattle.rules.specs.Grammar.{layout, Tag}
use Rattle.rules.specs.Coding.{at, word_count, bank_size}
use Rattle.rules.specs.Conditions.{zeros_from}
use Rattle.rules.specs.BankNumbers.{all_zero, headed, code_in, fields_in, control_in, control_fields, tag_of_bank}
use Rattle.rules.proofs.Tests.{is_true, is_false}
use Rattle.rules.proofs.Codes.{sizes}
use Rattle.rules.proofs.BankReads.{Clean, clean_of, code_seen}
use Rattle.rules.specs.declared.Parts.{Parts}
use Rattle.fields.specs.BitReaders.{first_one}
use Rattle.bank.specs.Reading.{Coded}
use Rattle.bank.proofs.Zeros.{first_is, some_one, no_one}

-- The code, once the control word is in order: what is left to read of it, by what its header names.
abbrev coded : List ℕ → Option Scheme → Answer Tag
coded b o = do
  s ← given o 13 0x20
  demand (leb (words s) (word_count b)) 14 0x10
  demand (all_zero (drop (zeros_from s) (code_in b))) 15 (0x20 + (zeros_from s + length (upto 1 (drop (zeros_from s) (code_in b)))))
  ps ← fields_in 0x28 (layout s) (drop 8 (code_in b))
  taken (record { scheme = s; control = control_fields b; parts = ps })

module _ (b : List ℕ) (W : ℕ) (e : control_in b ≡ taken W) where
  clean : Clean b W
  clean = clean_of b W e

  pub long : bank_size (word_count b) ≤ length b
  long = clean.long

  clean_tag : tag_of_bank b ≡ coded b (headed (at b 0x20 8) schemes)
  unfolding tag_of_bank
  clean_tag = rw (e, clean.count, code_seen b long 0 8 (omega (arith, clean.some_words)))

  pub unlisted : headed (at b 0x20 8) schemes ≡ None → tag_of_bank b ≡ refused 13 0x20
  unlisted e = clean_tag ∙ ap (coded b) e

  module _ (s : Scheme) (h : headed (at b 0x20 8) schemes ≡ Some s) where
    pub few_words : W < words s → tag_of_bank b ≡ refused 14 0x10
    few_words w = clean_tag ∙ rw (h, lt-leb (words s) (word_count b) (omega (arith, clean.count)))

    module _ (enough : words s ≤ W) where
      inside : zeros_from s ≤ 16 * word_count b
      inside = omega (arith, clean.count, (sizes s).inside)

      scheme_tag : (t : Bool) → all_zero (drop (zeros_from s) (code_in b)) ≡ t
          → tag_of_bank b ≡ (demand t 15 (0x20 + (zeros_from s + length (upto 1 (drop (zeros_from s) (code_in b))))) >> (fields_in 0x28 (layout s) (drop 8 (code_in b)) >>= λ ps. taken (record { scheme = s; control = control_fields b; parts = ps })))
      scheme_tag t f = clean_tag ∙ rw (h, le-leb (words s) (word_count b) (omega (arith, clean.count)), f)

      pub one_after : first_one b (zeros_from s) (16 * W) < 16 * W → tag_of_bank b ≡ refused 15 (0x20 + first_one b (zeros_from s) (16 * W))
      one_after = rw clean.count in_words
        where
          in_words : let end = 16 * word_count b in first_one b (zeros_from s) end < end → tag_of_bank b ≡ refused 15 (0x20 + first_one b (zeros_from s) end)
          in_words l =
              let c = drop (zeros_from s) (code_in b) in
              scheme_tag false (is_false (all_zero c) (not_T (all_zero c) (some_one b long (zeros_from s) inside l))) ∙ rw (first_is b long (zeros_from s) inside)

      pub all_zeros : 16 * W ≤ first_one b (zeros_from s) (16 * W) → T (all_zero (drop (zeros_from s) (code_in b)))
      all_zeros = rw clean.count (no_one b long (zeros_from s) inside)

-- The parts, once the scheme is known.
pub coded_tag : (b : List ℕ) (s : Scheme) (p : Parts) → Coded b s p → tag_of_bank b ≡ (fields_in 0x28 (layout s) (drop 8 (code_in b)) >>= λ ps. taken (record { scheme = s; control = control_fields b; parts = ps }))
coded_tag b s p c = scheme_tag b (word_count b) c.clean s c.header c.enough true (is_true (all_zero (drop (zeros_from s) (code_in b))) c.zeros)
