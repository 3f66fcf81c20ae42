-- The header, the words and the zeros behind the parts, in the code's own terms: o is what the header names, and l the outline of its scheme.
use Prim.Native.Nat.{ℕ, ◌+◌, ◌-◌, ◌*◌, ◌≤◌, ◌<◌}
use mathlib.Core.Path.{◌≡◌, sym, ap, ◌∙◌}
use mathlib.Core.List.{List}
use Rattle.std.specs.Prelude.{Option, None, Some}
use native.Mathlib.Omega.{arith}
use lib.ListN.{length}
use Rattle.rules.specs.Answers.{refused, taken}
use Rattle.rules.specs.declared.Scheme.{Scheme}
use Rattle.rules.specs.Schemes.{schemes, about, words, zero_bits}
use Rattle.rules.specs.Coding.{word_count}
use Rattle.rules.specs.Conditions.{zeros_from}
use Rattle.rules.specs.BankNumbers.{headed, control_in, tag_of_bank}
use Rattle.rules.proofs.Codes as Codes
use Rattle.rules.proofs.BankReads.{at_lt, clean_of}
use Rattle.scheme.specs.declared.outlines.Outline.{Outline}
use Rattle.scheme.specs.Outlines.{outline_of}
use Rattle.fields.specs.BitReaders.{code_field, first_one}
use Rattle.bank.specs.Reading.{Coded}
use Rattle.bank.proofs.Stages.{unlisted, few_words, one_after, all_zeros}

pub few_counted : (b : List ℕ) (W : ℕ) → control_in b ≡ taken W → W ≤ 31
few_counted b W c = omega (arith, (clean_of b W c).count, at_lt b 0x10 5)

-- the parts of a code in W words end z bits before `bits`, and what follows can be read
pub record Ended (bits z W bytes : ℕ) : Type 0 where
  pub zeros : z ≤ bits
  pub inside : bits - z ≤ 16 * W
  pub few : W ≤ 31
  pub long : 2 + 2 * W ≤ bytes

module _ (b : List ℕ) (W : ℕ) (c : control_in b ≡ taken W) (h : ℕ) (eh : h ≡ code_field b 0 8) (o : Option Scheme) (eo : o ≡ headed h schemes) where
  names : o ≡ headed (code_field b 0 8) schemes
  names = eo ∙ ap (λ h. headed h schemes) eh

  pub no_scheme : o ≡ None → tag_of_bank b ≡ refused 13 0x20
  no_scheme e = unlisted b W c (sym names ∙ e)

  module _ (s : Scheme) (es : o ≡ Some s) (l : Outline) (el : l ≡ outline_of s) where
    found : headed (code_field b 0 8) schemes ≡ Some s
    found = sym names ∙ es

    words_are : l.words ≡ words s
    words_are = ap (λ l. l.words) el

    pub too_few : W < l.words → tag_of_bank b ≡ refused 14 0x10
    too_few h = few_words b W c s found (omega (arith, words_are))

    module _ (ew : l.words ≤ W) (z : ℕ) (ez : z ≡ zero_bits l.parts) where
      enough : words s ≤ W
      enough = omega (arith, words_are)

      zeros_are : z ≡ zero_bits (about s).parts
      zeros_are = ez ∙ ap (λ l. zero_bits l.parts) el

      end_is : l.bits - z ≡ zeros_from s
      end_is = rw (zeros_are, el)

      count : W ≡ word_count b
      count = (clean_of b W c).count

      pub ended : Ended l.bits z W (length b)
      ended = record {
        zeros = omega (arith, zeros_are, ap (λ l. l.bits) el, (Codes.sizes s).whole);
        inside = omega (arith, end_is, enough, (Codes.sizes s).inside);
        few = few_counted b W c;
        long = rw count (clean_of b W c).long;
      }

      module _ (x : ℕ) (ex : x ≡ first_one b (l.bits - z) (16 * W)) where
        first : x ≡ first_one b (zeros_from s) (16 * W)
        first = ex ∙ ap (λ n. first_one b n (16 * W)) end_is

        -- the first one bit of those behind the parts
        pub not_zero : x < 16 * W → tag_of_bank b ≡ refused 15 (0x20 + x)
        not_zero h = rw first (one_after b W c s found enough (rw first at h))

        pub coded : 16 * W ≤ x → Coded b s l.parts
        coded h = record {
          clean = c ∙ ap taken count;
          header = found;
          enough = rw (← count) enough;
          zeros = all_zeros b W c s found enough (rw first at h);
          parts = sym (ap (λ l. l.parts) el);
        }
