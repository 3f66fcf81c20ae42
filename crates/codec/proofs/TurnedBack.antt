-- One call after the other: what the first wrote, the second turns back, because the written rules do.
use Prim.Native.Nat.{ℕ, ◌≤◌, ◌<◌}
use mathlib.Core.Path.{◌≡◌, refl, sym, ap, ap₂, ◌∙◌}
use mathlib.Core.List.{List}
use native.Mathlib.Omega.{arith}
use lib.ListN.{length, take, drop, length-append}
use lib.Seq.{take_at}
use Rattle.numeral.specs.Numeral.{Digits}
use Rattle.rules.specs.Answers.{Answer, refused, taken, ◌>>=◌}
use Rattle.rules.specs.Grammar.{Tag, TagFits, text_of}
use Rattle.rules.specs.Coding.{TagBank, bank_of, within, EnoughWords}
use Rattle.rules.specs.Calls.{Output, call, wrote, lent, bank_room, text_room, text_answer, bank_answer, text_to_bank, bank_to_text}
use Rattle.rules.proofs.Again.{wrote_is, shown_text, written_bank, itself}
use Rattle.rules.proofs.AskedWords.{bank_of_lem}
use Rattle.rules.proofs.Banks
use Rattle.codec.specs.Answers.{answered}
use Rattle.codec.proofs.OneAnswer.{shown_full, written_full}
use Rattle.codec.specs.Ties.{written_again, shown_again}
use Rattle.std.specs.Prelude.{Ok, Err}
use Rattle.scheme.specs.declared.refusal.Refusal.{Refusal}
use Rattle.codec.specs.declared.Written.{Written}

-- a first call's answer `a`, then a second that gives `f o` for the W and the bytes o that the first gave
module _ (a : Answer Output) (before after : List ℕ) where
  room_for : (v : Written) → answered (Ok v) after ≡ call before a → v.length ≤ length after
  room_for = go a
    where
      go : (a : Answer Output) (v : Written) → answered (Ok v) after ≡ call before a → v.length ≤ length after
      go (refused m p) v e = omega (arith, ap (λ c. c.written) e)
      go (taken (n', w)) v e =
          rw (ap (λ c. c.output) e, length-append) (omega (arith, ap (λ c. c.written) e))

  module _ (full : (call before a).number ≡ 0 → 0 < (call before a).written) (f z : Output → Answer Output) (same : (o : Output) → a ≡ taken o → f o ≡ z o) (out : List ℕ) where
    then_second : (v : Written) → answered (Ok v) after ≡ call before a → call out (f (v.words, take v.length after)) ≡ call out (a >>= z)
    then_second v e = go a refl
      where
        go : (x : Answer Output) → a ≡ x → call out (f (v.words, take v.length after)) ≡ call out (x >>= z)
        go (refused m p) q =
            let g : answered (Ok v) after ≡ call before (refused m p) = e ∙ ap (call before) q in
            let k : 0 < (call before a).written = full (ap (λ x. (call before x).number) q ∙ sym (ap (λ c. c.number) g)) in
            absurd (omega (arith, k, ap (λ x. (call before x).written) q))
        go (taken (n', w)) q =
            let g : answered (Ok v) after ≡ call before (taken (n', w)) = e ∙ ap (call before) q in
            let t : take v.length after ≡ w = ap (λ c. take c.written c.output) g ∙ take_at w (drop (length w) before) (length w) refl in
            ap (call out) (ap₂ (λ W w. f (W, w)) (ap (λ c. c.words) g) t ∙ same (n', w) q)

    then_none : (r : Refusal) → answered (Err r) after ≡ call before a → answered (Err r) out ≡ call out (a >>= z)
    then_none r e = go a refl
      where
        go : (x : Answer Output) → a ≡ x → answered (Err r) out ≡ call out (x >>= z)
        go (refused m i) q = ap (λ c. call out (refused c.number c.place)) (e ∙ ap (call before) q)
        go (taken (n', w)) q =
            let k : 0 < (call before a).written = full (ap (λ x. (call before x).number) q) in
            absurd (omega (arith, k, ap (λ c. c.written) e))

-- what a first call wrote
first_wrote : (out : List ℕ) (a : Answer Output) (o : Output) → a ≡ taken o → wrote (call out a) ≡ o.1
first_wrote out a o e = rw e (wrote_is out o.1 (call out (taken o)) refl refl)

-- bank to text, then text to bank
module _ (b text out : List ℕ) (d : Digits 256 b) where
  written_same : Output → Answer Output
  written_same o = lent bank_room out (taken (o.0, within b))

  bank_again : (o : Output) → text_answer b text ≡ taken o → bank_answer o.0 o.1 out ≡ written_same o
  unfolding bank_to_text written_same
  bank_again o e =
      let W = o.0 in
      let (τ, r, t) = shown_text b text d (ap (λ x. (call text x).number) e) in
      let bank : TagBank b W τ = rw (ap (λ x. (call text x).words) e) at r in
      let same : o.1 ≡ text_of τ = sym (first_wrote text (text_answer b text) o e) ∙ t in
      rw (bank_of_lem W W o.1 τ (record { fits = bank.fits; text = same }) (itself W τ.scheme bank.enough.0) bank.enough, sym bank.bank)

  module _ (v : Written) (after : List ℕ) where
    pub shown_room : answered (Ok v) after ≡ bank_to_text b text → v.length ≤ length after
    unfolding bank_to_text
    shown_room = room_for (text_answer b text) text after v

    -- what is shown, written again
    pub shown_again_lem : answered (Ok v) after ≡ bank_to_text b text → text_to_bank v.words (take v.length after) out ≡ written_again b text out
    unfolding bank_to_text text_to_bank written_same
    shown_again_lem = then_second (text_answer b text) text after (shown_full b text d) (λ o. bank_answer o.0 o.1 out) written_same bank_again out v

  pub not_shown : (r : Refusal) (after : List ℕ) → answered (Err r) after ≡ bank_to_text b text → answered (Err r) out ≡ written_again b text out
  unfolding bank_to_text written_same
  not_shown r after = then_none (text_answer b text) text after (shown_full b text d) (λ o. bank_answer o.0 o.1 out) written_same bank_again out r

own_of : (w : List ℕ) (W : ℕ) (τ : Tag) → EnoughWords W τ.scheme → TagFits τ → w ≡ bank_of W τ → TagBank w W τ
own_of w W τ enough fits e = rw e (Banks.own_bank W τ enough fits)

-- text to bank, then bank to text
module _ (asked : ℕ) (t bank out : List ℕ) where
  shown_same : Output → Answer Output
  shown_same o = lent text_room out (taken (o.0, t))

  text_again : (o : Output) → bank_answer asked t bank ≡ taken o → text_answer o.1 out ≡ shown_same o
  unfolding text_to_bank shown_same
  text_again o e =
      let r = written_bank asked t bank (ap (λ x. (call bank x).number) e) in
      let words = ap (λ x. (call bank x).words) e in
      let τ = r.tag in
      let same : o.1 ≡ bank_of o.0 τ = sym (first_wrote bank (bank_answer asked t bank) o e) ∙ r.bank ∙ ap (λ W. bank_of W τ) words in
      let own = own_of o.1 o.0 τ (rw words at r.enough) r.text.fits same in
      rw (Banks.tag_of o.1 o.0 τ own, Banks.words_of o.1 o.0 τ own, sym r.text.text)

  module _ (v : Written) (after : List ℕ) where
    pub written_room : answered (Ok v) after ≡ text_to_bank asked t bank → v.length ≤ length after
    unfolding text_to_bank
    written_room = room_for (bank_answer asked t bank) bank after v

    -- what is written, shown again
    pub written_again_lem : answered (Ok v) after ≡ text_to_bank asked t bank → bank_to_text (take v.length after) out ≡ shown_again asked t bank out
    unfolding bank_to_text text_to_bank shown_same
    written_again_lem = then_second (bank_answer asked t bank) bank after (written_full asked t bank) (λ o. text_answer o.1 out) shown_same text_again out v

  pub not_written : (r : Refusal) (after : List ℕ) → answered (Err r) after ≡ text_to_bank asked t bank → answered (Err r) out ≡ shown_again asked t bank out
  unfolding text_to_bank shown_same
  not_written r after = then_none (bank_answer asked t bank) bank after (written_full asked t bank) (λ o. text_answer o.1 out) shown_same text_again out r
