-- No second answer keeps the contract of two calls one after the other: what is accepted there is never empty either.
use Prim.Native.Nat.{ℕ, ◌<◌}
use mathlib.Core.Path.{◌≡◌, refl, sym, ◌∙◌}
use mathlib.Core.Bool.{Bool, true, false}
use mathlib.Core.List.{List}
use native.Mathlib.Omega.{arith}
use lib.Dec.{leb}
use lib.ListN.{length}
use Rattle.numeral.specs.Numeral.{Digits}
use Rattle.rules.specs.Answers.{Answer as RulesAnswer, refused, taken, ◌>>=◌, ◌>>◌, demand}
use Rattle.rules.specs.Coding.{within}
use Rattle.rules.specs.Calls.{Output, call, lent, bank_room, text_room, text_answer, bank_answer, text_to_bank, bank_to_text}
use Rattle.rules.proofs.Again.{shown_text, written_bank}
use Rattle.codec.specs.Answers.{Answer, answered}
use Rattle.codec.specs.Ties.{written_again, shown_again}
use Rattle.codec.proofs.OneAnswer.{Full, written_full, shown_full, text_full, bank_full, one_answer}

-- a first answer a, whose refusals have a number, and then w, which is not empty
then_full : (a : RulesAnswer Output) (first : List ℕ) → Full (call first a) → (room : ℕ) (w out : List ℕ) → ((call first a).number ≡ 0 → 0 < length w) → Full (call out (a >>= λ (o : Output). lent room out (taken (o.0, w))))
then_full (refused n p) first full room w out some e = absurd (omega (arith, full e))
then_full (taken x) first full room w out some e = go (leb room (length out)) e
  where
    go : (b : Bool) → (call out (demand b 1 0 >> taken (x.0, w))).number ≡ 0 → 0 < (call out (demand b 1 0 >> taken (x.0, w))).written
    go true e = some refl
    go false e = absurd (omega arith)

module _ (b text out : List ℕ) (d : Digits 256 b) where
  bank_some : (bank_to_text b text).number ≡ 0 → 0 < length (within b)
  bank_some e = let (τ, r, _) = shown_text b text d e in rw r.bank (bank_full (bank_to_text b text).words τ)

  again_full : Full (written_again b text out)
  unfolding bank_to_text
  again_full = then_full (text_answer b text) text (shown_full b text d) bank_room (within b) out bank_some

module _ (W : ℕ) (t bank out : List ℕ) where
  text_some : (text_to_bank W t bank).number ≡ 0 → 0 < length t
  text_some e = let r = written_bank W t bank e in rw r.text.text (text_full r.tag)

  back_full : Full (shown_again W t bank out)
  unfolding text_to_bank
  back_full = then_full (bank_answer W t bank) bank (written_full W t bank) text_room t out text_some

-- two answers, outputs and texts (or banks) in between that keep the contract are one
module _ (r s : Answer) (o p u v : List ℕ) where
  pub one_answer_of_write_again : (b text out : List ℕ) → Digits 256 b
      → answered r o ≡ written_again b text out → u ≡ (bank_to_text b text).output
      → answered s p ≡ written_again b text out → v ≡ (bank_to_text b text).output → (r ≡ s) × (o ≡ p) × (u ≡ v)
  one_answer_of_write_again b text out d e f g h =
      let (x, y) = one_answer (written_again b text out) (again_full b text out d) r s o p e g in
      (x, y, f ∙ sym h)

  pub one_answer_of_show_again : (W : ℕ) (t bank out : List ℕ)
      → answered r o ≡ shown_again W t bank out → u ≡ (text_to_bank W t bank).output
      → answered s p ≡ shown_again W t bank out → v ≡ (text_to_bank W t bank).output → (r ≡ s) × (o ≡ p) × (u ≡ v)
  one_answer_of_show_again W t bank out e f g h =
      let (x, y) = one_answer (shown_again W t bank out) (back_full W t bank out) r s o p e g in
      (x, y, f ∙ sym h)
