-- There and back through the calls: what is shown, with the W shown, writes the same bank again, and what is written shows the same text and W.
use Prim.Native.Nat.{ℕ, ◌≤◌}
use mathlib.Core.Path.{◌≡◌, refl, sym, ◌∙◌}
use mathlib.Core.Logic.{inl, inr}
use mathlib.Core.List.{List, ◌++◌}
use mathlib.Core.Bool.{Bool, true, false}
use native.Mathlib.Omega.{arith}
use lib.Dec.{leb, le→leb}
use lib.ListN.{length, drop}
use lib.Seq.{take_at}
use Rattle.numeral.specs.Numeral.{Digits}
use Rattle.rules.specs.Answers.{Answer, refused, taken, ◌>>◌, demand}
use Rattle.rules.specs.declared.Scheme.{Scheme}
use Rattle.rules.specs.Schemes.{words}
use Rattle.rules.specs.Grammar.{Tag, TagText, text_of}
use Rattle.rules.specs.Coding.{TagBank, bank_of, within, EnoughWords}
use Rattle.rules.specs.Calls.{Call, Output, call, wrote, bank_room, text_room, bank_of_text, text_to_bank, bank_to_text}
use Rattle.rules.specs.Conditions.{asked_rules}
use Rattle.rules.specs.Promises.{Asks}
use Rattle.rules.proofs.Tests.{is_true}
use Rattle.rules.proofs.Answers.{Reads}
use Rattle.rules.proofs.Codes.{sizes}
use Rattle.rules.proofs.AskedWords.{Encoded, bank_reads, bank_of_lem}
use Rattle.rules.proofs.Banks
use Rattle.rules.proofs.OneAnswer.{one_answer_of_bank_to_text}

-- what a call wrote stands at the output's start
pub wrote_is : (out w : List ℕ) (c : Call) → c.written ≡ length w → c.output ≡ w ++ drop (length w) out → wrote c ≡ w
wrote_is out w c n o = rw (n, o) (take_at w (drop (length w) out) (length w) refl)

pub shown_text : (b out : List ℕ) → Digits 256 b → (bank_to_text b out).number ≡ 0
    → (τ : Tag) × TagBank b (bank_to_text b out).words τ × (wrote (bank_to_text b out) ≡ text_of τ)
shown_text b out d e =
    let c = bank_to_text b out in
    let (w, r, n, o) = ((one_answer_of_bank_to_text b out d c).1 refl).accepted e in
    (r.0, r.1, wrote_is out w c n o ∙ r.2)

-- a text's bank is written, in the W that the call gives
pub record WrittenBank (W : ℕ) (t : List ℕ) (c : Call) : Type 0 where
  pub tag : Tag
  pub text : TagText t tag
  pub asks : Asks W tag.scheme c.words
  pub enough : EnoughWords c.words tag.scheme
  pub bank : wrote c ≡ bank_of c.words tag

pub written_bank : (W : ℕ) (t out : List ℕ) → (text_to_bank W t out).number ≡ 0 → WrittenBank W t (text_to_bank W t out)
unfolding text_to_bank
written_bank W t out e = go (leb bank_room (length out)) (bank_of_text W t) (bank_reads W t) e
  where
    made : (a : Answer Output) → Reads (asked_rules W t) (Encoded W t) a → (call out a).number ≡ 0 → WrittenBank W t (call out a)
    made (refused n p) h e = absurd (omega (arith, h.1))
    made (taken (n, w)) h e =
        let r = h.1 in
        record { tag = r.tag; text = r.text; asks = r.asks; enough = r.enough; bank = wrote_is out w (call out (taken (n, w))) refl refl ∙ r.bank }

    go : (room : Bool) (a : Answer Output) → Reads (asked_rules W t) (Encoded W t) a → (call out (demand room 1 0 >> a)).number ≡ 0 → WrittenBank W t (call out (demand room 1 0 >> a))
    go true a h e = made a h e
    go false a h e = absurd (omega arith)

-- the calls on a tag's own text and bank
pub call_of_text : (W n : ℕ) (t out : List ℕ) (τ : Tag) → TagText t τ → Asks W τ.scheme n → EnoughWords n τ.scheme → bank_room ≤ length out
    → text_to_bank W t out ≡ call out (taken (n, bank_of n τ))
unfolding text_to_bank
call_of_text W n t out τ r asks enough l = rw (is_true (leb bank_room (length out)) (le→leb bank_room (length out) l), bank_of_lem W n t τ r asks enough)

pub call_of_bank : (b out : List ℕ) (W : ℕ) (τ : Tag) → TagBank b W τ → text_room ≤ length out → bank_to_text b out ≡ call out (taken (W, text_of τ))
unfolding bank_to_text
call_of_bank b out W τ r l = rw (is_true (leb text_room (length out)) (le→leb text_room (length out) l), Banks.tag_of b W τ r, Banks.words_of b W τ r)

-- a scheme's count, or more, asks for itself
pub itself : (W : ℕ) (s : Scheme) → words s ≤ W → Asks W s W
itself W s l = inr (omega (arith, l, (sizes s).some_words), refl)

module _ (b out out' : List ℕ) (d : Digits 256 b) (l : bank_room ≤ length out') (e : (bank_to_text b out).number ≡ 0) where
  -- writing the shown text again with the shown W gives the same bank
  pub again : let c = text_to_bank (bank_to_text b out).words (wrote (bank_to_text b out)) out' in
      (c.number ≡ 0) × (c.words ≡ (bank_to_text b out).words) × (wrote c ≡ within b)
  again =
      let (τ, r, t) = shown_text b out d e in
      let W = (bank_to_text b out).words in
      let q = call_of_text W W (wrote (bank_to_text b out)) out' τ (record { fits = r.fits; text = t }) (itself W τ.scheme r.enough.0) r.enough l in
      rw q (refl, refl, wrote_is out' (bank_of W τ) (call out' (taken (W, bank_of W τ))) refl refl ∙ sym r.bank)

  -- writing it with 0 gives the bank of the same tag in as few words as its scheme needs
  pub again_smallest : let c = text_to_bank 0 (wrote (bank_to_text b out)) out' in
      (c.number ≡ 0) × ((τ : Tag) × TagBank b (bank_to_text b out).words τ × (wrote c ≡ bank_of (words τ.scheme) τ))
  again_smallest =
      let (τ, r, t) = shown_text b out d e in
      let n = words τ.scheme in
      let q = call_of_text 0 n (wrote (bank_to_text b out)) out' τ (record { fits = r.fits; text = t }) (inl (refl, refl)) (omega arith, omega (arith, (sizes τ.scheme).few_words)) l in
      rw q (refl, (τ, r, wrote_is out' (bank_of n τ) (call out' (taken (n, bank_of n τ))) refl refl))

-- showing the bank that is written where W is asked for gives the same text, and W, or for 0 the scheme's count
pub back : (W : ℕ) (t out out' : List ℕ) → text_room ≤ length out' → (text_to_bank W t out).number ≡ 0
    → let c = bank_to_text (wrote (text_to_bank W t out)) out' in
    (c.number ≡ 0) × (wrote c ≡ t) × (c.words ≡ (text_to_bank W t out).words) × ((τ : Tag) × TagText t τ × Asks W τ.scheme c.words)
back W t out out' l e =
    let r = written_bank W t out e in
    let n = (text_to_bank W t out).words in
    let τ = r.tag in
    let q = call_of_bank (wrote (text_to_bank W t out)) out' n τ (rw r.bank (Banks.own_bank n τ r.enough r.text.fits)) l in
    rw q (refl, wrote_is out' (text_of τ) (call out' (taken (n, text_of τ))) refl refl ∙ sym r.text.text, refl, (τ, r.text, r.asks))
