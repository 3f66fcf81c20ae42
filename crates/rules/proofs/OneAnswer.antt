-- For each call one answer keeps the promise: no second number, place, W, length or output does.
use Prim.Native.Nat.{ℕ, zero, suc, ◌≤◌, ◌<◌}
use mathlib.Core.Path.{◌≡◌, refl, sym, ◌∙◌, ap, ap₂}
use mathlib.Core.Logic.{◌↔◌}
use mathlib.Core.List.{List, ◌∷◌, ◌++◌}
use native.Mathlib.Omega.{arith}
use lib.Dec.{T, leb, leb→le, nleb→lt, lit<}
use lib.ListN.{length, drop, length-append, length-drop}
use Rattle.numeral.specs.Numeral.{Digits}
use Rattle.rules.specs.Answers.{Answer, refused, taken, demand}
use Rattle.rules.specs.Grammar.{Tag, TagText, text_of}
use Rattle.rules.specs.Coding.{TagBank, bank_of, word_count}
use Rattle.rules.specs.BankNumbers.{tag_of_bank}
use Rattle.rules.specs.Raw.{raw_text, raw_of_bank}
use Rattle.rules.specs.Calls.{Call, Output, call, lent, bank_room, text_room, bank_of_text, bank_answer, text_answer, raw_answer, text_to_bank, bank_to_text, raw_line}
use Rattle.rules.specs.Conditions.{Rule, asked_rules, bank_rules, raw_rules}
use Rattle.rules.specs.Promises.{Promised, Short, Asks, TextToBank, BankToText, RawLine}
use Rattle.rules.proofs.Answers.{Reads, settled_demand, check, reads_map, reads_weaken, OnePlace, one_first, first_of}
use Rattle.rules.proofs.Banks
use Rattle.rules.proofs.BankReads
use Rattle.rules.proofs.AskedWords
use Rattle.rules.proofs.AskedWords.{Encoded, one_asked}
use Rattle.rules.proofs.Exact
use Rattle.rules.proofs.OnePlace.{fixed, one_place_of_asked, one_place_of_bank, one_place_of_raw}
use Rattle.rules.proofs.Lengths.{text_length, bank_size_lem, raw_length}

-- W and what is written are right, and there is room for it
abbrev pub Fitting : (ℕ → List ℕ → Type 0) → List ℕ → Output → Type 0
Fitting Right out o = Right o.0 o.1 × (length o.1 ≤ length out)

-- no second W and no second output are right
abbrev pub One : (ℕ → List ℕ → Type 0) → Type 0
One Right = (m n : ℕ) (v w : List ℕ) → Right m v → Right n w → (m ≡ n) × (v ≡ w)

same_call : (c d : Call) → c.number ≡ d.number → c.place ≡ d.place → c.words ≡ d.words → c.written ≡ d.written → c.output ≡ d.output → c ≡ d
same_call c d n p W w o = λ i. record { number = n i; place = p i; words = W i; written = w i; output = o i }

module _ (rs : List Rule) (places : OnePlace rs) (Right : ℕ → List ℕ → Type 0) (out : List ℕ) where
  keeps : (a : Answer Output) → Reads rs (Fitting Right out) a → Promised rs Right out (call out a)
  keeps (refused n p) h = record { first = h.0; accepted = λ e. absurd (omega arith); refused = λ _. (refl, refl, refl) }
  keeps (taken (W, w)) h =
      record { first = first_of rs (Fitting Right out) (taken (W, w)) h; accepted = λ _. (w, h.1.0, refl, refl); refused = λ f. absurd (f refl) }

  one_call : (c d : Call) → One Right → Promised rs Right out c → Promised rs Right out d → c ≡ d
  one_call c d unique p q = go c.number refl
    where
      both : (c.number ≡ d.number) × (c.place ≡ d.place)
      both = one_first rs places c.number c.place d.number d.place p.first q.first

      n : c.number ≡ d.number
      n = both.0

      go : (k : ℕ) → c.number ≡ k → c ≡ d
      go zero e =
          let (v, x, cw, co) = p.accepted e in
          let (w, y, dw, do') = q.accepted (sym n ∙ e) in
          let (W, u) = unique c.words d.words v w x y in
          same_call c d n both.1 W (cw ∙ ap length u ∙ sym dw) (co ∙ ap (λ l. l ++ drop (length l) out) u ∙ sym do')
      go (suc k) e =
          let (cW, cw, co) = p.refused (λ z. omega arith) in
          let (dW, dw, do') = q.refused (λ z. omega (arith, n)) in
          same_call c d n both.1 (cW ∙ sym dW) (cw ∙ sym dw) (co ∙ sym do')

  -- the answer that keeps the promise, and no other
  pub the_answer : (a : Answer Output) → One Right → Reads rs (Fitting Right out) a → (c : Call) → Promised rs Right out c ↔ (c ≡ call out a)
  the_answer a unique h c = (λ p. one_call c (call out a) unique p (keeps a h), λ e. rw e (keeps a h))

-- what is written leaves the output as long as it was
pub same_length : (rs : List Rule) (Right : ℕ → List ℕ → Type 0) (out : List ℕ) (a : Answer Output) → Reads rs (Fitting Right out) a → length (call out a).output ≡ length out
same_length rs Right out (refused n p) h = refl
same_length rs Right out (taken (W, w)) h = rw (length-append, length-drop) (omega (arith, h.1.1))

-- rule 1, then the call's own
pub lent_places : (room : ℕ) (rs : List Rule) (out : List ℕ) → OnePlace rs → OnePlace (Short room out ∷ rs)
lent_places room rs out o = (fixed 0, o)

pub lent_reads : (room : ℕ) (rs : List Rule) (Right : ℕ → List ℕ → Type 0) (out : List ℕ) (a : Answer Output) → (room ≤ length out → Reads rs (Fitting Right out) a)
    → Reads (Short room out ∷ rs) (Fitting Right out) (lent room out a)
lent_reads room rs Right out a h =
    check rs (Fitting Right out) 1 (length out < room) (◌≡ 0) (T (leb room (length out))) (demand (leb room (length out)) 1 0) a (lit< tt)
    (settled_demand 1 0 (length out < room) (leb room (length out)) (nleb→lt room (length out)) (λ k l. omega (arith, leb→le room (length out) k))) λ k.
    h (leb→le room (length out) k)

abbrev BankOf : ℕ → List ℕ → ℕ → List ℕ → Type 0
BankOf W t n w = (τ : Tag) × TagText t τ × Asks W τ.scheme n × (w ≡ bank_of n τ)

one_bank_of : (W : ℕ) (t : List ℕ) → One (BankOf W t)
one_bank_of W t m n v w (τ, r, a, x) (τ', r', a', y) =
    let e = Exact.one_division t τ τ' r r' in
    let k = one_asked W τ.scheme m n a (rw (← e) at a') in
    (k, x ∙ ap₂ bank_of k e ∙ sym y)

abbrev TextOf : List ℕ → ℕ → List ℕ → Type 0
TextOf b W w = (τ : Tag) × TagBank b W τ × (w ≡ text_of τ)

one_text_of : (b : List ℕ) → One (TextOf b)
one_text_of b m n v w (τ, r, x) (τ', r', y) = let (k, e) = Exact.one_tag b m n τ τ' r r' in (k, x ∙ ap text_of e ∙ sym y)

module _ (W : ℕ) (t out : List ℕ) where
  bank_written : Reads (Short bank_room out ∷ asked_rules W t) (Fitting (BankOf W t) out) (bank_answer W t out)
  bank_written =
      lent_reads bank_room (asked_rules W t) (BankOf W t) out _ λ l.
      reads_weaken (asked_rules W t) (Encoded W t) (Fitting (BankOf W t) out) (bank_of_text W t) (AskedWords.bank_reads W t) λ o r.
      ((r.tag, r.text, r.asks, r.bank), rw r.bank (omega (arith, bank_size_lem o.0 r.tag r.enough)))

  pub one_answer_of_text_to_bank : (c : Call) → TextToBank W t out c ↔ (c ≡ text_to_bank W t out)
  unfolding text_to_bank
  one_answer_of_text_to_bank =
      the_answer (Short bank_room out ∷ asked_rules W t) (lent_places bank_room (asked_rules W t) out (one_place_of_asked W t)) (BankOf W t) out (bank_answer W t out) (one_bank_of W t) bank_written

module _ (b out : List ℕ) (d : Digits 256 b) where
  text_written : Reads (Short text_room out ∷ bank_rules b) (Fitting (TextOf b) out) (text_answer b out)
  text_written =
      lent_reads text_room (bank_rules b) (TextOf b) out _ λ l.
      reads_map (bank_rules b) (Banks.Shown b) (Fitting (TextOf b) out) (λ τ. (word_count b, text_of τ)) (tag_of_bank b) (BankReads.bank_reads b) λ τ r.
      let s = Banks.shown_bank b τ d r in
      ((τ, s, refl), omega (arith, text_length (text_of τ) τ (record { fits = s.fits; text = refl })))

  pub one_answer_of_bank_to_text : (c : Call) → BankToText b out c ↔ (c ≡ bank_to_text b out)
  unfolding bank_to_text
  one_answer_of_bank_to_text =
      the_answer (Short text_room out ∷ bank_rules b) (lent_places text_room (bank_rules b) out (one_place_of_bank b)) (TextOf b) out (text_answer b out) (one_text_of b) text_written

abbrev RawOf : List ℕ → ℕ → List ℕ → Type 0
RawOf b W w = (W ≡ word_count b) × (w ≡ raw_text b)

module _ (b out : List ℕ) where
  raw_written : Reads (Short text_room out ∷ raw_rules b) (Fitting (RawOf b) out) (raw_answer b out)
  raw_written =
      lent_reads text_room (raw_rules b) (RawOf b) out _ λ l.
      reads_map (raw_rules b) _ (Fitting (RawOf b) out) (λ w. (word_count b, w)) (raw_of_bank b) (BankReads.raw_reads b) λ w r.
      ((refl, r.0), rw r.0 (omega (arith, raw_length b)))

  pub one_answer_of_raw_line : (c : Call) → RawLine b out c ↔ (c ≡ raw_line b out)
  unfolding raw_line
  one_answer_of_raw_line = the_answer (Short text_room out ∷ raw_rules b) (lent_places text_room (raw_rules b) out (one_place_of_raw b)) (RawOf b) out (raw_answer b out) (λ m n v w x y. (x.0 ∙ sym y.0, x.1 ∙ sym y.1)) raw_written

-- a call leaves the output as long as it was
pub same_lengths : (W : ℕ) (t b out : List ℕ) → Digits 256 b
    → (length (text_to_bank W t out).output ≡ length out) × (length (bank_to_text b out).output ≡ length out) × (length (raw_line b out).output ≡ length out)
unfolding text_to_bank bank_to_text raw_line
same_lengths W t b out d = (
  same_length (Short bank_room out ∷ asked_rules W t) (BankOf W t) out (bank_answer W t out) (bank_written W t out),
  same_length (Short text_room out ∷ bank_rules b) (TextOf b) out (text_answer b out) (text_written b out d),
  same_length (Short text_room out ∷ raw_rules b) (RawOf b) out (raw_answer b out) (raw_written b out),
)
