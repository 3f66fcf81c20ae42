-- What a call's answer says of the reading, where the output that was lent has room.
use Prim.Native.Nat.{ℕ, ◌≤◌, ◌<◌}
use mathlib.Core.Path.{◌≡◌, refl, sym, ap, ◌∙◌}
use mathlib.Core.List.{List, ◌++◌}
use native.Mathlib.Omega.{arith}
use lib.ListN.{length, take, drop}
use lib.Seq.{take_at}
use borrow.Author.Tests.{le-leb}
use Rattle.rules.specs.Answers.{Answer, refused, taken, ◌>>=◌}
use Rattle.rules.specs.Conditions.{Rule, text_rules, bank_rules, raw_rules}
use Rattle.rules.specs.Schemes.{words}
use Rattle.rules.specs.Grammar.{Tag, TagText, text_of}
use Rattle.rules.specs.Coding.{bank_of, word_count, bank_size}
use Rattle.rules.specs.TextNumbers.{tag_of_text}
use Rattle.rules.specs.BankNumbers.{tag_of_bank}
use Rattle.rules.specs.Raw.{raw_text, raw_of_bank}
use Rattle.rules.specs.Calls.{Call, Output, call, lent, bank_room, text_room, bank_of_text, text_to_bank, bank_to_text, raw_line}
use Rattle.rules.proofs.Answers.{Reads}
use Rattle.rules.proofs.Banks.{Shown, bank_length}
use Rattle.rules.proofs.BankReads.{bank_reads, raw_reads}
use Rattle.rules.proofs.TextReads.{tag_reads}
use Rattle.rules.proofs.Codes.{sizes}
use Rattle.rules.proofs.Lengths.{text_length}
use Rattle.codec.proofs.OneAnswer.{text_full, bank_full}
use Rattle.replies.specs.Replies.{reply_b, reply_n, of_text}

-- what a call gives that accepts, with n bytes written and a W; and one that refuses, with a number and a place
abbrev pub accepts : ℕ → ℕ → List ℕ → Call
accepts n W e = record { number = 0; place = 0; words = W; written = n; output = e }

abbrev pub rejects : ℕ → ℕ → List ℕ → Call
rejects n p e = record { number = n; place = p; words = 0; written = 0; output = e }

-- no refusal has number 0, and nothing that is taken is empty
abbrev Firm : Answer Output → Type 0
Firm (refused n p) = 0 < n
Firm (taken (W, w)) = 0 < length w

-- what stands at an output's start, and behind it what was there before
abbrev pub Stands : List ℕ → List ℕ → ℕ → List ℕ → Type 0
Stands w out n e = (n ≡ length w) × (e ≡ w ++ drop (length w) out)

module _ (room : ℕ) (out : List ℕ) (a : Answer Output) (n : ℕ) (e : List ℕ) (firm : Firm a) (l : room ≤ length out) where
  was_written : (W : ℕ) → accepts n W e ≡ call out (lent room out a) → (o : Output) × (a ≡ taken o) × Stands o.1 out n e
  was_written W h = go a firm (rw (le-leb room (length out) l) at h)
    where
      go : (b : Answer Output) → Firm b → accepts n W e ≡ call out b → (o : Output) × (b ≡ taken o) × Stands o.1 out n e
      go (refused m p) f h = absurd (omega (arith, ap (λ c. c.number) h))
      go (taken (W', w)) f h = ((W', w), refl, (ap (λ c. c.written) h, ap (λ c. c.output) h))

  was_refused : (p : ℕ) → rejects n p e ≡ call out (lent room out a) → (a ≡ refused n p) × (e ≡ out)
  was_refused p h = go a firm (rw (le-leb room (length out) l) at h)
    where
      go : (b : Answer Output) → Firm b → rejects n p e ≡ call out b → (b ≡ refused n p) × (e ≡ out)
      go (refused m q) f h = (ap (λ c. refused c.number c.place) (sym h), ap (λ c. c.output) h)
      go (taken (W, w)) f h = absurd (omega (arith, ap (λ c. c.written) h))

-- What is read, and then written in another form.
module _ {X : Type 0} (form : X → Output) where
  then_written : Answer X → Answer Output
  then_written a = a >>= λ x. taken (form x)

  firm : (rs : List Rule) (Right : X → Type 0) (a : Answer X) → Reads rs Right a → ((x : X) → Right x → 0 < length (form x).1) → Firm (then_written a)
  unfolding then_written
  firm rs Right (refused n p) h full = h.1
  firm rs Right (taken x) h full = full x h.1

  was_taken : (a : Answer X) (o : Output) → then_written a ≡ taken o → (x : X) × (a ≡ taken x) × ((form x).1 ≡ o.1)
  unfolding then_written
  was_taken (refused n p) o e = let z : ◌≡◌ {A = ℕ} 0 1 = cc in absurd (omega arith)
  was_taken (taken x) o e = let f : form x ≡ o = cc in (x, refl, ap (λ o. o.1) f)

  not_taken : (a : Answer X) (n p : ℕ) → then_written a ≡ refused n p → a ≡ refused n p
  unfolding then_written
  not_taken (refused m q) n p e = let f : m ≡ n = cc in let g : q ≡ p = cc in rw (f, g)
  not_taken (taken x) n p e = let z : ◌≡◌ {A = ℕ} 0 1 = cc in absurd (omega arith)

-- the smallest bank of a tag, and its text beside the W of a bank
smallest : Tag → Output
smallest τ = (words τ.scheme, bank_of (words τ.scheme) τ)

-- 0 asks for the smallest, and is not refused
asked_0 : (t : List ℕ) → bank_of_text 0 t ≡ then_written smallest (tag_of_text t)
unfolding bank_of_text smallest then_written
asked_0 t = refl

module _ (t out e : List ℕ) (n : ℕ) (l : bank_room ≤ length out) where
  smallest_firm : Firm (then_written smallest (tag_of_text t))
  unfolding smallest
  smallest_firm = firm smallest (text_rules t) (TagText t) (tag_of_text t) (tag_reads t) λ τ _. bank_full (words τ.scheme) τ

  in_words : (c : Call) → c ≡ text_to_bank 0 t out → c ≡ call out (lent bank_room out (then_written smallest (tag_of_text t)))
  unfolding text_to_bank
  in_words c h = h ∙ ap (λ a. call out (lent bank_room out a)) (asked_0 t)

  -- the bank stands at the output's start
  pub bank_written : (W : ℕ) → accepts n W e ≡ text_to_bank 0 t out → (n ≤ bank_room) × (n ≡ length (take n e)) × (of_text (tag_of_text t) ≡ reply_b (take n e))
  unfolding smallest
  bank_written W h =
      let (o, a, (c, i)) = was_written bank_room out (then_written smallest (tag_of_text t)) n e smallest_firm l W (in_words _ h) in
      let w = o.1 in
      let (τ, k, f) = was_taken smallest (tag_of_text t) o a in
      let p : take n e ≡ w = ap (take n) i ∙ take_at w (drop (length w) out) n (sym c) in
      (omega (arith, c, ap length f, bank_length (words τ.scheme) τ, (sizes τ.scheme).few_words), c ∙ ap length (sym p), ap of_text k ∙ ap reply_b (f ∙ sym p))

  pub text_refused : (p : ℕ) → rejects n p e ≡ text_to_bank 0 t out → of_text (tag_of_text t) ≡ reply_n n
  text_refused p h =
      let (a, _) = was_refused bank_room out (then_written smallest (tag_of_text t)) n e smallest_firm l p (in_words _ h) in
      ap of_text (not_taken smallest (tag_of_text t) n p a)

-- A text is written for what is read: it stands at the output's start. A refusal leaves the output as it was.
module _ {X : Type 0} (rs : List Rule) (Right : X → Type 0) (a : Answer X) (reads : Reads rs Right a) (W : ℕ) (text : X → List ℕ) (full : (x : X) → Right x → 0 < length (text x)) where
  with_text : X → Output
  with_text x = (W, text x)

  with_text_firm : Firm (then_written with_text a)
  unfolding with_text
  with_text_firm = firm with_text rs Right a reads full

  module _ (out e : List ℕ) (n : ℕ) (l : text_room ≤ length out) where
    abbrev the_call : Call
    the_call = call out (lent text_room out (a >>= λ x. taken (W, text x)))

    pub shows : (m : ℕ) → accepts n m e ≡ the_call → (x : X) × (a ≡ taken x) × Right x × Stands (text x) out n e
    unfolding with_text then_written
    shows m h =
        let (o, r, (c, i)) = was_written text_room out (then_written with_text a) n e with_text_firm l m h in
        let (x, k, f) = was_taken with_text a o r in
        (x, k, (rw k at reads).1, (c ∙ ap length (sym f), i ∙ ap (λ w. w ++ drop (length w) out) (sym f)))

    pub refuses : (p : ℕ) → rejects n p e ≡ the_call → (a ≡ refused n p) × (e ≡ out)
    unfolding with_text then_written
    refuses p h =
        let (r, o) = was_refused text_room out (then_written with_text a) n e with_text_firm l p h in
        (not_taken with_text a n p r, o)

module _ (b out e : List ℕ) (n : ℕ) (l : text_room ≤ length out) where
  pub text_written : (W : ℕ) → accepts n W e ≡ bank_to_text b out
      → (τ : Tag) × (tag_of_bank b ≡ taken τ) × (n ≤ 116) × Stands (text_of τ) out n e
  unfolding bank_to_text
  text_written W h =
      let (τ, k, r, s) = shows (bank_rules b) (Shown b) (tag_of_bank b) (bank_reads b) (word_count b) text_of (λ τ _. text_full τ) out e n l W h in
      (τ, k, omega (arith, s.0, text_length (text_of τ) τ (record { fits = r.fits; text = refl })), s)

  pub bank_refused : (p : ℕ) → rejects n p e ≡ bank_to_text b out → (tag_of_bank b ≡ refused n p) × (e ≡ out)
  unfolding bank_to_text
  bank_refused p h = refuses (bank_rules b) (Shown b) (tag_of_bank b) (bank_reads b) (word_count b) text_of (λ τ _. text_full τ) out e n l p h

  abbrev IsRaw : List ℕ → Type 0
  IsRaw w = (w ≡ raw_text b) × (2 ≤ length b) × (bank_size (word_count b) ≤ length b)

  raw_full : (w : List ℕ) → IsRaw w → 0 < length w
  unfolding raw_text
  raw_full w r = rw r.0 (omega arith)

  pub raw_written : (W : ℕ) → accepts n W e ≡ raw_line b out → (raw_of_bank b ≡ taken (raw_text b)) × Stands (raw_text b) out n e
  unfolding raw_line
  raw_written W h =
      let (w, k, r, s) = shows (raw_rules b) IsRaw (raw_of_bank b) (raw_reads b) (word_count b) (λ w. w) raw_full out e n l W h in
      let f : w ≡ raw_text b = r.0 in
      (k ∙ ap taken f, rw f at s)

  pub raw_refused : (p : ℕ) → rejects n p e ≡ raw_line b out → (raw_of_bank b ≡ refused n p) × (e ≡ out)
  unfolding raw_line
  raw_refused p h = refuses (raw_rules b) IsRaw (raw_of_bank b) (raw_reads b) (word_count b) (λ w. w) raw_full out e n l p h
