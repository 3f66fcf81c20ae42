-- What is written for a bank: its text or its raw line in a part of the output, and then what stands before it.
use Prim.Native.Nat.{ℕ, ◌+◌, ◌≤◌}
use Prim.Native.Char.{code}
use mathlib.Core.Path.{◌≡◌}
use mathlib.Core.List.{List, ◌∷◌}
use native.Mathlib.Omega.{arith}
use lib.ListN.{length, take, drop, set, length-append}
use borrow.Rule.Slice.PartMut.{mid_len}
use Rattle.rules.specs.Grammar.{text_of}
use Rattle.rules.specs.BankNumbers.{tag_of_bank}
use Rattle.rules.specs.Raw.{raw_text}
use Rattle.rules.specs.Calls.{text_room, bank_to_text, raw_line}
use Rattle.rules.proofs.Lengths.{raw_length}
use Rattle.replies.specs.Replies.{space, decimal, of_bank, RefusedWith}
use Rattle.replies.specs.Writing.{Wrote, after_number, reply_room}
use Rattle.replies.proofs.Answered.{accepts, rejects, text_written, bank_refused, raw_written, raw_refused}
use Rattle.replies.proofs.Pieces.{part, back, put_back, put_nothing, wrote_before, raw_behind, decimal_long}
use Rattle.replies.proofs.Refusals.{shown_number, hidden_number, with_raw, without_raw, two_digits_lem}

module _ (b l e : List ℕ) (k : ℕ) (long : reply_room ≤ length l) where
  room : (p : ℕ) → p ≤ after_number → text_room ≤ length (part l p)
  room p h = omega (arith, mid_len p (length l) l (omega arith))

  pub text_shown : (W : ℕ) → accepts k W e ≡ bank_to_text b (part l 2)
      → (2 + k ≤ length l) × ((m : ℕ) (out' : List ℕ) → Wrote (code "T" ∷ space ∷ take k (drop 2 (back l 2 e))) (back l 2 e) m out' → Wrote (of_bank b (tag_of_bank b)) l m out')
  text_shown W h =
      let (τ, a, u, (c, o)) = text_written b (part l 2) e k (room 2 (omega arith)) W h in
      (omega arith, λ m out' w. rw a (wrote_before l (back l 2 e) (text_of τ) out' (code "T") k m (omega arith) (put_back l e 2 (text_of τ) (omega arith) o) c w))

  pub text_hidden : (i : ℕ) → rejects k i e ≡ bank_to_text b (part l 2) → RefusedWith b k × (back l 2 e ≡ l)
  text_hidden i h = let (a, o) = bank_refused b (part l 2) e k (room 2 (omega arith)) i h in ((i, a), put_nothing l e 2 o)

  module _ (n at : ℕ) (after : List ℕ) (refusal : RefusedWith b n) where
    pub raw_shown : (W : ℕ) → accepts k W e ≡ raw_line b (part l after_number) → Wrote (code "R" ∷ space ∷ decimal n) (back l after_number e) at after
        → (k ≤ 145) × (at ≡ 4) × Wrote (of_bank b (tag_of_bank b)) l (k + after_number) (set after at space)
    raw_shown W h w =
        let (a, (c, o)) = raw_written b (part l after_number) e k (room after_number (omega arith)) W h in
        let (p, q) = shown_number b n refusal a in
        let two = two_digits_lem n p q in
        let d = decimal_long n in
        let u = raw_length b in (
          omega arith,
          omega (arith, w.end),
          rw (refusal.1, with_raw b n p q) (record {
            end = simp length-append (omega arith);
            bytes = raw_behind l (back l after_number e) after (raw_text b) n at (omega arith) two (put_back l e after_number (raw_text b) (omega arith) o) w;
          }),
        )

    pub raw_hidden : (i : ℕ) → rejects k i e ≡ raw_line b (part l after_number) → Wrote (code "N" ∷ space ∷ decimal n) (back l after_number e) at after → Wrote (of_bank b (tag_of_bank b)) l at after
    raw_hidden i h w =
        let (a, o) = raw_refused b (part l after_number) e k (room after_number (omega arith)) i h in
        let (p, q) = hidden_number b n refusal k i a in
        rw (refusal.1, without_raw b n p q) (rw (put_nothing l e after_number o) at w)
