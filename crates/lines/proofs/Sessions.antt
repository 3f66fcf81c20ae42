-- An input in pieces: what is printed for them, one after the other, is what is printed for the whole. A line of more bytes than a line may
-- have is answered X whatever follows, so no more of it has to be kept.
use Prim.Native.Nat.{ℕ, zero, suc, ◌≤◌, ◌<◌}
use mathlib.Core.Path.{◌≡◌, refl, sym, ap, ◌∙◌}
use mathlib.Core.Logic.{◌⊎◌, ⊎_elim, inl, inr}
use mathlib.Core.List.{List, [], ◌∷◌, ◌++◌, append_assoc, append-nil}
use mathlib.Core.Bool.{Bool, true, false, not}
use native.Mathlib.Omega.{arith}
use lib.Dec.{eqb, eqb→eq}
use lib.ListN.{length, take, drop, length-append}
use lib.Seq.{take_all, drop-append_seam, length-take-le}
use Rattle.numeral.proofs.Arithmetic.{lt_or_ge}
use Rattle.rules.proofs.Runs.{without}
use Rattle.rules.proofs.Tests.{both, and}
use Rattle.replies.specs.Replies.{most_characters, reply_x}
use Rattle.replies.specs.declared.Program.{Program}
use Rattle.lines.specs.Lines.{feed, printed, output_of}
use Rattle.lines.specs.Turns.{whole, most_kept, end_reply, Turn, turn_of, session, input_of}
use Rattle.replies.proofs.Programs.{neither_kind}
use Rattle.lines.proofs.Splits.{Unfed, unfed_append, last_line, no_output, none_ended, first_output, first_ended}

unfed_take : (n : ℕ) (l : List ℕ) → Unfed l → Unfed (take n l)
unfed_take zero l h = tt
unfed_take (suc n) [] h = tt
unfed_take (suc n) (x ∷ l) h =
    let (p, q) = both (not (eqb feed x)) (without feed l) h in
    and (not (eqb feed x)) (without feed (take n l)) p (unfed_take n l q)

-- the first line that has ended, and what stands behind its line feed
abbrev Ended : List ℕ → Type 0
Ended t = (l : List ℕ) × (r : List ℕ) × Unfed l × (t ≡ l ++ feed ∷ r)

ended_or_not : (t : List ℕ) → Ended t ⊎ Unfed t
ended_or_not [] = inr tt
ended_or_not (x ∷ t) = go (eqb feed x) refl (ended_or_not t)
  where
    go : (b : Bool) → eqb feed x ≡ b → Ended t ⊎ Unfed t → Ended (x ∷ t) ⊎ Unfed (x ∷ t)
    go true e h = inl ([], t, tt, ap (◌∷ t) (sym (eqb→eq feed x (rw e tt))))
    go false e (inl (l, r, h, i)) = inl (x ∷ l, r, and (not (eqb feed x)) (without feed l) (rw e tt) h, ap (x ∷◌) i)
    go false e (inr h) = inr (and (not (eqb feed x)) (without feed t) (rw e tt) h)

-- the lines that have ended, and the bytes after them
record Halves (π : Program) (t : List ℕ) : Type 0 where
  rest : List ℕ
  parts : t ≡ whole t ++ rest
  unended : Unfed rest
  apart : (s : List ℕ) → output_of π (whole t ++ s) ≡ output_of π (whole t) ++ output_of π s

halves : (π : Program) (n : ℕ) (t : List ℕ) → length t < n → Halves π t
halves π zero t k = absurd (omega arith)
halves π (suc n) t k = go (λ r. halves π n r) (ended_or_not t)
  where
    go : ((r : List ℕ) → length r < n → Halves π r) → Ended t ⊎ Unfed t → Halves π t
    go f (inr h) = let e = none_ended t h in record {
      rest = t;
      parts = ap (◌++ t) (sym e);
      unended = h;
      apart = λ s. rw (e, no_output π);
    }
    go f (inl (l, r, h, e)) =
        let i : Halves π r = f r (omega (arith, ap length e, length-append l (feed ∷ r))) in
        let w : whole t ≡ l ++ feed ∷ whole r = ap whole e ∙ first_ended l r h in
        record {
          rest = i.rest;
          parts = e ∙ ap (λ x. l ++ feed ∷ x) i.parts ∙ sym (append_assoc l (feed ∷ whole r) i.rest) ∙ ap (◌++ i.rest) (sym w);
          unended = i.unended;
          apart = λ s.
              ap (λ x. output_of π (x ++ s)) w ∙ ap (output_of π) (append_assoc l (feed ∷ whole r) s) ∙ first_output l (whole r ++ s) h π ∙ ap (printed π l ++◌) (i.apart s)
              ∙ sym (append_assoc (printed π l) (output_of π (whole r)) (output_of π s)) ∙ ap (◌++ output_of π s) (sym (ap (output_of π) w ∙ first_output l (whole r) h π));
        }

long_line : (π : Program) (l : List ℕ) → most_characters < length l → printed π l ≡ reply_x ++ feed ∷ []
long_line π l h = ap (◌++ feed ∷ []) (neither_kind π l h)

long_last : (π : Program) (l : List ℕ) → most_characters < length l → end_reply π l ≡ printed π l
long_last π [] h = absurd (omega arith)
long_last π (x ∷ l) h = refl

-- two lines that have not ended, both long: whatever follows, the same is printed
module _ (π : Program) (a b : List ℕ) (h : Unfed a) (k : Unfed b) (m : most_characters < length a) (n : most_characters < length b) where
  longer : (x y : List ℕ) → most_characters < length x → most_characters < length (x ++ y)
  longer x y l = omega (arith, length-append x y)

  both_long : (s : List ℕ) → output_of π (a ++ s) ≡ output_of π (b ++ s)
  both_long s = go (ended_or_not s)
    where
      go : Ended s ⊎ Unfed s → output_of π (a ++ s) ≡ output_of π (b ++ s)
      go (inl (l, r, u, e)) =
          let first : (x : List ℕ) → Unfed x → most_characters < length x → output_of π (x ++ s) ≡ (reply_x ++ feed ∷ []) ++ output_of π r = λ x v w.
          ap (λ t. output_of π (x ++ t)) e ∙ ap (output_of π) (sym (append_assoc x l (feed ∷ r))) ∙ first_output (x ++ l) r (unfed_append x l v u) π
          ∙ ap (◌++ output_of π r) (long_line π (x ++ l) (longer x l w)) in
          first a h m ∙ sym (first b k n)
      go (inr u) =
          let last : (x : List ℕ) → Unfed x → most_characters < length x → output_of π (x ++ s) ≡ reply_x ++ feed ∷ [] = λ x v w.
          last_line π (x ++ s) (unfed_append x s v u) ∙ long_last π (x ++ s) (longer x s w) ∙ long_line π (x ++ s) (longer x s w) in
          last a h m ∙ sym (last b k n)

-- so many bytes of a line that has not ended do for all of it
enough : (π : Program) (u s : List ℕ) → Unfed u → output_of π (take most_kept u ++ s) ≡ output_of π (u ++ s)
enough π u s h =
    ⊎_elim
    (λ (l : most_kept < length u). both_long π (take most_kept u) u (unfed_take most_kept u h) h (omega (arith, length-take-le most_kept u (omega arith))) (omega arith) s)
    (λ (l : length u ≤ most_kept). ap (λ x. output_of π (x ++ s)) (take_all most_kept u l))
    (lt_or_ge most_kept (length u))

-- a session that has ended, and what it has printed
abbrev ended : List ℕ → Turn
ended w = record { prints = w; keeps = []; ends = true }

-- the last turn
ends : (π : Program) (u : List ℕ) → Unfed u → turn_of π (take most_kept u) [] ≡ ended (output_of π (u ++ []))
ends π u h = ap ended (sym (last_line π (take most_kept u) (unfed_take most_kept u h)) ∙ ap (output_of π) (sym (append-nil (take most_kept u))) ∙ enough π u [] h)

goes_on : (π : Program) (reads : List (List ℕ)) (u : List ℕ) → Unfed u → session π (take most_kept u) (reads ++ ([] ∷ [])) ≡ ended (output_of π (u ++ input_of reads))
goes_on π [] u h = ends π u h
goes_on π ([] ∷ reads) u h = ends π u h
goes_on π ((x ∷ read) ∷ reads) u h =
    let p : List ℕ = x ∷ read in
    let input : List ℕ = take most_kept u ++ p in
    let more : List ℕ = input_of reads in
    let i : Halves π input = halves π (suc (length input)) input (omega arith) in
    let left : drop (length (whole input)) input ≡ i.rest = ap (drop (length (whole input))) i.parts ∙ drop-append_seam (whole input) i.rest in
    let all : output_of π (whole input) ++ output_of π (i.rest ++ more) ≡ output_of π (u ++ (p ++ more)) =
    sym (i.apart (i.rest ++ more)) ∙ ap (output_of π) (sym (append_assoc (whole input) i.rest more) ∙ ap (◌++ more) (sym i.parts) ∙ append_assoc (take most_kept u) p more)
    ∙ enough π u (p ++ more) h in
    ap (λ r. behind (output_of π (whole input)) (session π (take most_kept r) (reads ++ ([] ∷ [])))) left ∙ ap (behind (output_of π (whole input))) (goes_on π reads i.rest i.unended)
    ∙ ap ended all
  where
    behind : List ℕ → Turn → Turn
    behind w s = record { prints = w ++ s.prints; keeps = s.keeps; ends = s.ends }

-- However an input is read, in pieces of any sizes: at its end the replies to all its lines are printed, and nothing is kept.
pub in_pieces : (π : Program) (reads : List (List ℕ)) → session π [] (reads ++ ([] ∷ [])) ≡ record { prints = output_of π (input_of reads); keeps = []; ends = true }
in_pieces π reads = goes_on π reads [] tt

-- one more read
pub one_more : (π : Program) (reads : List (List ℕ)) (rest last : List ℕ) → (session π rest reads).ends ≡ false
    → let t = turn_of π (session π rest reads).keeps last in
    let s = session π rest (reads ++ (last ∷ [])) in
    (s.keeps ≡ t.keeps) × (s.ends ≡ t.ends)
one_more π [] rest [] h = (refl, refl)
one_more π [] rest (x ∷ last) h = (refl, refl)
one_more π ([] ∷ reads) rest last h = let z : ◌≡◌ {A = ℕ} 0 1 = cc in absurd (omega arith)
one_more π ((x ∷ read) ∷ reads) rest last h = one_more π reads (turn_of π rest (x ∷ read)).keeps last h
