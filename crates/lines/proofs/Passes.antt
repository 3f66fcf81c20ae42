-- Line after line: what was read, what was written for it, and what is left.
use Prim.Native.Nat.{ℕ, ◌+◌, ◌-◌, ◌*◌, ◌≤◌, ◌<◌}
use mathlib.Core.Path.{◌≡◌, refl, sym, ap, ap₂, ◌∙◌}
use mathlib.Core.List.{List, [], ◌∷◌, ◌++◌, append_assoc, append-nil}
use native.Mathlib.Omega.{arith}
use lib.ListN.{length, take, drop, length-append, length-drop, take-append-drop}
use lib.Seq.{take_all, drop-drop, length-take-le}
use borrow.Rule.Slice.PartMut.{mid_len}
use Rattle.numeral.specs.Numeral.{splice}
use Rattle.numeral.proofs.Splices.{length_splice, take_splice, drop_splice, splice_front}
use Rattle.rules.specs.Bytes.{upto}
use Rattle.replies.specs.Programs.{reply_of}
use Rattle.replies.specs.Writing.{Wrote, reply_room}
use Rattle.replies.specs.declared.Program.{Program}
use Rattle.lines.specs.Lines.{feed, printed, output_of, input_room}
use Rattle.lines.specs.Turns.{whole}
use Rattle.replies.proofs.Pieces.{part, back, put_back}
use Rattle.replies.proofs.Programs.{reply_grows}
use Rattle.lines.proofs.Splits.{upto_unfed, no_output, none_ended, the_line, ended_is, output_is}

printed_long : (π : Program) (l : List ℕ) → length (printed π l) ≤ 4 * (length l + 1)
printed_long π l = rw (length-append (reply_of π l) (feed ∷ [])) (omega (arith, reply_grows π l))

-- the lines before `rest` are answered, up to the place `written`
pub record Passed (π : Program) (input rest out₀ out : List ℕ) (written : ℕ) : Type 0 where
  pub within : length rest ≤ length input
  pub few : written + 4 * length rest ≤ 4 * length input
  pub room : input_room input ≤ length out₀
  pub same : length out ≡ length out₀
  pub ended : length (whole input) + length rest ≡ length input + length (whole rest)
  pub done : output_of π (whole input) ≡ take written out ++ output_of π (whole rest)
  pub behind : drop written out ≡ drop written out₀

pub passed_none : (π : Program) (input out : List ℕ) → input_room input ≤ length out → Passed π input input out out 0
passed_none π input out h = record {
  within = omega arith;
  few = omega arith;
  room = h;
  same = refl;
  ended = omega arith;
  done = refl;
  behind = refl;
}

module _ (π : Program) (input rest out₀ out : List ℕ) (written : ℕ) (p : Passed π input rest out₀ out written) where
  pub has_room : reply_room ≤ length (part out written)
  has_room = omega (arith, mid_len written (length out) out (omega arith), p.few, p.room, p.same)

  -- no more lines have ended
  pub passed_all : upto feed rest ≡ rest → (length input - length rest ≡ length (whole input)) × Wrote (output_of π (whole input)) out₀ written out
  passed_all h =
      let none : whole rest ≡ [] = none_ended rest (rw h at (upto_unfed rest)) in
      let all : output_of π (whole input) ≡ take written out = p.done ∙ ap (λ w. take written out ++ output_of π w) none ∙ ap (take written out ++◌) (no_output π) ∙ append-nil (take written out) in
      let k : length (take written out) ≡ written = length-take-le written out (omega (arith, p.few, p.room, p.same)) in
      let n : length (output_of π (whole input)) ≡ written = ap length all ∙ k in (
        omega (arith, p.ended, p.within, ap length none),
        record {
          end = omega (arith, n);
          bytes = sym (splice_front out₀ (output_of π (whole input)) ∙ ap₂ (λ w m. w ++ drop m out₀) all n ∙ ap (take written out ++◌) (sym p.behind) ∙ take-append-drop written out);
        },
      )

  -- one more line was answered
  module _ (n : ℕ) (long : n ≡ length (upto feed rest)) (h : n < length rest) where
    pub passed_more : (k : ℕ) (e : List ℕ) → Wrote (printed π (take n rest)) (part out written) k e → Passed π input (part rest (n + 1)) out₀ (back out written e) (written + k)
    passed_more k e w =
        let l : List ℕ = upto feed rest in
        let x : List ℕ = printed π l in
        let same_line : take n rest ≡ l = the_line rest n long h in
        let m : k ≡ length x = omega (arith, w.end, ap (λ t. length (printed π t)) same_line) in
        let o : e ≡ x ++ drop (length x) (part out written) = w.bytes ∙ ap (λ t. splice (part out written) 0 (printed π t)) same_line ∙ splice_front (part out written) x in
        let few : length x ≤ 4 * (length l + 1) = printed_long π l in
        let inside : written + length x ≤ length out = omega (arith, p.few, p.room, p.same) in
        let b : back out written e ≡ splice out written x = put_back out e written x (omega arith) o in
        let f : written + k ≡ written + length x = omega arith in
        let d : length (drop (n + 1) rest) ≡ length rest - (n + 1) = length-drop (n + 1) rest in
        rw (take_all (length rest - (n + 1)) (drop (n + 1) rest) (omega arith)) (record {
          within = omega (arith, p.within);
          few = omega (arith, p.few);
          room = p.room;
          same = ap length b ∙ length_splice out written x inside ∙ p.same;
          ended = omega (arith, p.ended, ap length (ended_is rest n long h), length-append l (feed ∷ whole (drop (n + 1) rest)));
          done =
              p.done ∙ ap (take written out ++◌) (output_is rest n long h π) ∙ sym (append_assoc (take written out) x (output_of π (whole (drop (n + 1) rest))))
              ∙ ap (◌++ output_of π (whole (drop (n + 1) rest))) (sym (ap₂ take f b ∙ take_splice out written x (omega arith)));
          behind =
              ap₂ drop f b ∙ drop_splice out written x (omega arith) ∙ sym (drop-drop (length x) written out) ∙ ap (drop (length x)) p.behind ∙ drop-drop (length x) written out₀
              ∙ ap (λ m. drop m out₀) (sym f);
        })
