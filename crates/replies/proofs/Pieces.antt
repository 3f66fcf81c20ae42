-- What is written piece after piece, from an output's start on.
use Prim.Native.Nat.{ℕ, ◌+◌, ◌-◌, ◌≤◌, ◌<◌}
use Prim.Native.Char.{code}
use mathlib.Core.Path.{◌≡◌, refl, sym, ap, ◌∙◌}
use mathlib.Core.List.{List, [], ◌∷◌, ◌++◌, append_assoc, append-nil}
use native.Mathlib.Omega.{arith}
use lib.Dec.{lit<}
use lib.ListN.{length, take, drop, set, length-append, length-take, length-drop, take-append-drop, drop_of_length-le}
use lib.Seq.{take_all, take-append_seam, drop-append-le, drop-drop, append_snoc}
use borrow.Rule.Slice.PartMut.{mid_of, post_of, put_mid, put_same}
use Rattle.numeral.specs.Numeral.{splice, size, shortest}
use Rattle.numeral.proofs.Shortest.{length_shortest, size_le}
use Rattle.numeral.proofs.Splices.{splice_one, splice_snoc, splice_after, splice_nil, read_splice, drop_to_splice, length_splice, splice_front}
use Rattle.digits.proofs.Texts.{length_text}
use Rattle.replies.specs.Replies.{space, decimal, reply_r}
use Rattle.replies.specs.Writing.{Wrote, after_number}

-- a number's digits
module _ (n : ℕ) where
  pub decimal_long : length (decimal n) ≡ size 10 n
  decimal_long = length_text (shortest 10 n) ∙ length_shortest 10 (lit< tt) n

  pub few_digits : n < 256 → size 10 n ≤ 3
  few_digits h = size_le 10 (lit< tt) n 3 (lit< tt) (omega arith)

pub two_bytes : (l : List ℕ) (a b : ℕ) → 2 ≤ length l → set (set l 0 a) 1 b ≡ splice l 0 (a ∷ b ∷ [])
two_bytes l a b h = rw (← splice_one l 0 a (omega arith)) (splice_snoc l 0 (a ∷ []) b 1 refl (omega arith))

-- two bytes, and a piece behind them
pub lettered : (l : List ℕ) (a b : ℕ) (x : List ℕ) → 2 ≤ length l → splice (set (set l 0 a) 1 b) 2 x ≡ splice l 0 (a ∷ b ∷ x)
lettered l a b x h = rw (two_bytes l a b h) (splice_after l 0 (a ∷ b ∷ []) x 2 (omega arith) refl)

-- a piece, and then what stands before it
pub before_piece : (l : List ℕ) (p : ℕ) (a x : List ℕ) → length a ≡ p → p ≤ length l → splice (splice l p x) 0 a ≡ splice l 0 (a ++ x)
before_piece l p a x e h =
    rw (splice_front (splice l p x) a, splice_front l (a ++ x), e, drop_to_splice l p x h, append_assoc a x, length-append a x, e)

-- the part of an output from a place on, as it is lent, and as it is back
abbrev pub part : List ℕ → ℕ → List ℕ
part l p = mid_of p (length l - p) l

abbrev pub back : List ℕ → ℕ → List ℕ → List ℕ
back l p e = put_mid p (length l - p) l e

-- w is written at its start, or nothing
module _ (l e : List ℕ) (p : ℕ) where
  pub put_back : (w : List ℕ) → p ≤ length l → e ≡ w ++ drop (length w) (part l p) → back l p e ≡ splice l p w
  unfolding splice
  put_back w h i =
      let m : part l p ≡ drop p l = take_all (length l - p) (drop p l) (simp length-drop (omega arith)) in
      let k : length (drop p l) ≤ length l - p = simp length-drop (omega arith) in
      let z : post_of p (length l - p) l ≡ [] = drop_of_length-le (drop p l) k in
      rw (z, append-nil, i, m, drop-drop, append_assoc)

  pub put_nothing : e ≡ part l p → back l p e ≡ l
  put_nothing i = rw i (put_same p (length l - p) l)

-- what is put before a piece: two bytes, or a letter with two digits and a space
pub text_behind : (l l₁ x : List ℕ) (a : ℕ) → 2 + length x ≤ length l → l₁ ≡ splice l 2 x → set (set l₁ 0 a) 1 space ≡ splice l 0 (a ∷ space ∷ x)
text_behind l l₁ x a h i =
    two_bytes l₁ a space (rw (i, length_splice l 2 x h) (omega arith)) ∙ rw i (before_piece l 2 (a ∷ space ∷ []) x refl (omega arith))

-- the same of a text that stands there already, and the reply with it
again : (l : List ℕ) (p n : ℕ) → p + n ≤ length l → splice l p (take n (drop p l)) ≡ l
unfolding splice
again l p n h =
    let k : length (take n (drop p l)) ≡ n = omega (arith, length-take n (drop p l), length-drop p l) in
    rw (k, append_assoc, ← drop-drop n p l, take-append-drop n (drop p l), take-append-drop p l)

pub before_behind : (l : List ℕ) (a n : ℕ) → 2 + n ≤ length l → set (set l 0 a) 1 space ≡ splice l 0 (a ∷ space ∷ take n (drop 2 l))
before_behind l a n h = text_behind l l (take n (drop 2 l)) a (omega (arith, length-take n (drop 2 l), length-drop 2 l)) (sym (again l 2 n h))

pub wrote_before : (l l₁ x out' : List ℕ) (a n r : ℕ) → 2 + length x ≤ length l → l₁ ≡ splice l 2 x → n ≡ length x → Wrote (a ∷ space ∷ take n (drop 2 l₁)) l₁ r out'
    → Wrote (a ∷ space ∷ x) l r out'
wrote_before l l₁ x out' a n r h i e w =
    let same : take n (drop 2 l₁) ≡ x = rw (e, i) (read_splice l 2 x (omega arith)) in
    let long : length l₁ ≡ length l = ap length i ∙ length_splice l 2 x h in
    record {
      end = omega (arith, w.end, ap length same);
      bytes = w.bytes ∙ sym (before_behind l₁ a n (omega arith)) ∙ text_behind l l₁ x a h i;
    }

pub raw_behind : (l l₁ l₂ x : List ℕ) (n at : ℕ) → after_number + length x ≤ length l → size 10 n ≡ 2 → l₁ ≡ splice l after_number x → Wrote (code "R" ∷ space ∷ decimal n) l₁ at l₂
    → set l₂ at space ≡ splice l 0 (reply_r n x)
raw_behind l l₁ l₂ x n at h two i w =
    let d : length (decimal n) ≡ 2 = decimal_long n ∙ two in
    let a : List ℕ = code "R" ∷ space ∷ decimal n in
    let k : length l₁ ≡ length l = ap length i ∙ length_splice l after_number x h in
    let f : length (a ++ (space ∷ [])) ≡ after_number = simp length-append (omega arith) in
    ap (λ z. set z at space) w.bytes
    ∙ splice_snoc l₁ 0 a space at (omega (arith, w.end)) (omega (arith, w.end))
    ∙ ap (λ z. splice z 0 (a ++ (space ∷ []))) i
    ∙ before_piece l after_number (a ++ (space ∷ [])) x f (omega arith)
    ∙ ap (splice l 0) (append_snoc a space x)

-- no second length and output keep what `Wrote` says
pub one_writing : (w l : List ℕ) (n m : ℕ) (e f : List ℕ) → Wrote w l n e → Wrote w l m f → (n ≡ m) × (e ≡ f)
one_writing w l n m e f x y = (x.end ∙ sym y.end, x.bytes ∙ sym y.bytes)

-- nothing is written
pub wrote_nothing : (l : List ℕ) → Wrote [] l 0 l
wrote_nothing l = record { end = refl; bytes = sym (splice_nil l 0) }

-- what is written is no longer than the output
pub wrote_within : (w l after : List ℕ) (n : ℕ) → Wrote w l n after → length after ≡ length l → n ≤ length after
wrote_within w l after n h e =
    let k = ap length (h.bytes ∙ splice_front l w) in
    omega (arith, h.end, k, length-append w (drop (length w) l), length-drop (length w) l)

-- and stands at its start
pub wrote_begins : (w l after : List ℕ) (n : ℕ) → Wrote w l n after → take (length w) after ≡ w
wrote_begins w l after n h = ap (take (length w)) (h.bytes ∙ splice_front l w) ∙ take-append_seam w (drop (length w) l)

-- what is written into an output's first m bytes is written into the output
pub wrote_part : (w l after : List ℕ) (m n : ℕ) → Wrote w (take m l) n after → length after ≡ length (take m l) → Wrote w l n (after ++ drop m l)
wrote_part w l after m n h e =
    let inside : length w ≤ length (take m l) = omega (arith, h.end, wrote_within w (take m l) after n h e) in
    record {
      end = h.end;
      bytes =
          ap (◌++ drop m l) (h.bytes ∙ splice_front (take m l) w) ∙ append_assoc w (drop (length w) (take m l)) (drop m l)
          ∙ ap (w ++◌) (sym (drop-append-le (length w) (take m l) (drop m l) inside) ∙ ap (drop (length w)) (take-append-drop m l)) ∙ sym (splice_front l w);
    }
