-- `splice`: one piece written after the other, and in another base.
use mathlib.Core.Path.{◌≡◌, refl, sym, ◌∙◌}
use Prim.Native.Nat.{ℕ, suc, ◌+◌, ◌*◌, ◌^◌, ◌≤◌, ◌<◌}
use native.Mathlib.Nat.{add-zero, zero-add, add_assoc, mul-add}
use native.Mathlib.Numerals.{add-one}
use native.Mathlib.Omega.{arith}
use mathlib.Core.List.{List, [], ◌∷◌, ◌++◌, append_assoc, append-nil}
use lib.ListN.{length, take, drop, set, length-append, length-take, length-drop, take-append-drop}
use lib.Seq.{take_at, drop_at, drop-append-add, drop-drop, length-take-le, set_split, append_snoc, take-append_seam, take-set-le}
use Rattle.numeral.specs.Numeral.{Digits, spread, gather, splice}
use Rattle.numeral.proofs.Values.{digits_append, digits_take, digits_drop}
use Rattle.numeral.proofs.Spreads.{length_spread, spread_append, drop_spread, take_spread, spread_inj, length_gather, digits_gather, spread_gather}

pub length_splice : (s : List ℕ) (p : ℕ) (x : List ℕ) → p + length x ≤ length s → length (splice s p x) ≡ length s
unfolding splice
length_splice s p x h = simp (length-append, length-take, length-drop) (omega arith)

pub splice_nil : (s : List ℕ) (p : ℕ) → splice s p [] ≡ s
unfolding splice
splice_nil s p = rw (add-zero, append-nil, take-append-drop)

pub take_splice : (s : List ℕ) (p : ℕ) (x : List ℕ) → p ≤ length s → take (p + length x) (splice s p x) ≡ take p s ++ x
unfolding splice
take_splice s p x h = take_at (take p s ++ x) (drop (p + length x) s) (p + length x) (simp (length-append, length-take) (omega arith))

pub drop_splice : (s : List ℕ) (p : ℕ) (x : List ℕ) → p ≤ length s → drop (p + length x) (splice s p x) ≡ drop (p + length x) s
unfolding splice
drop_splice s p x h = drop_at (take p s ++ x) (drop (p + length x) s) (p + length x) (simp (length-append, length-take) (omega arith))

pub drop_to_splice : (s : List ℕ) (p : ℕ) (x : List ℕ) → p ≤ length s → drop p (splice s p x) ≡ x ++ drop (p + length x) s
unfolding splice
drop_to_splice s p x h = rw append_assoc (drop_at (take p s) (x ++ drop (p + length x) s) p (length-take-le p s h))

-- what was written is read back
pub read_splice : (s : List ℕ) (p : ℕ) (x : List ℕ) → p ≤ length s → take (length x) (drop p (splice s p x)) ≡ x
read_splice s p x h = rw (drop_to_splice s p x h) (take_at x (drop (p + length x) s) (length x) refl)

-- a part replaced by one of its length
pub splice_at : (a m x z : List ℕ) (p : ℕ) → length a ≡ p → length m ≡ length x → splice (a ++ (m ++ z)) p x ≡ a ++ (x ++ z)
unfolding splice
splice_at a m x z p e f =
    rw (← e, take-append_seam a (m ++ z), drop-append-add a (m ++ z) (length x), drop_at m z (length x) f, append_assoc)

pub splice_one : (s : List ℕ) (p x : ℕ) → p < length s → splice s p (x ∷ []) ≡ set s p x
unfolding splice
splice_one s p x h = rw (set_split s p x h, add-one, append_snoc)

-- the next piece, written where the last one ends
pub splice_splice : (s : List ℕ) (p : ℕ) (x y : List ℕ) → p ≤ length s → splice (splice s p x) (p + length x) y ≡ splice s p (x ++ y)
unfolding splice
splice_splice s p x y h =
    rw (take_splice s p x h, ← drop-drop (length y) (p + length x), drop_splice s p x h, drop-drop, length-append, add_assoc, append_assoc (take p s) x y)

-- the same, at a place that is written otherwise
pub splice_after : (s : List ℕ) (p : ℕ) (x y : List ℕ) (q : ℕ) → p ≤ length s → p + length x ≡ q → splice (splice s p x) q y ≡ splice s p (x ++ y)
splice_after s p x y q h e = rw (← e) (splice_splice s p x y h)

-- one more element, stored where the last piece ends
pub splice_snoc : (s : List ℕ) (p : ℕ) (x : List ℕ) (a q : ℕ) → p + length x ≡ q → q < length s → set (splice s p x) q a ≡ splice s p (x ++ (a ∷ []))
splice_snoc s p x a q e h =
    let l : length (splice s p x) ≡ length s = length_splice s p x (omega arith) in
    sym (splice_one (splice s p x) q a (omega arith)) ∙ splice_after s p x (a ∷ []) q (omega arith) e

-- an element stored first, and the piece that ends before it afterwards
pub splice_behind : (s : List ℕ) (p : ℕ) (x : List ℕ) (a q : ℕ) → p + length x ≡ q → q < length s → splice (set s q a) p x ≡ splice s p (x ++ (a ∷ []))
unfolding splice
splice_behind s p x a q e h =
    let rest : drop q (set s q a) ≡ a ∷ drop (suc q) s = rw (set_split s q a h) (drop_at (take q s) (a ∷ drop (suc q) s) q (length-take-le q s (omega arith))) in
    let l : p + length (x ++ (a ∷ [])) ≡ suc q = simp length-append (omega arith) in
    rw (take-set-le p s q a (omega arith), e, rest, l) (simp append_assoc)

-- whole digits replaced
pub spread_splice : (b n : ℕ) (s : List ℕ) (k : ℕ) (x : List ℕ) → spread b n (splice s k x) ≡ splice (spread b n s) (n * k) (spread b n x)
unfolding splice
spread_splice b n s k x =
    spread_append b n (take k s ++ x) (drop (k + length x) s)
    ∙ rw (spread_append b n (take k s) x, ← take_spread b n k s, ← drop_spread b n (k + length x) s, length_spread, mul-add)

pub digits_splice : (b : ℕ) (s : List ℕ) (p : ℕ) (x : List ℕ) → Digits b s → Digits b x → Digits b (splice s p x)
unfolding splice
digits_splice b s p x h k =
    digits_append b (take p s ++ x) (drop (p + length x) s) (digits_append b (take p s) x (digits_take b p s h) k) (digits_drop b (p + length x) s h)

-- digits of base b written over whole digits of base b ^ n: what the latter are then
module _ (b n : ℕ) (pos : 0 < b) (s s' : List ℕ) (p k : ℕ) (x : List ℕ) where
  pub gathered : Digits (b ^ n) s → Digits (b ^ n) s' → length s' ≡ length s → Digits b x → length x ≡ n * k → p + k ≤ length s
      → spread b n s' ≡ splice (spread b n s) (n * p) x → s' ≡ splice s p (gather b n k x)
  gathered hs hs' l hx lx room e =
      let y = gather b n k x in
      let room' : p + length y ≤ length s = omega (arith, length_gather b n k x) in
      spread_inj b n s' (splice s p y) hs' (digits_splice (b ^ n) s p y hs (digits_gather b n k x pos)) (l ∙ sym (length_splice s p y room'))
      (e ∙ rw (spread_splice b n s p y, spread_gather b n k x pos hx lx))

-- a piece written over the start stands in front of the rest
pub splice_front : (s x : List ℕ) → splice s 0 x ≡ x ++ drop (length x) s
unfolding splice
splice_front s x = rw (zero-add (length x))
