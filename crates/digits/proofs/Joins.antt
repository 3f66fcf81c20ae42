-- Pieces of a text, written one after the other.
use Prim.Native.Nat.{ℕ, ◌+◌, ◌≤◌, ◌<◌}
use mathlib.Core.Path.{◌≡◌, refl, sym, ap, ◌∙◌}
use mathlib.Core.List.{List, [], ◌∷◌, ◌++◌, append_assoc, append-nil}
use mathlib.Core.Logic.{⊎_elim}
use native.Mathlib.Omega.{arith}
use native.Mathlib.Nat.{add-zero}
use lib.Dec.{lit<}
use lib.ListN.{length, drop, set, length-append, drop_of_length-le}
use lib.Seq.{take_all}
use Rattle.std.specs.Borrow.{MutBor}
use Rattle.numeral.specs.Numeral.{numeral, size, shortest, splice}
use Rattle.numeral.proofs.Arithmetic.{lt_or_ge}
use Rattle.numeral.proofs.Values.{length_numeral}
use Rattle.numeral.proofs.Shortest.{length_shortest}
use Rattle.numeral.proofs.Splices.{splice_nil, splice_one, splice_splice, splice_front}
use Rattle.rules.specs.Bytes.{digits_text}
use Rattle.digits.specs.declared.Output.{Output}
use Rattle.digits.specs.Pieces.{Puts, Begins, Adds}
use Rattle.digits.proofs.Texts.{length_text}

-- past the end of a list a splice appends
splice_past : (s : List ℕ) (p : ℕ) (x : List ℕ) → length s ≤ p → splice s p x ≡ s ++ x
unfolding splice
splice_past s p x h = rw (take_all p s h, drop_of_length-le s {i = p + length x} (omega arith)) (append-nil (s ++ x))

splice_then : (s : List ℕ) (p : ℕ) (x y : List ℕ) → splice (splice s p x) (p + length x) y ≡ splice s p (x ++ y)
splice_then s p x y =
    ⊎_elim
    (λ l. splice_splice s p x y (omega arith))
    (λ m. ap (λ (r : List ℕ). splice r (p + length x) y) (splice_past s p x m)
    ∙ splice_past (s ++ x) (p + length x) y (rw length-append (omega arith)) ∙ append_assoc s x y ∙ sym (splice_past s p (x ++ y) m))
    (lt_or_ge p (length s))

pub join : {x y s t u : List ℕ} {at p n : ℕ} → Puts x at s p t → Puts y p t n u → Puts (x ++ y) at s n u
join {x} {y} {s} {t} {u} {at} {p} {n} a b = record {
  end = rw length-append (omega (arith, a.end, b.end));
  bytes = b.bytes ∙ rw (a.bytes, a.end) (splice_then s at x y);
}

-- nothing
pub nothing_put : (s : List ℕ) (at : ℕ) → Puts [] at s at s
nothing_put s at = record { end = sym (add-zero at); bytes = sym (splice_nil s at) }

pub from_start : {x s t : List ℕ} {n : ℕ} → Puts x 0 s n t → (n ≡ length x) × (t ≡ x ++ drop (length x) s)
from_start {x} {s} h = (omega (arith, h.end), h.bytes ∙ splice_front s x)

-- a byte; an integer; a number in n digits
pub byte_put : (s : List ℕ) (at b : ℕ) → at < length s → Puts (b ∷ []) at s (at + 1) (set s at b)
byte_put s at b h = record { end = refl; bytes = sym (splice_one s at b h) }

pub integer_put : (v : ℕ) {s t : List ℕ} {at n : ℕ} → n ≡ at + size 10 v → t ≡ splice s at (digits_text (shortest 10 v)) → Puts (digits_text (shortest 10 v)) at s n t
integer_put v e f = record { end = rw (length_text (shortest 10 v), length_shortest 10 (lit< tt) v) e; bytes = f }

pub number_put : (n v : ℕ) {s t : List ℕ} (at : ℕ) → t ≡ splice s at (digits_text (numeral 10 n v)) → Puts (digits_text (numeral 10 n v)) at s (at + n) t
number_put n v at f = record { end = rw (length_text (numeral 10 n v), length_numeral 10 n v); bytes = f }

-- Pieces added to an output: v is w with x behind it.
module _ {w v : Output} {x : List ℕ} (a : Adds w x v) where
  -- the same bytes in other words
  pub same_bytes : {y : List ℕ} → x ≡ y → Adds w y v
  same_bytes e = rw e at a

  -- the output goes on with y
  pub then : {y : List ℕ} {u : Output} → Adds v y u → Adds w (x ++ y) u
  then b = record { output = b.output ∙ a.output; size = b.size ∙ a.size; puts = join a.puts b.puts }

-- nothing is added
pub nothing : (w : Output) → Adds w [] w
nothing w = record { output = refl; size = refl; puts = nothing_put w.out.now w.at }

-- what is added to an output that holds nothing yet stands at its start
pub begun : {o : MutBor (List ℕ)} {w v : Output} {x : List ℕ} → Begins o w → Adds w x v → Puts x 0 o.now v.at v.out.now
begun b a = rw (b.bytes, b.start) at a.puts

-- where an output stands behind n digits, and behind an integer
pub digits_end : {w u : Output} (n v : ℕ) → Adds w (digits_text (numeral 10 n v)) u → u.at ≡ w.at + n
digits_end n v a = omega (arith, a.puts.end, length_text (numeral 10 n v), length_numeral 10 n v)

pub integer_end : {w u : Output} (v : ℕ) → Adds w (digits_text (shortest 10 v)) u → u.at ≡ w.at + size 10 v
integer_end v a = omega (arith, a.puts.end, length_text (shortest 10 v), length_shortest 10 (lit< tt) v)
