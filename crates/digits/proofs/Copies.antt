-- Bytes copied one after the other.
use Prim.Native.Nat.{ℕ, ◌+◌, ◌≤◌, ◌<◌}
use mathlib.Core.Path.{◌≡◌, ◌∙◌}
use mathlib.Core.List.{List}
use native.Mathlib.Numerals.{add-one}
use native.Mathlib.Omega.{arith}
use lib.ListN.{length, take, get_or, set}
use lib.Seq.{take-suc, length-take-le}
use Rattle.numeral.specs.Numeral.{splice}
use Rattle.numeral.proofs.Splices.{splice_snoc}

-- the first i bytes of x are copied; the next one follows
pub copy_more : (s x : List ℕ) (at i : ℕ) → i < length x → at + length x ≤ length s
    → set (splice s at (take i x)) (at + i) (get_or x i 0) ≡ splice s at (take (i + 1) x)
copy_more s x at i h k =
    splice_snoc s at (take i x) (get_or x i 0) (at + i) (rw (length-take-le i x (omega arith))) (omega arith) ∙ rw (add-one i, take-suc x i 0 h)
