-- Bytes that are moved to the input's start.
use Prim.Native.Nat.{ℕ, ◌+◌, ◌-◌, ◌≤◌, ◌<◌, min}
use mathlib.Core.Path.{◌≡◌, sym, ap, ap₂, ◌∙◌}
use mathlib.Core.Logic.{⊎_elim}
use mathlib.Core.List.{List, ◌++◌}
use native.Mathlib.Omega.{arith}
use native.Mathlib.Nat.{zero-add}
use Rattle.std.specs.List.{copy_within}
use lib.ListN.{length, take, drop, length-take, length-drop}
use lib.Seq.{take_all}
use Rattle.numeral.proofs.Splices.{splice_front}
use Rattle.numeral.proofs.Arithmetic.{lt_or_ge}
use Rattle.replies.specs.Writing.{Wrote}

take_least : (d : List ℕ) (m n : ℕ) → n ≡ min (length d) m → take n d ≡ take m d
take_least d m n e =
    ⊎_elim
    (λ (h : m < length d). let f : n ≡ m = omega arith in ap (λ k. take k d) f)
    (λ (h : length d ≤ m). take_all n d (omega arith) ∙ sym (take_all m d h))
    (lt_or_ge m (length d))

-- n bytes from a place on, at most m
pub moved : (l l₁ : List ℕ) (from m n : ℕ) → n ≡ min m (length l - from) → l₁ ≡ copy_within l from (from + n) 0 → Wrote (take m (drop from l)) l n l₁
moved l l₁ from m n e i =
    let d : List ℕ = drop from l in
    let k : length d ≡ length l - from = length-drop from l in
    let w : take n d ≡ take m d = take_least d m n (omega arith) in
    let f : length (take m d) ≡ n = omega (arith, length-take m d) in
    let g : from + n - from ≡ n = omega arith in
    let h : copy_within l from (from + n) 0 ≡ take n d ++ drop n l = rw (g, zero-add n) in
    record { end = omega (arith, f); bytes = i ∙ h ∙ ap₂ (λ x j. x ++ drop j l) w (sym f) ∙ sym (splice_front l (take m d)) }
