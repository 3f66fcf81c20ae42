-- The rest of a text; and a run with no separator in it, which grows byte by byte.
use Prim.Native.Nat.{ℕ, zero, suc, ◌+◌, ◌-◌, ◌*◌, ◌≤◌, ◌<◌}
use mathlib.Core.Path.{◌≡◌, sym, ap, ◌∙◌}
use mathlib.Core.Bool.{true, not}
use mathlib.Core.List.{List, [], ◌∷◌, ◌++◌}
use native.Mathlib.Omega.{arith}
use native.Mathlib.Numerals.{add-one}
use lib.Dec.{T, eqb}
use lib.ListN.{length, take, drop, get_or, length-append, length-drop, take-append-drop}
use lib.Seq.{take-suc, take_all, drop-cons}
use Rattle.numeral.specs.Numeral.{value}
use Rattle.numeral.proofs.Values.{value_snoc}
use Rattle.rules.specs.Bytes.{among, upto, behind}
use Rattle.rules.proofs.Tests.{is_false, both, and}
use Rattle.rules.proofs.Runs.{without, run_is, among_of, upto_of, behind_of_lem}

-- the part of a text from an index on, as it is lent
pub from_index : (t : List ℕ) (i : ℕ) → i ≤ length t → take (length t - i) (drop i t) ≡ drop i t
from_index t i h = take_all (length t - i) (drop i t) (omega (arith, length-drop i t))

without_append : (x : ℕ) (s t : List ℕ) → T (without x s) → T (without x t) → T (without x (s ++ t))
without_append x [] t h k = k
without_append x (y ∷ s) t h k =
    let (a, b) = both (not (eqb x y)) (without x s) h in
    and (not (eqb x y)) (without x (s ++ t)) a (without_append x s t b k)

-- one byte more
pub without_more : (x n : ℕ) (w : List ℕ) → n < length w → T (without x (take n w)) → T (not (eqb x (get_or w n 0))) → T (without x (take (n + 1) w))
without_more x n w l h k = rw (add-one n, take-suc w n 0 l) (without_append x (take n w) (get_or w n 0 ∷ []) h (and (not (eqb x (get_or w n 0))) true k tt))

pub value_more : (b n : ℕ) (w : List ℕ) → n < length w → value b (take (n + 1) w) ≡ value b (take n w) * b + get_or w n 0
value_more b n w l = rw (add-one n, take-suc w n 0 l) (value_snoc b (take n w) (get_or w n 0))

-- the separator stands behind the run
pub run_ends : (x n : ℕ) (w : List ℕ) → n < length w → T (without x (take n w)) → get_or w n 0 ≡ x
    → (among x w ≡ true) × (upto x w ≡ take n w) × (behind x w ≡ drop (n + 1) w)
run_ends x n w l h e =
    let q : w ≡ take n w ++ x ∷ drop (suc n) w = sym (take-append-drop n w) ∙ ap (take n w ++◌) (drop-cons w n 0 l ∙ ap (◌∷ drop (suc n) w) e) in
    let u = drop (suc n) w in
    (ap (among x) q ∙ among_of x u (take n w), ap (upto x) q ∙ upto_of x u (take n w) h, ap (behind x) q ∙ behind_of_lem x u (take n w) h ∙ ap (λ k. drop k w) (sym (add-one n)))

-- the separator stands nowhere, or behind more bytes than these
pub run_longer : (x n : ℕ) (w : List ℕ) → T (without x (take n w)) → among x w ≡ true → n ≤ length (upto x w)
run_longer x zero w h a = omega arith
run_longer x (suc n) [] h a = let z : ◌≡◌ {A = ℕ} 0 1 = cc in absurd (omega arith)
run_longer x (suc n) (y ∷ w) h a =
    let (b, c) = both (not (eqb x y)) (without x (take n w)) h in
    let e = is_false (eqb x y) b in
    rw e (omega (arith, run_longer x n w c (rw e at a)))

pub run_shorter : (x : ℕ) (w : List ℕ) → among x w ≡ true → length (upto x w) < length w
run_shorter x w a = omega (arith, simp length-append at (ap length (run_is x w (rw a tt))))
