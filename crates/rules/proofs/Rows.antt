-- The rows: what holds of each holds of the row of a partition value, and of the row that a company prefix picks.
use Prim.Native.Nat.{ℕ, zero, suc, ◌+◌, ◌-◌, ◌^◌, ◌≤◌, ◌<◌}
use mathlib.Core.Path.{◌≡◌, refl}
use mathlib.Core.Logic.{⊎_elim}
use mathlib.Core.List.{List, [], ◌∷◌}
use mathlib.Core.Bool.{Bool, true, false, ◌&&◌, cond}
use native.Mathlib.Omega.{arith}
use native.Mathlib.Nat.{add-zero, zero-add}
use lib.Dec.{T, ltb, eqb, ltb→lt, eqb→eq}
use lib.ListN.{length, get_or, get_or-eq_default}
use Rattle.numeral.proofs.Arithmetic.{lt_or_ge}
use Rattle.rules.specs.declared.Table.{Table}
use Rattle.rules.specs.Schemes.{Form, digits, at_most, exact, counted, Row, rows, no_row, row_at, row_of, partition, prefix_bits, prefix_digits}
use Rattle.rules.proofs.Tests.{both, below, below_is}

-- a reference has one of two forms: what holds of both holds of each table's
pub by_count_lem : (Q : Form → Type 0) (t : Table) (b n : ℕ) → Q (digits b n) → Q (at_most b n) → Q (counted t b n)
by_count_lem Q t b n x y = go (exact t)
  where
    go : (e : Bool) → Q (cond e (digits b n) (at_most b n))
    go true = x
    go false = y

-- Q holds of each row and its partition value, counted from n
abbrev pub AllRows : (ℕ → Row → Type 0) → ℕ → List Row → Type 0
AllRows Q n [] = Unit
AllRows Q n (r ∷ rs) = Q n r × AllRows Q (suc n) rs

at_row : (Q : ℕ → Row → Type 0) (n : ℕ) (rs : List Row) → AllRows Q n rs → (P : ℕ) → P < length rs → Q (n + P) (get_or rs P no_row)
at_row Q n [] h P l = absurd (omega arith)
at_row Q n (r ∷ rs) h zero l = rw add-zero h.0
at_row Q n (r ∷ rs) h (suc P) l =
    let e : n + suc P ≡ suc n + P = omega arith in
    rw e (at_row Q (suc n) rs h.1 P (omega arith))

seven : length rows ≡ 7
unfolding rows
seven = refl

pub by_row_lem : (Q : ℕ → Row → Type 0) → AllRows Q 0 rows → (P : ℕ) → P < 7 → Q P (row_at P)
by_row_lem Q h P l = rw zero-add at (at_row Q 0 rows h P (rw seven l))

-- The row of a partition value has 6 to 12 digits, which pick it, and which fit its bits.
pub record Fair (P : ℕ) (r : Row) : Type 0 where
  pub picked : partition (prefix_digits r) ≡ P
  pub least : 6 ≤ prefix_digits r
  pub most : prefix_digits r ≤ 12
  pub roomy : 10 ^ prefix_digits r ≤ 2 ^ prefix_bits r
  pub narrow : prefix_bits r ≤ 40

all_fair : AllRows Fair 0 rows
unfolding rows
all_fair = omega arith

pub row_fair : (P : ℕ) → P < 7 → Fair P (row_at P)
row_fair = by_row_lem Fair all_fair

-- past the last row there are no bits
pub narrow_row : (P : ℕ) → prefix_bits (row_at P) ≤ 40
narrow_row P =
    ⊎_elim (λ (l : P < 7). (row_fair P l).narrow) (λ (m : 7 ≤ P). rw (get_or-eq_default rows no_row {n = P} (rw seven m)) (omega arith)) (lt_or_ge P 7)

-- 6 to 12 digits pick a row that has as many.
abbrev picks : ℕ → Bool
picks n = ltb (partition n) 7 && eqb (prefix_digits (row_of n)) n

all_pick : T (below (λ k. picks (6 + k)) 7)
unfolding rows
all_pick = tt

pub row_picked : (n : ℕ) → 6 ≤ n → n ≤ 12 → (partition n < 7) × (prefix_digits (row_of n) ≡ n)
row_picked n l u =
    let e : 6 + (n - 6) ≡ n = omega arith in
    let h : T (picks n) = rw e at (below_is (λ k. picks (6 + k)) 7 all_pick (n - 6) (omega arith)) in
    let (a, b) = both (ltb (partition n) 7) (eqb (prefix_digits (row_of n)) n) h in
    (ltb→lt (partition n) 7 a, eqb→eq (prefix_digits (row_of n)) n b)
