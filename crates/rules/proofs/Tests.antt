-- What a test that holds, or fails, says.
use Prim.Native.Nat.{ℕ, zero, suc, ◌≤◌, ◌<◌}
use mathlib.Core.Path.{◌≡◌, refl}
use mathlib.Core.List.{List, [], ◌∷◌}
use mathlib.Core.Bool.{Bool, true, false, ◌&&◌, ◌||◌, not}
use mathlib.Core.Logic.{⊎_elim}
use native.Mathlib.Omega.{arith}
use lib.Dec.{T, T_not, eqb, eqb→eq, eqb_refl}
use lib.ListN.{length, get_or}
use Rattle.numeral.proofs.Arithmetic.{lt_or_ge}
use Rattle.rules.specs.Bytes.{all, among}

pub is_true : (b : Bool) → T b → b ≡ true
is_true true h = refl
is_true false h = absurd h

pub is_false : (b : Bool) → T (not b) → b ≡ false
is_false true h = absurd h
is_false false h = refl

pub both : (a b : Bool) → T (a && b) → T a × T b
both true b h = (tt, h)
both false b h = absurd h

pub and : (a b : Bool) → T a → T b → T (a && b)
and true b h k = k
and false b h k = absurd h

pub not_both : (a b : Bool) → T (not (a && b)) → T a → T (not b)
not_both true b h k = h
not_both false b h k = absurd k

pub eq→eqb : (x y : ℕ) → x ≡ y → T (eqb x y)
eq→eqb x y e = rw e (eqb_refl y)

pub apart : (x y : ℕ) → T (not (eqb x y)) → ¬ (x ≡ y)
apart x y h e = T_not (eqb x y) h (eq→eqb x y e)

pub not_not : (b : Bool) → T (not (not b)) → T b
not_not true h = tt
not_not false h = h

-- several tests at once
abbrev pub every : List Bool → Bool
every [] = true
every (b ∷ bs) = b && every bs

abbrev pub Each : List Bool → Type 0
Each [] = Unit
Each (b ∷ bs) = T b × Each bs

pub each : (bs : List Bool) → T (every bs) → Each bs
each [] h = tt
each (b ∷ bs) h = let (a, r) = both b (every bs) h in (a, each bs r)

-- a test that holds of each entry holds of one of them
pub all_among : (test : ℕ → Bool) (l : List ℕ) (x : ℕ) → T (all test l) → T (among x l) → T (test x)
all_among test [] x h m = absurd m
all_among test (y ∷ ys) x h m = go (eqb x y) (eqb→eq x y) (all_among test ys x (both (test y) (all test ys) h).1) m
  where
    go : (b : Bool) → (T b → x ≡ y) → (T (among x ys) → T (test x)) → T (b || among x ys) → T (test x)
    go true e ih m = rw (e tt) (both (test y) (all test ys) h).0
    go false e ih m = ih m

-- and a test that follows from it holds of each entry too
pub all_map : (test other : ℕ → Bool) (l : List ℕ) → ((x : ℕ) → T (test x) → T (other x)) → T (all test l) → T (all other l)
all_map test other [] f h = tt
all_map test other (x ∷ xs) f h =
    let (a, b) = both (test x) (all test xs) h in
    and (other x) (all other xs) (f x a) (all_map test other xs f b)

-- and at each place; one that fails of some entry fails at a place
pub all_at : (test : ℕ → Bool) (l : List ℕ) (i : ℕ) → T (all test l) → i < length l → T (test (get_or l i 0))
all_at test [] i h k = absurd (omega arith)
all_at test (x ∷ xs) zero h k = (both (test x) (all test xs) h).0
all_at test (x ∷ xs) (suc i) h k = all_at test xs i (both (test x) (all test xs) h).1 (omega arith)

pub not_all : (test : ℕ → Bool) (l : List ℕ) → T (not (all test l)) → (i : ℕ) × (i < length l) × T (not (test (get_or l i 0)))
not_all test [] h = absurd h
not_all test (x ∷ xs) h = go (test x) refl (not_all test xs) h
  where
    go : (b : Bool) → test x ≡ b → (T (not (all test xs)) → (i : ℕ) × (i < length xs) × T (not (test (get_or xs i 0)))) → T (not (b && all test xs))
        → (i : ℕ) × (i < length (x ∷ xs)) × T (not (test (get_or (x ∷ xs) i 0)))
    go true e ih h = let (i, l, k) = ih h in (suc i, omega arith, k)
    go false e ih h = (0, omega arith, rw e tt)

-- a test that holds of each number below k
abbrev pub below : (ℕ → Bool) → ℕ → Bool
below test zero = true
below test (suc k) = test k && below test k

pub below_is : (test : ℕ → Bool) (k : ℕ) → T (below test k) → (n : ℕ) → n < k → T (test n)
below_is test zero h n l = absurd (omega arith)
below_is test (suc k) h n l =
    let (a, b) = both (test k) (below test k) h in
    ⊎_elim (λ (m : n < k). below_is test k b n m) (λ (m : k ≤ n). let e : n ≡ k = omega arith in rw e a) (lt_or_ge n k)
