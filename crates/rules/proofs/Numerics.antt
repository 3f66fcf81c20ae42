-- The numeric string, over any width and any number of digits: a 1 is put before the digits, and the whole is one integer.
use Prim.Native.Nat.{ℕ, suc, ◌*◌, ◌-◌, ◌+◌, ◌^◌, ◌≤◌, ◌<◌}
use mathlib.Core.Path.{◌≡◌, refl, sym, ◌∙◌, ap}
use mathlib.Core.Logic.{◌↔◌, ⊎_elim}
use mathlib.Core.List.{List, [], ◌∷◌}
use Rattle.std.specs.Prelude.{None, Some}
use mathlib.Core.Bool.{Bool, true, false, ◌&&◌, cond}
use native.Mathlib.Omega.{arith}
use native.Mathlib.Nat.{pow-le-pow_right, pow-suc}
use lib.Dec.{T, leb, ltb, eqb, leb→le, ltb→lt, le→leb, lt→ltb, eqb→eq, lit<, lit≤}
use lib.ListN.{length}
use Rattle.numeral.specs.Numeral.{value, numeral, Digits, shortest}
use Rattle.numeral.proofs.Arithmetic.{lt_or_ge}
use Rattle.numeral.proofs.Values.{value_lt, length_numeral, digits_numeral, value_numeral_lt}
use Rattle.numeral.proofs.Shortest.{shortest_value, value_shortest}
use Rattle.rules.specs.Answers.{kept}
use Rattle.rules.specs.BankNumbers.{numeric_in}
use Rattle.rules.specs.Conditions.{OneThen}
use Rattle.rules.proofs.Tests.{is_true, both, and, eq→eqb}
use Rattle.rules.proofs.Answers.{Decides}
use Rattle.rules.proofs.Numbers.{whole_digits}

-- the integer is the digits' value and a power of ten
pub one_then : (ds : List ℕ) → value 10 (1 ∷ ds) ≡ 10 ^ length ds + value 10 ds
unfolding value
one_then ds = omega arith

-- its numeral is the 1 and the digits: leading zeros survive
pub numeral_of_one : (ds : List ℕ) → Digits 10 ds → shortest 10 (value 10 (1 ∷ ds)) ≡ 1 ∷ ds
numeral_of_one ds h = shortest_value 10 (lit< tt) 1 ds (lit< tt, h) (lit< tt)

-- the integer of a numeric string has this numeral, and an integer with this numeral is that of its digits
numeral_is : (n v : ℕ) (r : OneThen n v) → shortest 10 v ≡ 1 ∷ r.0
numeral_is n v r = ap (shortest 10) r.4 ∙ numeral_of_one r.0 r.1

numeral_says : (v : ℕ) (ds : List ℕ) → shortest 10 v ≡ 1 ∷ ds → Digits 10 ds × (v ≡ value 10 (1 ∷ ds))
numeral_says v ds e =
    let h : Digits 10 (1 ∷ ds) = rw e at (whole_digits v) in
    (h.1, sym (value_shortest 10 (lit< tt) v) ∙ ap (value 10) e)

-- no two numeric strings have one integer
pub one_numeric : (ds es : List ℕ) → Digits 10 ds → Digits 10 es → value 10 (1 ∷ ds) ≡ value 10 (1 ∷ es) → ds ≡ es
one_numeric ds es h k e = cc (sym (numeral_of_one ds h) ∙ ap (shortest 10) e ∙ numeral_of_one es k)

-- at most n digits fit b bits, if twice 10^n does
pub numeric_fits : (b n : ℕ) (ds : List ℕ) → Digits 10 ds → length ds ≤ n → 2 * 10 ^ n ≤ 2 ^ b → value 10 (1 ∷ ds) < 2 ^ b
numeric_fits b n ds h l r =
    let p : 10 ^ length ds ≤ 10 ^ n = pow-le-pow_right (lit< tt) l in
    omega (arith, one_then ds, value_lt 10 ds h)

-- there and back: what is put behind a 1 is read
abbrev counts : ℕ → List ℕ → Bool
counts n ds = ltb 0 (length ds) && leb (length ds) n

pub numeric_of_lem : (n : ℕ) (ds : List ℕ) → Digits 10 ds → T (ltb 0 (length ds)) → T (leb (length ds) n) → numeric_in n (shortest 10 (value 10 (1 ∷ ds))) ≡ Some ds
numeric_of_lem n ds h s l = rw (numeral_of_one ds h, is_true (counts n ds) (and (ltb 0 (length ds)) (leb (length ds) n) s l))

-- what is read is a numeric string, and what is refused is none
abbrev pub NumericIs : ℕ → ℕ → List ℕ → Type 0
NumericIs n v ds = Digits 10 ds × T (ltb 0 (length ds)) × T (leb (length ds) n) × (v ≡ value 10 (1 ∷ ds))

pub numeric_decides : (n v : ℕ) → Decides (¬ (OneThen n v)) (NumericIs n v) (numeric_in n (shortest 10 v))
numeric_decides n v = go (shortest 10 v) refl
  where
    same : (l : List ℕ) → shortest 10 v ≡ l → (r : OneThen n v) → l ≡ 1 ∷ r.0
    same l e r = sym e ∙ numeral_is n v r

    judge : (es : List ℕ) → shortest 10 v ≡ 1 ∷ es → (b : Bool) → counts n es ≡ b → Decides (¬ (OneThen n v)) (NumericIs n v) (cond b (Some es) None)
    judge es e true c =
        let (s, l) = both (ltb 0 (length es)) (leb (length es) n) (rw c tt) in
        let (h, q) = numeral_says v es e in
        (λ None. None (es, h, ltb→lt 0 (length es) s, leb→le (length es) n l, q), (h, s, l, q))
    judge es e false c = λ r.
        let q : es ≡ r.0 = cc (same (1 ∷ es) e r) in
        let t : T (counts n es) = rw q (and (ltb 0 (length r.0)) (leb (length r.0) n) (lt→ltb 0 (length r.0) r.2) (le→leb (length r.0) n r.3)) in
        rw c at t

    begin : (d : ℕ) (es : List ℕ) → shortest 10 v ≡ d ∷ es → (b : Bool) → eqb d 1 ≡ b → Decides (¬ (OneThen n v)) (NumericIs n v) (kept (counts n) (cond b (Some es) None))
    begin d es e true c = judge es (e ∙ ap (◌∷ es) (eqb→eq d 1 (rw c tt))) (counts n es) refl
    begin d es e false c = λ r. let q : d ≡ 1 = cc (same (d ∷ es) e r) in rw c at (eq→eqb d 1 q)

    go : (l : List ℕ) → shortest 10 v ≡ l → Decides (¬ (OneThen n v)) (NumericIs n v) (numeric_in n l)
    go [] e = λ r. let z : ◌≡◌ {A = ℕ} 0 1 = cc (same [] e r) in omega arith
    go (d ∷ es) e = begin d es e (eqb d 1) refl

-- the integers that read as one: those from 10^k on and below twice that, for 1 to n digits
pub one_between : (n v : ℕ) → OneThen n v ↔ ((k : ℕ) × (0 < k) × (k ≤ n) × (10 ^ k ≤ v) × (v < 2 * 10 ^ k))
one_between n v = (forth, back)
  where
    forth : OneThen n v → (k : ℕ) × (0 < k) × (k ≤ n) × (10 ^ k ≤ v) × (v < 2 * 10 ^ k)
    forth r =
        let ds = r.0 in
        let l = value_lt 10 ds r.1 in
        (length ds, r.2, r.3, omega (arith, one_then ds, r.4), omega (arith, one_then ds, r.4))

    back : (k : ℕ) × (0 < k) × (k ≤ n) × (10 ^ k ≤ v) × (v < 2 * 10 ^ k) → OneThen n v
    back (k, p, l, a, b) =
        let w = v - 10 ^ k in
        let ds = numeral 10 k w in
        let m = length_numeral 10 k w in
        let e : value 10 ds ≡ w = value_numeral_lt 10 k w (omega arith) in
        (ds, digits_numeral 10 k w (lit< tt), rw m p, rw m l, rw (one_then ds, m, e) (omega arith))

-- where no integer reaches 3 x 10^n, the first digit decides, and that another follows it: only 0, 1 and what begins with 2 to 9 is none
pub first_digit : (n v : ℕ) → v < 3 * 10 ^ n → OneThen n v ↔ ((ds : List ℕ) × (0 < length ds) × (shortest 10 v ≡ 1 ∷ ds))
first_digit n v l = ((λ r. (r.0, r.2, numeral_is n v r)), back)
  where
    back : (ds : List ℕ) × (0 < length ds) × (shortest 10 v ≡ 1 ∷ ds) → OneThen n v
    back (ds, s, e) =
        let (h, q) = numeral_says v ds e in
        (ds, h, s, ⊎_elim (λ o. absurd (too_many o q)) (λ o. o) (lt_or_ge n (length ds)), q)
      where
        too_many : n < length ds → v ≡ value 10 (1 ∷ ds) → ⊥
        too_many o q =
            let p : 10 ^ suc n ≤ 10 ^ length ds = pow-le-pow_right (lit< tt) o in
            omega (arith, one_then ds, pow-suc 10 n)

-- so it is for both schemes
pub narrow_enough : (2 ^ 58 ≤ 3 * 10 ^ 17) × (2 ^ 41 ≤ 3 * 10 ^ 12)
narrow_enough = (lit≤ tt, lit≤ tt)
