-- The bits of a number: a field that is read is refused by its rule or is right, and what is right is read.
use Prim.Native.Nat.{ℕ, zero, suc, ◌+◌, ◌^◌, ◌≤◌, ◌<◌}
use mathlib.Core.Path.{◌≡◌, refl, sym}
use mathlib.Core.List.{List, [], ◌∷◌, ◌++◌}
use native.Mathlib.Omega.{arith}
use native.Mathlib.Nat.{le_trans}
use lib.Dec.{T, ltb, ltb→lt, lt→ltb, nltb→le, lit<}
use lib.ListN.{length, take, drop, take-append-drop}
use lib.Seq.{take_at, drop_at, length-take-le}
use Rattle.numeral.specs.Numeral.{value, numeral, Digits, size, shortest}
use Rattle.numeral.proofs.Values.{length_numeral, digits_numeral, digits_take, value_lt, value_numeral_lt, numeral_of_value}
use Rattle.numeral.proofs.Shortest.{shortest_small, shortest_value, value_shortest, length_shortest, size_pos, size_le}
use Rattle.rules.specs.Answers.{taken, demand, ◌>>◌}
use Rattle.rules.specs.Bytes.{all}
use Rattle.rules.specs.Grammar.{digit, plain_number}
use Rattle.rules.specs.Coding.{binary}
use Rattle.rules.specs.BankNumbers.{Field, field, decimal}
use Rattle.rules.specs.Conditions.{rule}
use Rattle.rules.proofs.Tests.{is_true}
use Rattle.rules.proofs.Answers.{Reads, settled_demand, check}
use Rattle.rules.proofs.Decimals.{digits_all}

-- the first b bits of l are those of their number
pub front : (b : ℕ) (l : List ℕ) → Digits 2 l → b ≤ length l → (binary b (value 2 (take b l)) ≡ take b l) × (value 2 (take b l) < 2 ^ b)
front b l h r =
    let n = length-take-le b l r in
    let d = digits_take 2 b l h in
    (numeral_of_value 2 b (take b l) d n, rw n at (value_lt 2 (take b l) d))

pub read : (b v : ℕ) (z : List ℕ) → v < 2 ^ b → (value 2 (take b (binary b v ++ z)) ≡ v) × (drop b (binary b v ++ z) ≡ z)
read b v z l = (rw (take_at (binary b v) z b (length_numeral 2 b v)) (value_numeral_lt 2 b v l), drop_at (binary b v) z b (length_numeral 2 b v))

-- a number that is refused with m where it has more than n digits
pub few_digits_reads : (m a n v : ℕ) (R : Field → Type 0) (c : Field) → 0 < m → (v < 10 ^ n → R c) → Reads (rule m (10 ^ n ≤ v) (◌≡ a) ∷ []) R (demand (ltb v (10 ^ n)) m a >> taken c)
few_digits_reads m a n v R c z h =
    check [] R m (10 ^ n ≤ v) (◌≡ a) (T (ltb v (10 ^ n))) (demand (ltb v (10 ^ n)) m a) (taken c) z
    (settled_demand m a (10 ^ n ≤ v) (ltb v (10 ^ n)) (nltb→le v (10 ^ n)) (λ t k. omega (arith, ltb→lt v (10 ^ n) t))) λ t.
    (tt, h (ltb→lt v (10 ^ n) t))

-- A number of n digits in b bits.
abbrev pub DecimalIs : ℕ → ℕ → ℕ → List ℕ → Field → Type 0
DecimalIs a b n l c = T (all digit c.symbols) × (length c.symbols ≡ n) × (l ≡ binary b (value 10 c.symbols) ++ c.rest) × (c.next ≡ a + b)

pub decimal_reads : (m a b n : ℕ) (l : List ℕ) → 0 < m → Digits 2 l → b ≤ length l → Reads (rule m (10 ^ n ≤ value 2 (take b l)) (◌≡ a) ∷ []) (DecimalIs a b n l) (decimal m a b n l)
decimal_reads m a b n l z h w =
    let v = value 2 (take b l) in
    few_digits_reads m a n v (DecimalIs a b n l) (field (numeral 10 n v) a b l) z λ s.
    (digits_all (numeral 10 n v) (digits_numeral 10 n v (lit< tt)), length_numeral 10 n v, rw (value_numeral_lt 10 n v s, (front b l h w).0) (sym (take-append-drop b l)), refl)

pub decimal_of : (m a b n : ℕ) (ds z : List ℕ) → Digits 10 ds → length ds ≡ n → 10 ^ n ≤ 2 ^ b
    → decimal m a b n (binary b (value 10 ds) ++ z) ≡ taken (record { symbols = ds; next = a + b; rest = z })
decimal_of m a b n ds z h e r =
    let v = value 10 ds in
    let s : v < 10 ^ n = rw (← e) (value_lt 10 ds h) in
    let (u, d) = read b v z (le_trans s r) in
    rw (u, d, is_true (ltb v (10 ^ n)) (lt→ltb v (10 ^ n) s), numeral_of_value 10 n ds h e)

-- An integer is the shortest numeral of its value.
pub whole_of : (ds : List ℕ) → Digits 10 ds → T (plain_number ds) → shortest 10 (value 10 ds) ≡ ds
unfolding value
whole_of [] h p = absurd p
whole_of (d ∷ []) h p = let e : value 10 (d ∷ []) ≡ d = omega arith in rw e (shortest_small 10 (lit< tt) d h.0)
whole_of (d ∷ e ∷ ds) h p = shortest_value 10 (lit< tt) d (e ∷ ds) h (ltb→lt 0 d p)

pub whole_digits : (v : ℕ) → Digits 10 (shortest 10 v)
unfolding shortest
whole_digits v = digits_numeral 10 (size 10 v) v (lit< tt)

pub whole_is : (v : ℕ) → T (plain_number (shortest 10 v))
unfolding value
whole_is v = go (shortest 10 v) (whole_digits v) (value_shortest 10 (lit< tt) v) (length_shortest 10 (lit< tt) v)
  where
    go : (l : List ℕ) → Digits 10 l → value 10 l ≡ v → length l ≡ size 10 v → T (plain_number l)
    go [] h e n = absurd (omega (arith, size_pos 10 (lit< tt) v))
    go (d ∷ []) h e n = tt
    go (zero ∷ e ∷ ds) h q n =
        let l : v < 10 ^ length (e ∷ ds) = omega (arith, value_lt 10 (e ∷ ds) h.1) in
        absurd (omega (arith, size_le 10 (lit< tt) v (length (e ∷ ds)) (omega arith) l))
    go (suc d ∷ e ∷ ds) h q n = lt→ltb 0 (suc d) (omega arith)
