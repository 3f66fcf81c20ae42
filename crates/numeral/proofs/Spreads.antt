-- `spread` and `gather` change the base: what is spread is gathered again, and the other way round.
use mathlib.Core.Path.{◌≡◌, refl, sym, ap, ◌∙◌}
use Prim.Native.Nat.{ℕ, zero, suc, ◌+◌, ◌*◌, ◌^◌, ◌≤◌, ◌<◌}
use native.Mathlib.Nat.{mul-zero, one-le-pow, mul-suc, add_comm}
use native.Mathlib.Omega.{arith}
use mathlib.Core.List.{List, [], ◌∷◌, ◌++◌, append_assoc}
use lib.ListN.{length, take, drop, get_or, length-append, length-drop}
use lib.Seq.{take_at, drop_at, drop-cons, drop-drop, drop-nil, take-nil, take-add, length-take-le}
use Rattle.numeral.specs.Numeral.{value, numeral, Digits, spread, gather}
use Rattle.numeral.proofs.Arithmetic.{pow_mul}
use Rattle.numeral.proofs.Values.{length_numeral, digits_at, digits_append, digits_take, digits_drop, digits_numeral, value_append, value_numeral, value_numeral_lt, value_inj, numeral_of_value}

pub length_spread : (b n : ℕ) (ds : List ℕ) → length (spread b n ds) ≡ n * length ds
unfolding spread
length_spread b n [] = sym (mul-zero n)
length_spread b n (d ∷ ds) = length-append (numeral b n d) (spread b n ds) ∙ rw (length_numeral, length_spread b n ds, mul-suc, add_comm)

pub digits_spread : (b n : ℕ) (ds : List ℕ) → 0 < b → Digits b (spread b n ds)
unfolding spread
digits_spread b n [] h = tt
digits_spread b n (d ∷ ds) h = digits_append b (numeral b n d) (spread b n ds) (digits_numeral b n d h) (digits_spread b n ds h)

pub spread_append : (b n : ℕ) (a c : List ℕ) → spread b n (a ++ c) ≡ spread b n a ++ spread b n c
unfolding spread
spread_append b n [] c = refl
spread_append b n (d ∷ a) c = rw (spread_append b n a c, append_assoc)

pub value_spread : (b n : ℕ) (ds : List ℕ) → Digits (b ^ n) ds → value b (spread b n ds) ≡ value (b ^ n) ds
unfolding spread
value_spread b n [] h = unfold value in refl
value_spread b n (d ∷ ds) h =
    value_append b (numeral b n d) (spread b n ds)
    ∙ rw (value_numeral_lt b n d h.0, value_spread b n ds h.1, length_spread, pow_mul) (unfold value in refl)

pub drop_spread : (b n k : ℕ) (ds : List ℕ) → drop (n * k) (spread b n ds) ≡ spread b n (drop k ds)
unfolding spread
drop_spread b n zero ds = rw mul-zero
drop_spread b n (suc k) [] = drop-nil (n * suc k)
drop_spread b n (suc k) (d ∷ ds) =
    rw (mul-suc, add_comm, ← drop-drop (n * k) n (numeral b n d ++ spread b n ds), drop_at (numeral b n d) (spread b n ds) n (length_numeral b n d)) (drop_spread b n k ds)

pub take_spread : (b n k : ℕ) (ds : List ℕ) → take (n * k) (spread b n ds) ≡ spread b n (take k ds)
unfolding spread
take_spread b n zero ds = rw mul-zero
take_spread b n (suc k) [] = take-nil (n * suc k)
take_spread b n (suc k) (d ∷ ds) =
    rw (mul-suc, add_comm, take-add n (n * k) (numeral b n d ++ spread b n ds), take_at (numeral b n d) (spread b n ds) n (length_numeral b n d), drop_at (numeral b n d) (spread b n ds) n (length_numeral b n d), take_spread b n k ds)

-- one digit of the list, as n digits of its spread
pub spread_at : (b n i : ℕ) (ds : List ℕ) → i < length ds → take n (drop (n * i) (spread b n ds)) ≡ numeral b n (get_or ds i 0)
unfolding spread
spread_at b n i ds h =
    rw (drop_spread b n i ds, drop-cons ds i 0 h) (take_at (numeral b n (get_or ds i 0)) (spread b n (drop (suc i) ds)) n (length_numeral b n (get_or ds i 0)))

-- a list of digits of base b ^ n is known from its spread
pub spread_inj : (b n : ℕ) (xs ys : List ℕ) → Digits (b ^ n) xs → Digits (b ^ n) ys → length xs ≡ length ys → spread b n xs ≡ spread b n ys → xs ≡ ys
spread_inj b n xs ys h k l e =
    value_inj (b ^ n) xs ys h k l (sym (value_spread b n xs h) ∙ ap (value b) e ∙ value_spread b n ys k)

-- k digits of base b ^ n are n * k digits of base b
pub spread_numeral : (b n k v : ℕ) → 0 < b → spread b n (numeral (b ^ n) k v) ≡ numeral b (n * k) v
spread_numeral b n k v pos =
    let ds : List ℕ = numeral (b ^ n) k v in
    value_inj b (spread b n ds) (numeral b (n * k) v) (digits_spread b n ds pos) (digits_numeral b (n * k) v pos)
    (length_spread b n ds ∙ rw (length_numeral, length_numeral))
    (value_spread b n ds (digits_numeral (b ^ n) k v (one-le-pow n b pos)) ∙ value_numeral (b ^ n) k v ∙ rw (← pow_mul) (sym (value_numeral b (n * k) v)))

-- What is gathered.

pub length_gather : (b n k : ℕ) (ds : List ℕ) → length (gather b n k ds) ≡ k
unfolding gather
length_gather b n k ds = length_numeral (b ^ n) k (value b ds)

pub digits_gather : (b n k : ℕ) (ds : List ℕ) → 0 < b → Digits (b ^ n) (gather b n k ds)
unfolding gather
digits_gather b n k ds pos = digits_numeral (b ^ n) k (value b ds) (one-le-pow n b pos)

pub spread_gather : (b n k : ℕ) (ds : List ℕ) → 0 < b → Digits b ds → length ds ≡ n * k → spread b n (gather b n k ds) ≡ ds
unfolding gather
spread_gather b n k ds pos h e = spread_numeral b n k (value b ds) pos ∙ numeral_of_value b (n * k) ds h e

pub gather_spread : (b n k : ℕ) (xs : List ℕ) → Digits (b ^ n) xs → length xs ≡ k → gather b n k (spread b n xs) ≡ xs
unfolding gather
gather_spread b n k xs h e = rw (value_spread b n xs h) (numeral_of_value (b ^ n) k xs h e)

-- some of what is gathered, gathered from its own digits
pub gather_part : (b n k i m : ℕ) (ds : List ℕ) → 0 < b → Digits b ds → length ds ≡ n * k → i + m ≤ k
    → gather b n m (take (n * m) (drop (n * i) ds)) ≡ take m (drop i (gather b n k ds))
gather_part b n k i m ds pos h e l =
    let xs = gather b n k ds in
    let digits = digits_take (b ^ n) m (drop i xs) (digits_drop (b ^ n) i xs (digits_gather b n k ds pos)) in
    let own : take (n * m) (drop (n * i) ds) ≡ spread b n (take m (drop i xs)) =
    ap (λ (l : List ℕ). take (n * m) (drop (n * i) l)) (sym (spread_gather b n k ds pos h e)) ∙ rw (drop_spread b n i xs, take_spread b n m (drop i xs)) in
    ap (gather b n m) own
    ∙ gather_spread b n m (take m (drop i xs)) digits (length-take-le m (drop i xs) (rw (length-drop, length_gather) (omega arith)))

pub gather_at : (b n k i : ℕ) (ds : List ℕ) → 0 < b → Digits b ds → length ds ≡ n * k → i < k → get_or (gather b n k ds) i 0 ≡ value b (take n (drop (n * i) ds))
gather_at b n k i ds pos h e l =
    let xs = gather b n k ds in
    let m : i < length xs = rw (length_gather b n k ds) l in
    sym (value_numeral_lt b n (get_or xs i 0) (digits_at (b ^ n) xs i (digits_gather b n k ds pos) m))
    ∙ ap (value b) (sym (spread_at b n i xs m) ∙ ap (λ l. take n (drop (n * i) l)) (spread_gather b n k ds pos h e))
