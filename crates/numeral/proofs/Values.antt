-- `value` and `numeral` are each other's inverse: bounds, joining, there and back, cutting in two.
use mathlib.Core.Path.{◌≡◌, refl, sym, ap, ap₂, ◌∙◌}
use Prim.Native.Nat.{ℕ, zero, suc, ◌+◌, ◌-◌, ◌*◌, ◌/◌, ◌%◌, ◌^◌, ◌<◌, suc-le-suc}
use native.Mathlib.Nat.{add-zero, zero-add, add_assoc, zero-mul, mul_assoc, mul-one, one-mul, add-mul, pow-zero, pow-suc, pow-succ', div-one, mod-one, mod-lt, mod-eq_of_lt, div-div-eq-div-mul, mod-mod, add-suc, zero-lt-suc}
use native.Mathlib.Numerals.{add-one}
use native.Mathlib.Omega.{arith}
use mathlib.Core.List.{List, [], ◌∷◌, ◌++◌, append_assoc, append-nil}
use lib.ListN.{length, replicate, take, drop, get_or, length-append, length-drop, take-append-drop}
use lib.Arith.{digits_lt, digits_div, digits_mod}
use lib.Pow.{pow-add}
use Rattle.numeral.specs.Numeral.{value, numeral, Digits}
use Rattle.numeral.proofs.Arithmetic.{mod_mul'}

pub length_numeral : (b n v : ℕ) → length (numeral b n v) ≡ n
unfolding numeral
length_numeral b zero v = refl
length_numeral b (suc n) v = rw (length-append, length_numeral b n (v / b)) (omega arith)

pub digits_append : (b : ℕ) (a c : List ℕ) → Digits b a → Digits b c → Digits b (a ++ c)
digits_append b [] c h k = k
digits_append b (d ∷ a) c h k = (h.0, digits_append b a c h.1 k)

pub digits_numeral : (b n v : ℕ) → 0 < b → Digits b (numeral b n v)
unfolding numeral
digits_numeral b zero v h = tt
digits_numeral b (suc n) v h = digits_append b (numeral b n (v / b)) (v % b ∷ []) (digits_numeral b n (v / b) h) (mod-lt v h, tt)

-- from a bound at each index, as a slice gives it
pub digits_of_lem : (b : ℕ) (ds : List ℕ) → ((i : ℕ) → i < length ds → get_or ds i 0 < b) → Digits b ds
digits_of_lem b [] h = tt
digits_of_lem b (d ∷ ds) h = (h 0 (zero-lt-suc (length ds)), digits_of_lem b ds (λ i k. h (suc i) (suc-le-suc k)))

pub digits_at : (b : ℕ) (ds : List ℕ) (i : ℕ) → Digits b ds → i < length ds → get_or ds i 0 < b
digits_at b [] i h l = absurd (omega arith)
digits_at b (d ∷ ds) zero h l = h.0
digits_at b (d ∷ ds) (suc i) h l = digits_at b ds i h.1 (omega arith)

pub digits_take : (b n : ℕ) (ds : List ℕ) → Digits b ds → Digits b (take n ds)
digits_take b zero ds h = tt
digits_take b (suc n) [] h = tt
digits_take b (suc n) (d ∷ ds) h = (h.0, digits_take b n ds h.1)

pub digits_drop : (b n : ℕ) (ds : List ℕ) → Digits b ds → Digits b (drop n ds)
digits_drop b zero ds h = h
digits_drop b (suc n) [] h = tt
digits_drop b (suc n) (d ∷ ds) h = digits_drop b n ds h.1

pub digits_left : (b : ℕ) (a c : List ℕ) → Digits b (a ++ c) → Digits b a
digits_left b [] c h = tt
digits_left b (d ∷ a) c h = (h.0, digits_left b a c h.1)

pub digits_right : (b : ℕ) (a c : List ℕ) → Digits b (a ++ c) → Digits b c
digits_right b [] c h = h
digits_right b (d ∷ a) c h = digits_right b a c h.1

pub digits_zeros : (b n : ℕ) → 0 < b → Digits b (replicate n 0)
digits_zeros b zero h = tt
digits_zeros b (suc n) h = (h, digits_zeros b n h)

-- Joining.

pub value_nil : (b : ℕ) → value b [] ≡ 0
unfolding value
value_nil b = refl

pub numeral_nil : (b v : ℕ) → numeral b 0 v ≡ []
unfolding numeral
numeral_nil b v = refl

pub value_append : (b : ℕ) (a c : List ℕ) → value b (a ++ c) ≡ value b a * b ^ length c + value b c
unfolding value
value_append b [] c = rw (zero-mul, zero-add)
value_append b (d ∷ ds) c = rw (length-append ds c, value_append b ds c, pow-add, ← add_assoc, add-mul, mul_assoc)

pub value_snoc : (b : ℕ) (ds : List ℕ) (d : ℕ) → value b (ds ++ (d ∷ [])) ≡ value b ds * b + d
unfolding value
value_snoc b ds d = value_append b ds (d ∷ []) ∙ rw (pow-suc b 0, pow-zero, one-mul, mul-one, add-zero)

pub numeral_append : (b m n v : ℕ) → numeral b (m + n) v ≡ numeral b m (v / b ^ n) ++ numeral b n v
unfolding numeral
numeral_append b m zero v = rw (add-zero, pow-zero, div-one, append-nil)
numeral_append b m (suc n) v =
    rw (add-suc, numeral_append b m n (v / b), div-div-eq-div-mul, ← pow-succ' b n, append_assoc)

pub numeral_snoc : (b n v : ℕ) → numeral b (n + 1) v ≡ numeral b n (v / b) ++ (v % b ∷ [])
unfolding numeral
numeral_snoc b n v = rw add-one

-- There and back.

pub value_lt : (b : ℕ) (ds : List ℕ) → Digits b ds → value b ds < b ^ length ds
unfolding value
value_lt b [] h = rw pow-zero (omega arith)
value_lt b (d ∷ ds) h = rw pow-succ' (digits_lt h.0 (value_lt b ds h.1))

pub value_numeral : (b n v : ℕ) → value b (numeral b n v) ≡ v % b ^ n
unfolding numeral
value_numeral b zero v = rw (pow-zero, mod-one) (unfold value in refl)
value_numeral b (suc n) v =
    value_snoc b (numeral b n (v / b)) (v % b) ∙ rw (value_numeral b n (v / b), pow-suc) (sym (mod_mul' v (b ^ n) b))

pub value_numeral_lt : (b n v : ℕ) → v < b ^ n → value b (numeral b n v) ≡ v
value_numeral_lt b n v h = value_numeral b n v ∙ mod-eq_of_lt h

-- no two lists of n digits have one value
pub value_inj : (b : ℕ) (xs ys : List ℕ) → Digits b xs → Digits b ys → length xs ≡ length ys → value b xs ≡ value b ys → xs ≡ ys
unfolding value
value_inj b [] [] h k l e = refl
value_inj b [] (y ∷ ys) h k l e = absurd (omega arith)
value_inj b (x ∷ xs) [] h k l e = absurd (omega arith)
value_inj b (x ∷ xs) (y ∷ ys) h k l e =
    let n : length xs ≡ length ys = omega arith in
    let e' : x * b ^ length xs + value b xs ≡ y * b ^ length xs + value b ys = e ∙ rw n in
    let lt : value b ys < b ^ length xs = rw n (value_lt b ys k.1) in
    ap₂ (λ (d : ℕ) (r : List ℕ). d ∷ r)
    (sym (digits_div x (value_lt b xs h.1)) ∙ ap (λ (v : ℕ). v / b ^ length xs) e' ∙ digits_div y lt)
    (value_inj b xs ys h.1 k.1 n (sym (digits_mod x (value_lt b xs h.1)) ∙ ap (λ (v : ℕ). v % b ^ length xs) e' ∙ digits_mod y lt))

pub numeral_value : (b : ℕ) (ds : List ℕ) → Digits b ds → numeral b (length ds) (value b ds) ≡ ds
unfolding numeral
numeral_value b [] h = refl
numeral_value b (d ∷ ds) h =
    value_inj b (numeral b (length (d ∷ ds)) (value b (d ∷ ds))) (d ∷ ds)
    (digits_numeral b (length (d ∷ ds)) (value b (d ∷ ds)) (omega (arith, h.0)))
    h
    (length_numeral b (length (d ∷ ds)) (value b (d ∷ ds)))
    (value_numeral_lt b (length (d ∷ ds)) (value b (d ∷ ds)) (value_lt b (d ∷ ds) h))

-- the same where the width is known by an equation
pub numeral_of_value : (b n : ℕ) (ds : List ℕ) → Digits b ds → length ds ≡ n → numeral b n (value b ds) ≡ ds
numeral_of_value b n ds h e = rw (← e) (numeral_value b ds h)

pub numeral_inj : (b n v w : ℕ) → v < b ^ n → w < b ^ n → numeral b n v ≡ numeral b n w → v ≡ w
numeral_inj b n v w h k e = sym (value_numeral_lt b n v h) ∙ ap (value b) e ∙ value_numeral_lt b n w k

-- only the n low digits count
pub numeral_mod : (b n v : ℕ) → 0 < b → numeral b n (v % b ^ n) ≡ numeral b n v
numeral_mod b n v h =
    value_inj b (numeral b n (v % b ^ n)) (numeral b n v) (digits_numeral b n _ h) (digits_numeral b n _ h)
    (length_numeral b n _ ∙ sym (length_numeral b n v))
    (value_numeral b n _ ∙ mod-mod v (b ^ n) ∙ sym (value_numeral b n v))

-- Cutting in two.

module _ (b : ℕ) (ds : List ℕ) (h : Digits b ds) (n : ℕ) where
  halves : value b ds ≡ value b (take n ds) * b ^ length (drop n ds) + value b (drop n ds)
  halves = sym (ap (value b) (take-append-drop n ds)) ∙ value_append b (take n ds) (drop n ds)

  pub value_take : value b (take n ds) ≡ value b ds / b ^ (length ds - n)
  value_take = sym (rw (halves, ← length-drop n ds) (digits_div (value b (take n ds)) (value_lt b (drop n ds) (digits_drop b n ds h))))

  pub value_drop : value b (drop n ds) ≡ value b ds % b ^ (length ds - n)
  value_drop = sym (rw (halves, ← length-drop n ds) (digits_mod (value b (take n ds)) (value_lt b (drop n ds) (digits_drop b n ds h))))
