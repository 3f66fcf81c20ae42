-- The value of a hex digit: computed for all 256 bytes, and there and back.
use Prim.Native.Nat.{ℕ, suc, ◌+◌, ◌-◌, ◌≤◌, ◌<◌}
use Prim.Native.Char.{code}
use mathlib.Core.Path.{◌≡◌, refl, sym}
use mathlib.Core.List.{List, [], ◌∷◌}
use mathlib.Core.Bool.{Bool, true, false, cond, not, ◌&&◌, ◌||◌}
use Rattle.std.specs.Prelude.{None, Some}
use native.Mathlib.Omega.{arith}
use lib.Dec.{T, leb, ltb, eqb, eqb→eq, ltb→lt}
use lib.ListN.{length, get_or}
use borrow.Author.Tests.{lt-leb, le-leb}
use Rattle.rules.specs.Bytes.{among, upto, hex_digits, hex_digit}
use Rattle.rules.proofs.Tests.{is_true, is_false, both, all_among, below_is}
use Rattle.digits.specs.Digits.{hex_place, hex_value}

-- the digit d, the letter that is worth d + 10, and the other bytes
of_digit : (d : ℕ) → d < 10 → T (among (code "0" + d) hex_digits && eqb (hex_place (code "0" + d)) d)
unfolding hex_place
of_digit = below_is (λ d. among (code "0" + d) hex_digits && eqb (hex_place (code "0" + d)) d) 10 tt

of_letter : (d : ℕ) → d < 6 → T (among (code "A" + d) hex_digits && eqb (hex_place (code "A" + d)) (d + 10))
unfolding hex_place
of_letter = below_is (λ d. among (code "A" + d) hex_digits && eqb (hex_place (code "A" + d)) (d + 10)) 6 tt

of_other : (c : ℕ) → c < 256 → T (leb 48 c && leb c 57 || leb 65 c && leb c 70 || not (among c hex_digits))
of_other = below_is (λ c. leb 48 c && leb c 57 || leb 65 c && leb c 70 || not (among c hex_digits)) 256 tt

-- what stands behind the run up to x is x
found : (x : ℕ) (l : List ℕ) → length (upto x l) < length l → get_or l (length (upto x l)) 0 ≡ x
found x [] h = absurd (omega arith)
found x (y ∷ ys) h = go (eqb x y) (eqb→eq x y) (found x ys) h
  where
    go : (b : Bool) → (T b → x ≡ y) → (length (upto x ys) < length ys → get_or ys (length (upto x ys)) 0 ≡ x)
        → length (cond b [] (y ∷ upto x ys)) < suc (length ys) → get_or (y ∷ ys) (length (cond b [] (y ∷ upto x ys))) 0 ≡ x
    go true e ih h = sym (e tt)
    go false e ih h = ih (omega arith)

pub place_lt : (c : ℕ) → T (among c hex_digits) → hex_place c < 16
unfolding hex_place
place_lt c h = ltb→lt (hex_place c) 16 (all_among (λ x. ltb (hex_place x) 16) hex_digits c tt h)

-- the value of c, where it is known whether it is a digit
value_of : (c d : ℕ) → T (among c hex_digits && eqb (hex_place c) d) → hex_value c ≡ Some d
unfolding hex_value
value_of c d h =
    let (a, b) = both (among c hex_digits) (eqb (hex_place c) d) h in
    rw (is_true (among c hex_digits) a, eqb→eq (hex_place c) d b)

module _ (c : ℕ) where
  pub digit_value : 48 ≤ c → c ≤ 57 → Some (c - 48) ≡ hex_value c
  digit_value l u = let e : 48 + (c - 48) ≡ c = omega arith in sym (value_of c (c - 48) (rw e at (of_digit (c - 48) (omega arith))))

  pub letter_value : 65 ≤ c → c ≤ 70 → Some (c - 65 + 10) ≡ hex_value c
  letter_value l u = let e : 65 + (c - 65) ≡ c = omega arith in sym (value_of c (c - 65 + 10) (rw e at (of_letter (c - 65) (omega arith))))

  none_of : c < 256 → leb 48 c && leb c 57 ≡ false → leb 65 c && leb c 70 ≡ false → None ≡ hex_value c
  unfolding hex_value
  none_of b e f = let h = rw (e, f) at (of_other c b) in rw (is_false (among c hex_digits) h)

  pub none_below : c < 48 → None ≡ hex_value c
  none_below l = none_of (omega arith) (rw (lt-leb 48 c l)) (rw (lt-leb 65 c (omega arith)))

  pub none_between : 57 < c → c < 65 → None ≡ hex_value c
  none_between l u = none_of (omega arith) (rw (le-leb 48 c (omega arith), lt-leb c 57 l)) (rw (lt-leb 65 c u))

  pub none_above : 70 < c → c < 256 → None ≡ hex_value c
  none_above l b = none_of b (rw (le-leb 48 c (omega arith), lt-leb c 57 (omega arith))) (rw (le-leb 65 c (omega arith), lt-leb c 70 l))

-- For callers: a digit and its value.
pub digit_of_value : (c d : ℕ) → hex_value c ≡ Some d → (d < 16) × (hex_digit d ≡ c)
unfolding hex_value hex_place
digit_of_value c d e = go (among c hex_digits) refl e
  where
    go : (b : Bool) → among c hex_digits ≡ b → cond b (Some (hex_place c)) None ≡ Some d → (d < 16) × (hex_digit d ≡ c)
    go true m e =
        let f : hex_place c ≡ d = cc in
        let l : hex_place c < 16 = place_lt c (rw m tt) in
        (omega arith, rw (sym f) (found c hex_digits l))
    go false m e = let z : ◌≡◌ {A = ℕ} 0 1 = cc in absurd (omega arith)

pub value_of_digit : (n : ℕ) → n < 16 → hex_value (hex_digit n) ≡ Some n
unfolding hex_value hex_place
value_of_digit n h = value_of (hex_digit n) n (below_is (λ n. among (hex_digit n) hex_digits && eqb (hex_place (hex_digit n)) n) 16 tt n h)
