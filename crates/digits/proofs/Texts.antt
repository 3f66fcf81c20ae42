-- Digits written one by one: what stands there after one more.
use mathlib.Core.Path.{◌≡◌, refl, sym, ap, ◌∙◌}
use Prim.Native.Nat.{ℕ, suc, ◌+◌, ◌-◌, ◌*◌, ◌/◌, ◌%◌, ◌≤◌, ◌<◌}
use Prim.Native.Char.{code}
use native.Mathlib.Omega.{arith}
use mathlib.Core.List.{List, [], ◌∷◌, ◌++◌, append_assoc, map-append}
use mathlib.Core.Bool.{cond}
use lib.ListN.{length, take, get_or, set, length-append, length-map}
use lib.Seq.{take-suc, length-take-le}
use borrow.Author.Tests.{lt-ltb, le-ltb}
use lib.Dec.{lit<, ltb, eqb, eqb→eq}
use Rattle.numeral.specs.Numeral.{numeral, size, shortest, splice}
use Rattle.numeral.proofs.Values.{length_numeral, numeral_nil, numeral_snoc}
use Rattle.numeral.proofs.Shortest.{length_shortest, shortest_small, shortest_large}
use Rattle.numeral.proofs.Splices.{splice_nil, splice_one, splice_snoc, splice_behind}
use Rattle.rules.specs.Bytes.{digits_text, hex_digit, hex_text}
use Rattle.rules.proofs.Tests.{below_is}

pub length_text : (ds : List ℕ) → length (digits_text ds) ≡ length ds
length_text ds = length-map ds (code "0" +◌)

-- one more digit after those of ds
put_last : (s : List ℕ) (at : ℕ) (ds : List ℕ) (d n : ℕ) → length ds ≡ n → at + n < length s
    → set (splice s at (digits_text ds)) (at + n) (code "0" + d) ≡ splice s at (digits_text (ds ++ (d ∷ [])))
put_last s at ds d n e h =
    splice_snoc s at (digits_text ds) (code "0" + d) (at + n) (ap (at +◌) (length_text ds ∙ e)) h ∙ ap (splice s at) (sym (map-append (code "0" +◌) ds (d ∷ [])))

module _ (s : List ℕ) (at v : ℕ) where
  pub put_small : v < 10 → at < length s → set s at (code "0" + v) ≡ splice s at (digits_text (shortest 10 v))
  put_small h k = sym (rw (shortest_small 10 (lit< tt) v h) (splice_one s at (code "0" + v) k))

  pub put_large : 10 ≤ v → at + size 10 (v / 10) < length s
      → set (splice s at (digits_text (shortest 10 (v / 10)))) (at + size 10 (v / 10)) (code "0" + v % 10) ≡ splice s at (digits_text (shortest 10 v))
  put_large h k =
      rw (shortest_large 10 (lit< tt) v h) (put_last s at (shortest 10 (v / 10)) (v % 10) (size 10 (v / 10)) (length_shortest 10 (lit< tt) (v / 10)) k)

-- the last digit of v is stored, and then the n digits before it
put_digit : (s : List ℕ) (at v n : ℕ) → at + n < length s
    → splice (set s (at + n) (code "0" + v % 10)) at (digits_text (numeral 10 n (v / 10))) ≡ splice s at (digits_text (numeral 10 (n + 1) v))
put_digit s at v n h =
    let ds : List ℕ = numeral 10 n (v / 10) in
    splice_behind s at (digits_text ds) (code "0" + v % 10) (at + n) (ap (at +◌) (length_text ds ∙ length_numeral 10 n (v / 10))) h
    ∙ rw (numeral_snoc 10 n v) (ap (splice s at) (sym (map-append (code "0" +◌) ds (v % 10 ∷ []))))

-- the same where i digits are left to write, and z is what stands there afterwards
pub digit_more : (s z : List ℕ) (at v i : ℕ) → 0 < i → at + i ≤ length s → splice s at (digits_text (numeral 10 i v)) ≡ z
    → splice (set s (at + (i - 1)) (code "0" + v % 10)) at (digits_text (numeral 10 (i - 1) (v / 10))) ≡ z
digit_more s z at v i p h e = let one : i - 1 + 1 ≡ i = omega arith in put_digit s at v (i - 1) (omega arith) ∙ rw one e

pub none_left : (s : List ℕ) (at v i : ℕ) → i ≤ 0 → splice s at (digits_text (numeral 10 i v)) ≡ s
none_left s at v i h = let none : i ≡ 0 = omega arith in rw (none, numeral_nil) (splice_nil s at)

-- Hexadecimal.

-- the digits 0 to 9, then the letters from A on
abbrev hex_code : ℕ → ℕ
hex_code d = cond (ltb d 10) (code "0" + d) (code "A" + (d - 10))

module _ (d : ℕ) (h : d < 16) where
  hex_is : hex_digit d ≡ hex_code d
  hex_is = eqb→eq (hex_digit d) (hex_code d) (below_is (λ n. eqb (hex_digit n) (hex_code n)) 16 tt d h)

  pub hex_digit_lem : d < 10 → hex_digit d ≡ code "0" + d
  hex_digit_lem l = hex_is ∙ rw (lt-ltb d 10 l)

  pub hex_letter : 10 ≤ d → hex_digit d ≡ code "A" + (d - 10)
  hex_letter l = hex_is ∙ rw (le-ltb d 10 l)

pub length_hex : (xs : List ℕ) → length (hex_text xs) ≡ 2 * length xs
length_hex [] = refl
length_hex (x ∷ xs) = omega (arith, length_hex xs)

hex_snoc : (xs : List ℕ) (x : ℕ) → hex_text (xs ++ (x ∷ [])) ≡ hex_text xs ++ (hex_digit (x / 16) ∷ hex_digit (x % 16) ∷ [])
hex_snoc [] x = refl
hex_snoc (y ∷ xs) x = rw (hex_snoc xs x)

-- one more byte
pub put_byte : (s xs : List ℕ) (at i p : ℕ) → i < length xs → p ≡ at + 2 * i → at + 2 * length xs ≤ length s
    → set (set (splice s at (hex_text (take i xs))) p (hex_digit (get_or xs i 0 / 16))) (p + 1) (hex_digit (get_or xs i 0 % 16)) ≡ splice s at (hex_text (take (suc i) xs))
put_byte s xs at i p h e k =
    let x : ℕ = get_or xs i 0 in
    let t : List ℕ = hex_text (take i xs) in
    let l : length t ≡ 2 * i = length_hex (take i xs) ∙ rw (length-take-le i xs (omega arith)) in
    ap (λ (r : List ℕ). set r (p + 1) (hex_digit (x % 16))) (splice_snoc s at t (hex_digit (x / 16)) p (omega arith) (omega arith))
    ∙ splice_snoc s at (t ++ (hex_digit (x / 16) ∷ [])) (hex_digit (x % 16)) (p + 1) (simp length-append (omega arith)) (omega arith)
    ∙ rw (take-suc xs i 0 h, hex_snoc (take i xs) x, append_assoc)
