-- Rule 15: the bits behind the parts are zeros exactly if the first one of them is the end.
use Prim.Native.Nat.{ℕ, ◌+◌, ◌-◌, ◌*◌, ◌≤◌, ◌<◌}
use mathlib.Core.Path.{◌≡◌, refl, ap, ◌∙◌}
use mathlib.Core.Bool.{Bool, true, false, ◌&&◌, cond}
use mathlib.Core.List.{List, [], ◌∷◌}
use native.Mathlib.Omega.{arith}
use lib.Dec.{T, eqb, eqb→eq}
use lib.ListN.{length, drop, length-drop}
use lib.Seq.{take_all, drop-drop}
use Rattle.numeral.specs.Numeral.{Digits, spread}
use Rattle.numeral.proofs.Values.{digits_drop}
use Rattle.rules.specs.Bytes.{upto}
use Rattle.rules.specs.Coding.{word_count, bank_size}
use Rattle.rules.specs.BankNumbers.{all_zero, code_in}
use Rattle.rules.proofs.Tests.{apart, both}
use Rattle.rules.proofs.CodeReads.{take_inside}
use Rattle.rules.proofs.BankReads.{code_bits_lem, code_length}
use Rattle.fields.specs.BitReaders.{code_bits, first_one}

-- a run up to 1 goes to the end of zeros, and of no other bits
run_of_zeros : (l : List ℕ) → T (all_zero l) → length (upto 1 l) ≡ length l
run_of_zeros [] h = refl
run_of_zeros (x ∷ xs) h =
    let (z, r) = both (eqb x 0) (all_zero xs) h in
    rw (eqb→eq x 0 z) (omega (arith, run_of_zeros xs r))

zeros_of_run : (l : List ℕ) → Digits 2 l → length (upto 1 l) ≡ length l → T (all_zero l)
zeros_of_run [] d h = tt
zeros_of_run (x ∷ xs) d h = go (eqb 1 x) refl h (zeros_of_run xs d.1)
  where
    go : (t : Bool) → eqb 1 x ≡ t → length (cond t [] (x ∷ upto 1 xs)) ≡ length (x ∷ xs) → (length (upto 1 xs) ≡ length xs → T (all_zero xs)) → T (eqb x 0 && all_zero xs)
    go true e h ih = absurd (omega arith)
    go false e h ih = let z : x ≡ 0 = omega (arith, d.0, apart 1 x (rw e tt)) in rw z (ih (omega arith))

run_within : (l : List ℕ) → length (upto 1 l) ≤ length l
run_within [] = omega arith
run_within (x ∷ xs) = go (eqb 1 x) (run_within xs)
  where
    go : (t : Bool) → length (upto 1 xs) ≤ length xs → length (cond t [] (x ∷ upto 1 xs)) ≤ length (x ∷ xs)
    go true h = omega arith
    go false h = omega arith

-- the bits of the code from n on
module _ (b : List ℕ) (long : bank_size (word_count b) ≤ length b) (n : ℕ) (inside : n ≤ 16 * word_count b) where
  size : length (drop n (code_in b)) ≡ 16 * word_count b - n
  size = length-drop n (code_in b) ∙ ap (◌- n) (code_length b long)

  bits_are : code_bits b n (16 * word_count b) ≡ drop n (code_in b)
  bits_are =
      let k = 16 * word_count b - n in
      let S = spread 2 8 b in
      let q : 0x20 + n - 0x10 ≡ 16 + n = omega arith in
      rw (q, ← drop-drop n 16 S, ← take_inside n k (16 * word_count b) (drop 16 S) (omega arith)) (take_all k (drop n (code_in b)) (omega (arith, size)))

  pub first_is : first_one b n (16 * word_count b) ≡ n + length (upto 1 (drop n (code_in b)))
  first_is = ap (λ l. n + length (upto 1 l)) bits_are

  pub some_one : first_one b n (16 * word_count b) < 16 * word_count b → ¬ T (all_zero (drop n (code_in b)))
  some_one h z = omega (arith, first_is, run_of_zeros (drop n (code_in b)) z, size)

  pub no_one : 16 * word_count b ≤ first_one b n (16 * word_count b) → T (all_zero (drop n (code_in b)))
  no_one h = zeros_of_run (drop n (code_in b)) (digits_drop 2 n (code_in b) (code_bits_lem b long)) (omega (arith, first_is, size, run_within (drop n (code_in b))))
