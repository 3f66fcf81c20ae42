-- The first one bit, some bits after the other: bits that are zeros are passed, and of others the first one is that of their number.
use Prim.Native.Nat.{ℕ, ◌+◌, ◌-◌, ◌*◌, ◌≤◌, ◌<◌}
use mathlib.Core.Path.{◌≡◌, refl, sym, ap, ◌∙◌}
use mathlib.Core.Bool.{Bool, true, false, cond}
use mathlib.Core.List.{List, [], ◌∷◌, ◌++◌}
use native.Mathlib.Omega.{arith}
use lib.Dec.{eqb, lit<}
use lib.ListN.{length, take, drop, length-drop}
use lib.Seq.{take-add, drop-drop, length-take-le}
use Rattle.numeral.specs.Numeral.{spread}
use Rattle.numeral.proofs.Values.{digits_take, digits_drop, length_numeral, numeral_of_value}
use Rattle.numeral.proofs.Spreads.{length_spread, digits_spread}
use Rattle.rules.specs.Bytes.{upto}
use Rattle.rules.specs.Coding.{binary}
use Rattle.rules.proofs.BankReads.{at_lt}
use Rattle.fields.specs.BitReaders.{code_bits, code_field, first_one}
use Rattle.fields.proofs.Zeros.{zeros_all, zeros_some}

-- a run up to 1 that goes to the end goes on, and one that stops before stays
upto_on : (l m : List ℕ) → length (upto 1 l) ≡ length l → length (upto 1 (l ++ m)) ≡ length l + length (upto 1 m)
upto_on [] m h = omega arith
upto_on (x ∷ xs) m h = go (eqb 1 x) h (upto_on xs m)
  where
    go : (t : Bool) → length (cond t [] (x ∷ upto 1 xs)) ≡ length (x ∷ xs) → (length (upto 1 xs) ≡ length xs → length (upto 1 (xs ++ m)) ≡ length xs + length (upto 1 m))
        → length (cond t [] (x ∷ upto 1 (xs ++ m))) ≡ length (x ∷ xs) + length (upto 1 m)
    go true h ih = absurd (omega arith)
    go false h ih = omega (arith, ih (omega arith))

upto_in : (l m : List ℕ) → length (upto 1 l) < length l → length (upto 1 (l ++ m)) ≡ length (upto 1 l)
upto_in [] m h = absurd (omega arith)
upto_in (x ∷ xs) m h = go (eqb 1 x) h (upto_in xs m)
  where
    go : (t : Bool) → length (cond t [] (x ∷ upto 1 xs)) < length (x ∷ xs) → (length (upto 1 xs) < length xs → length (upto 1 (xs ++ m)) ≡ length (upto 1 xs))
        → length (cond t [] (x ∷ upto 1 (xs ++ m))) ≡ length (cond t [] (x ∷ upto 1 xs))
    go true h ih = refl
    go false h ih = omega (arith, ih (omega arith))

-- the next w bits, and those behind them
module _ (b : List ℕ) (c w end : ℕ) (l : c + w ≤ end) (lie : 0x20 + end ≤ 0x10 + 8 * length b) where
  next : List ℕ
  next = take w (drop (0x20 + c - 0x10) (spread 2 8 b))

  next_is : next ≡ binary w (code_field b c w)
  unfolding next
  next_is =
      let S = spread 2 8 b in
      let d = digits_take 2 w (drop (0x20 + c - 0x10) S) (digits_drop 2 (0x20 + c - 0x10) S (digits_spread 2 8 b (lit< tt))) in
      sym (numeral_of_value 2 w next d (length-take-le w (drop (0x20 + c - 0x10) S) (rw length-drop (omega (arith, length_spread 2 8 b)))))

  split : code_bits b c end ≡ binary w (code_field b c w) ++ code_bits b (c + w) end
  unfolding next
  split =
      let S = spread 2 8 b in
      let k : end - c ≡ w + (end - (c + w)) = omega arith in
      let q : 0x20 + c - 0x10 + w ≡ 0x20 + (c + w) - 0x10 = omega arith in
      rw (k, take-add w (end - (c + w)) (drop (0x20 + c - 0x10) S), drop-drop w (0x20 + c - 0x10) S, q) (ap (◌++ code_bits b (c + w) end) next_is)

  pub passes : code_field b c w ≡ 0 → first_one b c end ≡ first_one b (c + w) end
  passes z =
      let v = code_field b c w in
      let e = upto_on (binary w v) (code_bits b (c + w) end) (rw z (zeros_all w ∙ sym (length_numeral 2 w 0))) in
      omega (arith, ap (λ l. length (upto 1 l)) split, e, length_numeral 2 w v)

  pub stops : w ≤ 64 → ¬ (code_field b c w ≡ 0) → c + length (upto 1 (binary w (code_field b c w))) ≡ first_one b c end
  stops narrow some =
      let v = code_field b c w in
      let e = upto_in (binary w v) (code_bits b (c + w) end) (rw length_numeral (zeros_some v w (at_lt b (0x20 + c) w) narrow some)) in
      omega (arith, ap (λ l. length (upto 1 l)) split, e)
