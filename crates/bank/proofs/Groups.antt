-- The groups of a string, some at a time: they are the number in their bits.
use Prim.Native.Nat.{ℕ, ◌+◌, ◌-◌, ◌*◌, ◌≤◌}
use mathlib.Core.Path.{◌≡◌, sym, ap, ◌∙◌}
use mathlib.Core.List.{List, ◌++◌, append_assoc}
use native.Mathlib.Omega.{arith}
use lib.Dec.{lit<}
use lib.ListN.{length, take, drop, replicate, length-drop, length-replicate, replicate-append-replicate}
use lib.Seq.{take-add, take_all, length-take-le, drop-drop}
use Rattle.numeral.specs.Numeral.{numeral, spread, gather, splice}
use Rattle.numeral.proofs.Values.{digits_take, digits_drop}
use Rattle.numeral.proofs.Spreads.{length_spread, digits_spread, length_gather, gather_part}
use Rattle.numeral.proofs.Splices.{splice_at}
use Rattle.rules.proofs.CodeReads.{take_inside}
use Rattle.fields.specs.BitReaders.{code_field}
use Rattle.bank.specs.Reading.{groups_at}

pub length_groups : (b : List ℕ) (c k : ℕ) → length (groups_at b c k) ≡ k
length_groups b c k = length_gather 2 7 k (take (7 * k) (drop (16 + c) (spread 2 8 b)))

-- i groups are stored in twenty places, and zeros stand behind them
abbrev pub Stored : List ℕ → ℕ → ℕ → ℕ → List ℕ → Type 0
Stored b c k i l = l ≡ take i (groups_at b c k) ++ replicate (20 - i) 0

module _ (b : List ℕ) (c k : ℕ) (inside : 0x20 + c + 7 * k ≤ 0x10 + 8 * length b) where
  -- some groups are the number in their own bits
  some_groups : (i n : ℕ) → i + n ≤ k → numeral 128 n (code_field b (c + 7 * i) (7 * n)) ≡ take n (drop i (groups_at b c k))
  unfolding gather
  some_groups i n h =
      let l = drop (16 + c) (spread 2 8 b) in
      let place : 0x20 + (c + 7 * i) - 0x10 ≡ 16 + c + 7 * i = omega arith in
      let size : length (take (7 * k) l) ≡ 7 * k = length-take-le (7 * k) l (rw (length-drop, length_spread) (omega arith)) in
      rw (place, ← drop-drop (7 * i) (16 + c) (spread 2 8 b), ← take_inside (7 * i) (7 * n) (7 * k) l (omega arith))
      (gather_part 2 7 k i n (take (7 * k) l) (lit< tt) (digits_take 2 (7 * k) l (digits_drop 2 (16 + c) (spread 2 8 b) (digits_spread 2 8 b (lit< tt)))) size h)

  -- n more
  pub next_groups : (i n : ℕ) (l : List ℕ) → i + n ≤ k → k ≤ 20 → Stored b c k i l → Stored b c k (i + n) (splice l i (numeral 128 n (code_field b (c + 7 * i) (7 * n))))
  next_groups i n l h m e =
      let gs = groups_at b c k in
      let x = take n (drop i gs) in
      let size : length gs ≡ k = length_groups b c k in
      let count : n + (20 - (i + n)) ≡ 20 - i = omega arith in
      let zeros : replicate {A = ℕ} (20 - i) 0 ≡ replicate n 0 ++ replicate (20 - (i + n)) 0 = rw (← count) (sym (replicate-append-replicate n (20 - (i + n)) 0)) in
      rw (some_groups i n h, e, zeros, take-add i n gs, append_assoc)
      (splice_at (take i gs) (replicate n 0) x (replicate (20 - (i + n)) 0) i (length-take-le i gs (omega arith)) (length-replicate n 0 ∙ sym (length-take-le n (drop i gs) (rw length-drop (omega arith)))))

-- all of them
pub all_groups : (b : List ℕ) (c k : ℕ) {l : List ℕ} → Stored b c k k l → l ≡ groups_at b c k ++ replicate (20 - k) 0
all_groups b c k e = e ∙ ap (λ gs. gs ++ replicate (20 - k) 0) (take_all k (groups_at b c k) (omega (arith, length_groups b c k)))
