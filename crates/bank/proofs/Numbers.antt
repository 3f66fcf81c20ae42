-- The parts of a code, in the numbers that stand at their code bits.
use Prim.Native.Nat.{ℕ, ◌+◌, ◌*◌, ◌^◌, ◌≤◌, ◌<◌}
use mathlib.Core.Path.{◌≡◌, refl}
use mathlib.Core.List.{List, ◌∷◌}
use native.Mathlib.Omega.{arith}
use lib.Dec.{ltb}
use lib.ListN.{length, drop}
use lib.Seq.{drop-drop}
use borrow.Author.Tests.{lt-ltb, le-ltb, ne_eqb}
use Rattle.numeral.specs.Numeral.{numeral, shortest}
use Rattle.numeral.proofs.Values.{length_numeral}
use Rattle.rules.specs.Answers.{Answer, refused, taken, ◌>>=◌, ◌>>◌, demand}
use Rattle.rules.specs.declared.Body.{Body}
use Rattle.rules.specs.declared.Parts.TheVariants.{F}
use Rattle.rules.specs.Schemes.{at_most, prefix_bits, prefix_digits}
use Rattle.rules.specs.Grammar.{laid, body_layout}
use Rattle.rules.specs.Coding.{word_count, bank_size}
use Rattle.rules.specs.Conditions.{partition_in, row_in}
use Rattle.rules.specs.BankNumbers.{decimal, field_in, fields_in, code_in}
use Rattle.rules.proofs.BankReads.{code_seen}
use Rattle.fields.specs.BitReaders.{code_field}

-- the address of the reference
abbrev pub reference_address : List ℕ → ℕ
reference_address b = 0x2E + prefix_bits (row_in b)

-- a part in front, and another in front of that
in_front : (x y : List ℕ) (a : Answer (List (List ℕ))) → ((a >>= λ ps. taken (y ∷ ps)) >>= λ ps. taken (x ∷ ps)) ≡ (a >>= λ ps. taken (x ∷ y ∷ ps))
in_front x y (refused n p) = refl
in_front x y (taken ps) = refl

module _ (b : List ℕ) (long : bank_size (word_count b) ≤ length b) where
  -- A field that begins at code bit c.
  module _ (c w : ℕ) (inside : c + w ≤ 16 * word_count b) where
    pub decimal_at : (m a n : ℕ) → decimal m a w n (drop c (code_in b)) ≡ (demand (ltb (code_field b c w) (10 ^ n)) m a >> taken (record { symbols = numeral 10 n (code_field b c w); next = a + w; rest = drop (c + w) (code_in b) }))
    decimal_at m a n = rw (code_seen b long c w inside, drop-drop w c (code_in b))

    pub at_most_at : (a n : ℕ) → field_in a (at_most w n) (drop c (code_in b)) ≡ (demand (ltb (code_field b c w) (10 ^ n)) 18 a >> taken (record { symbols = shortest 10 (code_field b c w); next = a + w; rest = drop (c + w) (code_in b) }))
    at_most_at a n = rw (code_seen b long c w inside, drop-drop w c (code_in b))

  -- The filter and the company prefix.
  module _ (body : Body) where
    pub no_row : 14 ≤ 16 * word_count b → partition_in b ≡ 7 → fields_in 0x28 (laid (F body)) (drop 8 (code_in b)) ≡ refused 16 0x2B
    no_row h e = rw (drop-drop 3 8 (code_in b), ← code_seen b long 11 3 (omega arith), e)

    module _ (inside : 14 + prefix_bits (row_in b) ≤ 16 * word_count b) (row : ¬ (partition_in b ≡ 7)) where
      pub large_prefix : 10 ^ prefix_digits (row_in b) ≤ code_field b 14 (prefix_bits (row_in b)) → fields_in 0x28 (laid (F body)) (drop 8 (code_in b)) ≡ refused 17 0x2E
      large_prefix h =
          rw (drop-drop 3 8 (code_in b), ← code_seen b long 11 3 (omega arith), ne_eqb (partition_in b) 7 row, drop-drop 3 11 (code_in b), decimal_at 14 (prefix_bits (row_in b)) inside 17 0x2E (prefix_digits (row_in b)), le-ltb (code_field b 14 (prefix_bits (row_in b))) (10 ^ prefix_digits (row_in b)) h)

      pub small_prefix : code_field b 14 (prefix_bits (row_in b)) < 10 ^ prefix_digits (row_in b)
          → fields_in 0x28 (laid (F body)) (drop 8 (code_in b)) ≡ (fields_in (reference_address b) (body_layout body (prefix_digits (row_in b))) (drop (14 + prefix_bits (row_in b)) (code_in b)) >>= λ ps. taken (shortest 10 (code_field b 8 3) ∷ numeral 10 (prefix_digits (row_in b)) (code_field b 14 (prefix_bits (row_in b))) ∷ ps))
      small_prefix h =
          rw (drop-drop 3 8 (code_in b), ← code_seen b long 11 3 (omega arith), ne_eqb (partition_in b) 7 row, drop-drop 3 11 (code_in b), decimal_at 14 (prefix_bits (row_in b)) inside 17 0x2E (prefix_digits (row_in b)), lt-ltb (code_field b 14 (prefix_bits (row_in b))) (10 ^ prefix_digits (row_in b)) h, length_numeral, ← code_seen b long 8 3 (omega arith))
          (in_front _ _ (fields_in (reference_address b) (body_layout body (prefix_digits (row_in b))) (drop (14 + prefix_bits (row_in b)) (code_in b))))
