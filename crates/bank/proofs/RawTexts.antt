-- The raw line, piece after piece.
use Prim.Native.Nat.{ℕ, ◌+◌, ◌-◌, ◌*◌, ◌≤◌, ◌<◌}
use mathlib.Core.Path.{◌≡◌, sym, ◌∙◌}
use mathlib.Core.List.{List, [], ◌∷◌, ◌++◌}
use native.Mathlib.Omega.{arith}
use lib.Dec.{lit<}
use lib.ListN.{length, take, drop, length-append, length-take, length-drop}
use lib.Seq.{take-add, drop_at, length-take-le}
use Rattle.numeral.specs.Numeral.{shortest, size}
use Rattle.numeral.proofs.Shortest.{length_shortest}
use Rattle.rules.specs.Answers.{taken}
use Rattle.rules.specs.Bytes.{bytes, digits_text, hex_text}
use Rattle.rules.specs.Coding.{at, word_count, bank_size}
use Rattle.rules.specs.BankNumbers.{words_in}
use Rattle.rules.specs.Raw.{afi, raw_text}
use Rattle.rules.proofs.BankReads.{at_lt, words_of}
use Rattle.rules.proofs.Lengths.{raw_length}
use Rattle.digits.specs.Pieces.{Puts}
use Rattle.digits.proofs.Texts.{length_text, length_hex}

-- The AFI.
module _ (b : List ℕ) where
  pub no_afi : at b 0x17 1 ≡ 0 → afi b ≡ []
  no_afi e = rw e

  pub some_afi : ¬ (at b 0x17 1 ≡ 0) → afi b ≡ bytes ".x" ++ hex_text (at b 0x18 8 ∷ [])
  some_afi n = let e : at b 0x17 1 ≡ 1 = omega (arith, at_lt b 0x17 1) in rw e

-- The line of a bank of W words: its start, 16 times W, the AFI, the words.
module _ (b : List ℕ) (W : ℕ) (h : words_in b ≡ taken W) where
  pub count : W ≡ word_count b
  count = (words_of b W h).0

  pub few_words : W < 32
  few_words = rw count (at_lt b 0x10 5)

  pub long : bank_size W ≤ length b
  long = rw count (words_of b W h).3

  code_is : take (bank_size W - 2) (drop 2 b) ≡ drop 2 (take (bank_size W) b)
  code_is =
      let e : bank_size W - 2 ≡ 2 * W = omega arith in
      rw e (sym (rw (take-add 2 (2 * W) b) (drop_at (take 2 b) (take (2 * W) (drop 2 b)) 2 (length-take-le 2 b (omega (arith, long))))))

  code_long : length (drop 2 (take (bank_size W) b)) ≡ 2 * W
  code_long = simp (length-drop, length-take) (omega (arith, long))

  total_long : length (digits_text (shortest 10 (16 * W))) ≡ size 10 (16 * W)
  total_long = length_text (shortest 10 (16 * W)) ∙ length_shortest 10 (lit< tt) (16 * W)

  line_is : raw_text b ≡ bytes "urn:epc:raw:" ++ (digits_text (shortest 10 (16 * W)) ++ (afi b ++ (bytes ".x" ++ hex_text (drop 2 (take (bank_size W) b)))))
  unfolding raw_text
  line_is = rw count

  -- the four pieces are shorter than the output
  pub pieces_fit : 12 + (size 10 (16 * W) + (length (afi b) + (2 + 4 * W))) ≤ 145
  pieces_fit = omega (arith, simp (length-append, total_long, length_hex, code_long) at (rw line_is at (raw_length b)))

  pub pieces_are : {out after : List ℕ} {n : ℕ} → Puts (bytes "urn:epc:raw:" ++ (digits_text (shortest 10 (16 * W)) ++ (afi b ++ (bytes ".x" ++ hex_text (take (bank_size W - 2) (drop 2 b)))))) 0 out n after
      → Puts (raw_text b) 0 out n after
  pieces_are p = rw (line_is, ← code_is) p
