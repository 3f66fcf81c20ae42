-- The raw line of a bank (document 01, "The bank": Raw line).
use Rattle.std.specs.Prelude.{ℕ, ◌*◌, List, [], ◌∷◌, ◌++◌, Bool, true, false, eqb, drop}
use Rattle.numeral.specs.Numeral.{shortest}
use Rattle.rules.specs.Answers.{Answer, taken, ◌>>=◌}
use Rattle.rules.specs.Bytes.{bytes, digits_text, hex_text}
use Rattle.rules.specs.Coding.{at, word_count, within}
use Rattle.rules.specs.BankNumbers.{words_in}

-- `.x` and the AFI, if the toggle is 1
abbrev pub afi_text : Bool → ℕ → List ℕ
afi_text true a = bytes ".x" ++ hex_text (a ∷ [])
afi_text false a = []

abbrev pub afi : List ℕ → List ℕ
afi b = afi_text (eqb (at b 0x17 1) 1) (at b 0x18 8)

-- 16 × W in decimal, and the W words
unfoldable pub raw_text : List ℕ → List ℕ
raw_text b =
    bytes "urn:epc:raw:" ++ (digits_text (shortest 10 (16 * word_count b)) ++ (afi b ++ (bytes ".x" ++ hex_text (drop 2 (within b)))))

-- the raw line gives only 1, 9 and 10
unfoldable pub raw_of_bank : List ℕ → Answer (List ℕ)
raw_of_bank b = do
  W ← words_in b
  taken (raw_text b)
