-- The bank of a tag in W words (document 01, "The bank"; document 02, C-13 and C-15): its bits, most significant first, eight to a byte.
use Rattle.std.specs.Prelude.{ℕ, ◌+◌, ◌-◌, ◌*◌, ◌≤◌, ◌≡◌, List, [], ◌∷◌, ◌++◌, length, take, drop, replicate}
use Rattle.numeral.specs.Numeral.{value, numeral, spread, gather}
use Rattle.rules.specs.declared.Scheme.{Scheme}
use Rattle.rules.specs.declared.ControlFields.{ControlFields}
use Rattle.rules.specs.Schemes.{Form, company, digits, integer, string, at_most, numeric, about, words, partition, row_of, prefix_bits}
use Rattle.rules.specs.Grammar.{Layout, part, end, layout, Tag, TagFits}

abbrev pub binary : ℕ → ℕ → List ℕ
binary n v = numeral 2 n v

-- zeros up to n bits
abbrev pub filled : ℕ → List ℕ → List ℕ
filled n l = l ++ replicate (n - length l) 0

abbrev pub part_bits : Form → List ℕ → List ℕ
part_bits company ds = binary 3 (partition (length ds)) ++ binary (prefix_bits (row_of (length ds))) (value 10 ds)
part_bits (digits b n) ds = binary b (value 10 ds)
part_bits (integer b) ds = binary b (value 10 ds)
part_bits (string b) cs = filled b (spread 2 7 cs)
part_bits (at_most b n) ds = binary b (value 10 ds)
part_bits (numeric b n) ds = binary b (value 10 (1 ∷ ds))

abbrev pub coded : Layout → List (List ℕ) → List ℕ
coded (part r f k) [] = []
coded (part r f k) (p ∷ ps) = part_bits f p ++ coded (k p) ps
coded (end r f) [] = []
coded (end r f) (p ∷ ps) = part_bits f p

-- the header, the parts, and zeros to the end of the last word; table B's 24 zero bits are of those, and all words that the scheme doesn't need
abbrev pub code_of : ℕ → Scheme → List (List ℕ) → List ℕ
code_of W s ps = filled (16 * W) (binary 8 (about s).header ++ coded (layout s) ps)

-- 15h: umi; 16h and 17h: 0; 18h to 1Fh: att
abbrev pub control_bits : ControlFields → List ℕ
control_bits c = binary 1 c.umi ++ (replicate 2 0 ++ binary 8 c.att)

-- the word count, the other eleven control bits, the code
abbrev pub bits_of : ℕ → Scheme → ControlFields → List (List ℕ) → List ℕ
bits_of W s c ps = binary 5 W ++ (control_bits c ++ code_of W s ps)

-- the bytes of a bank of W words
abbrev pub bank_size : ℕ → ℕ
bank_size W = 2 + 2 * W

unfoldable pub bank_of : ℕ → Tag → List ℕ
bank_of W τ = gather 2 8 (bank_size W) (bits_of W τ.scheme τ.control τ.parts)

-- the W that a bank of a scheme can have: from the scheme's count to 31, the most that five bits count
abbrev pub most_words : ℕ
most_words = 31

abbrev pub EnoughWords : ℕ → Scheme → Type 0
EnoughWords W s = (words s ≤ W) × (W ≤ most_words)

-- n bits of a bank from an address on; the lent bank starts at address 10h
abbrev pub at : List ℕ → ℕ → ℕ → ℕ
at b a n = value 2 (take n (drop (a - 0x10) (spread 2 8 b)))

abbrev pub word_count : List ℕ → ℕ
word_count b = at b 0x10 5

-- a bank up to the last word that its word count names: what is behind it is never looked at
abbrev pub within : List ℕ → List ℕ
within b = take (bank_size (word_count b)) b

-- b is the bank of the tag τ, which keeps the limits, in W words
pub record TagBank (b : List ℕ) (W : ℕ) (τ : Tag) : Type 0 where
  pub fits : TagFits τ
  pub enough : EnoughWords W τ.scheme
  pub bank : within b ≡ bank_of W τ
