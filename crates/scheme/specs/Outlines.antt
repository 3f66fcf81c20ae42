-- The columns of a scheme as the code holds them.
use Rattle.std.specs.Prelude.{ℕ, ◌*◌, ◌/◌, ◌≤◌, ◌<◌, ◌≡◌, T}
use Rattle.rules.specs.declared.Scheme.{Scheme}
use Rattle.rules.specs.declared.Last.TheVariants.{Integer, String, Numeric}
use Rattle.rules.specs.declared.Body.TheVariants.{Then, Zeros, E}
use Rattle.rules.specs.declared.Parts.{Parts}
use Rattle.rules.specs.declared.Parts.TheVariants.{F, Integers}
use Rattle.rules.specs.Schemes.{exact, about, words_for}
use Rattle.scheme.specs.declared.outlines.Outline.{Outline}

-- the columns of this header, these bits and these parts
abbrev pub outline : ℕ → ℕ → Parts → Outline
outline h b p = record { header = h; bits = b; words = words_for b; parts = p }

-- those of a scheme, by the documents' table
abbrev pub outline_of : Scheme → Outline
outline_of s = outline (about s).header (about s).bits (about s).parts

-- what the code needs of the widths: an integer has at most 57 bits; a string is 1 to 20 whole groups of seven bits; a numeric string has
-- 32 to 62 bits and 1 to 17 digits; zero bits follow only behind exactly the row's digits
abbrev pub Narrow : Parts → Type 0
Narrow (F (Then t (Integer n))) = n ≤ 57
Narrow (F (Then t (String n))) = (n ≡ 7 * (n / 7)) × (0 < n / 7) × (n / 7 ≤ 20)
Narrow (F (Then t (Numeric n k))) = (32 ≤ n) × (n ≤ 62) × (0 < k) × (k ≤ 17)
Narrow (F (Zeros t n)) = T (exact t)
Narrow (F E) = Unit
Narrow (Integers a b c) = (a ≤ 57) × (b ≤ 57) × (c ≤ 57)
