-- The schemes' table and the partition tables (document 01, "The thirteen schemes", and document 02, C-11: three more).
use Rattle.std.specs.Prelude.{ℕ, zero, suc, ◌+◌, ◌/◌, Bool, true, false, cond, List, [], ◌∷◌, eqb, get_or}
use Prim.Native.String.{String as Quoted}
use Rattle.rules.specs.declared.Scheme.{Scheme}
use Rattle.rules.specs.declared.Scheme.TheVariants.{Sgtin96, Sgtin198, Sscc96, Sgln96, Sgln195, Grai96, Grai170, Giai96, Gsrn96, Gsrnp96, Gdti96, Gdti174, Gid96, Gdti113, Sgcn96, Cpi96}
use Rattle.rules.specs.declared.Table.{Table}
use Rattle.rules.specs.declared.Table.TheVariants.{A, B, C, D, Cpi}
use Rattle.rules.specs.declared.Last.{Last}
use Rattle.rules.specs.declared.Last.TheVariants.{Integer, String, Numeric}
use Rattle.rules.specs.declared.Body.TheVariants.{Then, Zeros, E}
use Rattle.rules.specs.declared.Parts.{Parts}
use Rattle.rules.specs.declared.Parts.TheVariants.{F, Integers}

-- How a part is written, and in how many bits.
pub data Form : Type 0 where
  -- the company prefix: 6 to 12 digits, behind the partition value that their number picks
  company : Form
  -- `digits b n`: b bits, exactly n digits
  digits : ℕ → ℕ → Form
  -- `integer b`: b bits, no leading zero
  integer : ℕ → Form
  -- `string b`: b bits, seven a character
  string : ℕ → Form
  -- `at_most b n`: b bits, no leading zero, at most n digits
  at_most : ℕ → ℕ → Form
  -- `numeric b n`: b bits, 1 to n digits behind a 1 that is put before them
  numeric : ℕ → ℕ → Form

-- bits and digits
abbrev pub Cell : Type 0
Cell = ℕ × ℕ

-- a row of the partition tables: the company prefix, the reference of A, B, C and D, the bits of E's, the reference of cpi-96's table
-- (document 000, table 14-24, which is 001's table 14-34)
pub data Row : Type 0 where
  row : (p a b c d : Cell) (e : ℕ) (k : Cell) → Row

-- P = 0 to 6
unfoldable pub rows : List Row
rows =
    row (40, 12) (4, 1) (18, 5) (4, 0) (1, 0) 42 (11, 3) ∷
    row (37, 11) (7, 2) (21, 6) (7, 1) (4, 1) 45 (14, 4) ∷
    row (34, 10) (10, 3) (24, 7) (10, 2) (7, 2) 48 (17, 5) ∷
    row (30, 9) (14, 4) (28, 8) (14, 3) (11, 3) 52 (21, 6) ∷
    row (27, 8) (17, 5) (31, 9) (17, 4) (14, 4) 55 (24, 7) ∷
    row (24, 7) (20, 6) (34, 10) (20, 5) (17, 5) 58 (27, 8) ∷
    row (20, 6) (24, 7) (38, 11) (24, 6) (21, 6) 62 (31, 9) ∷ []

abbrev pub prefix_bits : Row → ℕ
prefix_bits (row p a b c d e k) = p.0

abbrev pub prefix_digits : Row → ℕ
prefix_digits (row p a b c d e k) = p.1

-- the reference of A to D, and of cpi-96's table
abbrev pub cell : Table → Row → Cell
cell A (row p a b c d e k) = a
cell B (row p a b c d e k) = b
cell C (row p a b c d e k) = c
cell D (row p a b c d e k) = d
cell Cpi (row p a b c d e k) = k

-- whether it has exactly the row's digits; in cpi-96's table it is an integer of at most so many
abbrev pub exact : Table → Bool
exact A = true
exact B = true
exact C = true
exact D = true
exact Cpi = false

abbrev pub counted : Table → ℕ → ℕ → Form
counted t b n = cond (exact t) (digits b n) (at_most b n)

abbrev pub row_digits : Table → Row → Form
row_digits t r = counted t (cell t r).0 (cell t r).1

-- the bits of E's reference, an integer
abbrev pub asset_bits : Row → ℕ
asset_bits (row p a b c d e k) = e

-- the row of a partition value; past the last there is none
abbrev pub no_row : Row
no_row = let blank : Cell = (zero, zero) in row blank blank blank blank blank zero blank

abbrev pub row_at : ℕ → Row
row_at P = get_or rows P no_row

-- the partition value of a company prefix of n digits: their number picks the row
abbrev pub place : ℕ → List Row → ℕ
place n [] = zero
place n (r ∷ rs) = elim (eqb n (prefix_digits r)) [ true ↦ zero | false ↦ suc (place n rs) ]

abbrev pub partition : ℕ → ℕ
partition n = place n rows

abbrev pub row_of : ℕ → Row
row_of n = row_at (partition n)

-- the last part behind a reference
abbrev pub last_form : Last → Form
last_form (Integer b) = integer b
last_form (String b) = string b
last_form (Numeric b n) = numeric b n

-- the columns of a scheme in the table of schemes
pub record Outline : Type 0 where
  pub name : Quoted
  pub header : ℕ
  pub bits : ℕ
  pub parts : Parts

abbrev pub outline : Quoted → ℕ → ℕ → Parts → Outline
outline n h b p = record { name = n; header = h; bits = b; parts = p }

abbrev pub about : Scheme → Outline
about Sgtin96 = outline "sgtin-96" 0x30 96 (F (Then A (Integer 38)))
about Sgtin198 = outline "sgtin-198" 0x36 198 (F (Then A (String 140)))
about Sscc96 = outline "sscc-96" 0x31 96 (F (Zeros B 24))
about Sgln96 = outline "sgln-96" 0x32 96 (F (Then D (Integer 41)))
about Sgln195 = outline "sgln-195" 0x39 195 (F (Then D (String 140)))
about Grai96 = outline "grai-96" 0x33 96 (F (Then C (Integer 38)))
about Grai170 = outline "grai-170" 0x37 170 (F (Then C (String 112)))
about Giai96 = outline "giai-96" 0x34 96 (F E)
about Gsrn96 = outline "gsrn-96" 0x2D 96 (F (Zeros B 24))
about Gsrnp96 = outline "gsrnp-96" 0x2E 96 (F (Zeros B 24))
about Gdti96 = outline "gdti-96" 0x2C 96 (F (Then D (Integer 41)))
about Gdti174 = outline "gdti-174" 0x3E 174 (F (Then D (String 119)))
about Gid96 = outline "gid-96" 0x35 96 (Integers 28 24 36)
about Gdti113 = outline "gdti-113" 0x3A 113 (F (Then D (Numeric 58 17)))
about Sgcn96 = outline "sgcn-96" 0x3F 96 (F (Then D (Numeric 41 12)))
about Cpi96 = outline "cpi-96" 0x3C 96 (F (Then Cpi (Integer 31)))

unfoldable pub schemes : List Scheme
schemes =
    Sgtin96 ∷ Sgtin198 ∷ Sscc96 ∷ Sgln96 ∷ Sgln195 ∷ Grai96 ∷ Grai170 ∷
    Giai96 ∷ Gsrn96 ∷ Gsrnp96 ∷ Gdti96 ∷ Gdti174 ∷ Gid96 ∷ Gdti113 ∷ Sgcn96 ∷ Cpi96 ∷ []

-- words of 16 bits: the bit total divided by 16, rounded up
abbrev pub words_for : ℕ → ℕ
words_for bits = (bits + 15) / 16

abbrev pub words : Scheme → ℕ
words s = words_for (about s).bits

-- the zero bits at the end of the code
abbrev pub zero_bits : Parts → ℕ
zero_bits (F (Then t l)) = 0
zero_bits (F (Zeros t z)) = z
zero_bits (F E) = 0
zero_bits (Integers a b c) = 0
