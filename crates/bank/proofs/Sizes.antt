-- The widths and places of the fields of each scheme: they can be read, and they lie in its words.
use Prim.Native.Nat.{ℕ, ◌+◌, ◌*◌, ◌/◌, ◌≤◌, ◌<◌}
use mathlib.Core.Path.{◌≡◌}
use native.Mathlib.Omega.{arith}
use Rattle.rules.specs.declared.Scheme.{Scheme}
use Rattle.rules.specs.declared.Scheme.TheVariants.{Sgtin96, Sgtin198, Sscc96, Sgln96, Sgln195, Grai96, Grai170, Giai96, Gsrn96, Gsrnp96, Gdti96, Gdti174, Gid96, Gdti113, Sgcn96, Cpi96}
use Rattle.rules.specs.Schemes.{Row, rows, row_at, about, words, prefix_bits}
use Rattle.rules.proofs.Rows.{AllRows, by_row_lem}
use Rattle.rules.specs.declared.Last.{Last}
use Rattle.rules.specs.declared.Last.TheVariants.{Integer, String, Numeric}
use Rattle.rules.specs.declared.Body.{Body}
use Rattle.rules.specs.declared.Parts.{Parts}
use Rattle.rules.specs.declared.Parts.TheVariants.{F, Integers}
use Rattle.bank.specs.declared.reading.Shape.{Shape}
use Rattle.bank.specs.Reading.{shape_of}

-- the bits of a last part, and that it can be read
abbrev pub width : Last → ℕ
width (Integer n) = n
width (String n) = 7 * (n / 7)
width (Numeric n k) = n

abbrev pub Readable : Last → Type 0
Readable (Integer n) = n ≤ 64
Readable (String n) = n / 7 ≤ 20
Readable (Numeric n k) = (n ≤ 64) × (k ≤ 17)

-- what stands behind the company prefix of a row, in W words
pub record Roomy (W : ℕ) (r : Row) (s : Shape) : Type 0 where
  pub narrow : s.cell.bits ≤ 64
  pub digits : s.cell.digits ≤ 17
  pub last : Readable s.last
  pub inside : 14 + prefix_bits r + s.cell.bits + width s.last ≤ 16 * W

-- in more words there is room too
pub roomier : {W W' : ℕ} {r : Row} {s : Shape} → W ≤ W' → Roomy W r s → Roomy W' r s
roomier l h = record { narrow = h.narrow; digits = h.digits; last = h.last; inside = omega (arith, h.inside) }

-- the parts lie in W words, whatever the row
abbrev pub Inside : ℕ → Parts → Type 0
Inside W (F body) = AllRows (λ P r. Roomy W r (shape_of body r)) 0 rows
Inside W (Integers a b c) = 8 + a + b + c ≤ 16 * W

-- what is seen scheme by scheme: each field is a word at most, and lies in the scheme's words
pub record Sizes (s : Scheme) : Type 0 where
  pub inside : Inside (words s) (about s).parts

pub sizes : (s : Scheme) → Sizes s
unfolding rows
sizes Sgtin96 = omega arith
sizes Sgtin198 = omega arith
sizes Sscc96 = omega arith
sizes Sgln96 = omega arith
sizes Sgln195 = omega arith
sizes Grai96 = omega arith
sizes Grai170 = omega arith
sizes Giai96 = omega arith
sizes Gsrn96 = omega arith
sizes Gsrnp96 = omega arith
sizes Gdti96 = omega arith
sizes Gdti174 = omega arith
sizes Gid96 = omega arith
sizes Gdti113 = omega arith
sizes Sgcn96 = omega arith
sizes Cpi96 = omega arith

-- a scheme with a partition table
pub roomy : (s : Scheme) (body : Body) → (about s).parts ≡ F body → (P : ℕ) → P < 7 → Roomy (words s) (row_at P) (shape_of body (row_at P))
roomy s body e = by_row_lem (λ P r. Roomy (words s) r (shape_of body r)) (rw e at (sizes s).inside)
