-- The tables' numbers are small.
use Prim.Native.Nat.{ℕ, ◌≤◌, ◌<◌}
use native.Mathlib.Omega.{arith}
use Rattle.rules.specs.declared.Scheme.{Scheme}
use Rattle.rules.specs.declared.Scheme.TheVariants.{Sgtin96, Sgtin198, Sscc96, Sgln96, Sgln195, Grai96, Grai170, Giai96, Gsrn96, Gsrnp96, Gdti96, Gdti174, Gid96, Gdti113, Sgcn96, Cpi96}
use Rattle.rules.specs.declared.Table.{Table}
use Rattle.rules.specs.declared.Table.TheVariants.{A, B, C, D, Cpi}
use Rattle.rules.specs.Schemes.{rows, row_at, cell, asset_bits, about}
use Rattle.rules.proofs.Rows.{AllRows, by_row_lem}
use Rattle.scheme.specs.Outlines.{Narrow}

-- a reference has at most eleven digits, and one of table E at most 62 bits
few : (t : Table) → AllRows (λ P r. (cell t r).1 ≤ 11) 0 rows
unfolding rows
few A = omega arith
few B = omega arith
few C = omega arith
few D = omega arith
few Cpi = omega arith

pub few_digits : (t : Table) (P : ℕ) → P < 7 → (cell t (row_at P)).1 ≤ 11
few_digits t = by_row_lem (λ P r. (cell t r).1 ≤ 11) (few t)

few_assets : AllRows (λ P r. asset_bits r ≤ 62) 0 rows
unfolding rows
few_assets = omega arith

pub few_bits : (P : ℕ) → P < 7 → asset_bits (row_at P) ≤ 62
few_bits = by_row_lem (λ P r. asset_bits r ≤ 62) few_assets

pub parts_narrow : (s : Scheme) → Narrow (about s).parts
parts_narrow Sgtin96 = omega arith
parts_narrow Sgtin198 = omega arith
parts_narrow Sscc96 = tt
parts_narrow Sgln96 = omega arith
parts_narrow Sgln195 = omega arith
parts_narrow Grai96 = omega arith
parts_narrow Grai170 = omega arith
parts_narrow Giai96 = tt
parts_narrow Gsrn96 = tt
parts_narrow Gsrnp96 = tt
parts_narrow Gdti96 = omega arith
parts_narrow Gdti174 = omega arith
parts_narrow Gid96 = omega arith
parts_narrow Gdti113 = omega arith
parts_narrow Sgcn96 = omega arith
parts_narrow Cpi96 = omega arith
