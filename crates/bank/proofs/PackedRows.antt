-- The row of a record's company prefix: the numbers fit the bits that the row has for them.
use Prim.Native.Nat.{ℕ, ◌+◌, ◌-◌, ◌*◌, ◌/◌, ◌%◌, ◌^◌, ◌≤◌, ◌<◌}
use mathlib.Core.Path.{◌≡◌}
use mathlib.Core.List.{◌++◌, append_assoc}
use native.Mathlib.Omega.{arith}
use native.Mathlib.Nat.{le_trans, div-lt_iff_lt-mul}
use lib.Dec.{lit<}
use lib.Pow.{pow-add, pow_pos}
use Rattle.numeral.specs.Numeral.{numeral}
use Rattle.numeral.proofs.Values.{numeral_append, numeral_mod}
use Rattle.rules.specs.declared.Table.{Table}
use Rattle.rules.specs.declared.Table.TheVariants.{A, B, C, D, Cpi}
use Rattle.rules.specs.Schemes.{rows, row_of, cell, asset_bits, prefix_bits, partition}
use Rattle.rules.specs.Coding.{binary}
use Rattle.rules.proofs.Rows.{AllRows, by_row_lem, row_fair, row_picked}
use Rattle.bits.proofs.Pushes.{join}
use Rattle.scheme.specs.declared.record.Record.{Record}
use Rattle.bank.specs.Writing.{Company, company_bits, Reference, Wide, Asset}

-- what is seen row by row: a reference's digits fit its bits, and E's has 32 low bits and a few more
cells_roomy : (t : Table) → AllRows (λ P r. (10 ^ (cell t r).1 ≤ 2 ^ (cell t r).0) × ((cell t r).0 ≤ 38)) 0 rows
unfolding rows
cells_roomy A = omega arith
cells_roomy B = omega arith
cells_roomy C = omega arith
cells_roomy D = omega arith
cells_roomy Cpi = omega arith

assets_wide : AllRows (λ P r. (32 ≤ asset_bits r) × (asset_bits r ≤ 62)) 0 rows
unfolding rows
assets_wide = omega arith

-- The digits of the company prefix pick a row.
module _ (n : ℕ) (least : 6 ≤ n) (most : n ≤ 12) where
  pub row_lt : partition n < 7
  row_lt = (row_picked n least most).0

  prefix_narrow : prefix_bits (row_of n) ≤ 40
  prefix_narrow = (row_fair (partition n) row_lt).narrow

  cell_roomy : (t : Table) → (10 ^ (cell t (row_of n)).1 ≤ 2 ^ (cell t (row_of n)).0) × ((cell t (row_of n)).0 ≤ 38)
  cell_roomy t = by_row_lem (λ P r. (10 ^ (cell t r).1 ≤ 2 ^ (cell t r).0) × ((cell t r).0 ≤ 38)) (cells_roomy t) (partition n) row_lt

  row_wide : (32 ≤ asset_bits (row_of n)) × (asset_bits (row_of n) ≤ 62)
  row_wide = by_row_lem (λ P r. (32 ≤ asset_bits r) × (asset_bits r ≤ 62)) assets_wide (partition n) row_lt

-- The company prefix.
module _ {r : Record} (h : Company r) where
  pub company_row : partition r.digits < 7
  company_row = row_lt r.digits h.least h.most

  pub company_narrow : prefix_bits (row_of r.digits) ≤ 40
  company_narrow = prefix_narrow r.digits h.least h.most

  pub prefix_lt : r.prefix < 2 ^ prefix_bits (row_of r.digits)
  prefix_lt = le_trans h.prefix (rw (row_picked r.digits h.least h.most).1 at (row_fair (partition r.digits) company_row).roomy)

  -- the filter and the partition value are six bits
  pub company_is : numeral 2 6 (r.filter * 8 + partition r.digits) ++ binary (prefix_bits (row_of r.digits)) r.prefix ≡ company_bits r
  company_is = rw (← join 3 3 r.filter (partition r.digits) (omega (arith, company_row)), append_assoc)

-- The reference of A to D, and of cpi-96's table.
module _ {t : Table} {r : Record} (h : Reference t r) where
  pub reference_row : partition r.digits < 7
  reference_row = row_lt r.digits h.least h.most

  pub reference_narrow : (cell t (row_of r.digits)).0 ≤ 38
  reference_narrow = (cell_roomy r.digits h.least h.most t).1

  pub reference_lt : r.reference < 2 ^ (cell t (row_of r.digits)).0
  reference_lt = le_trans h.small (cell_roomy r.digits h.least h.most t).0

-- A number of w bits in two pieces, of which the second has n.
module _ (w n v : ℕ) (h : n ≤ w) where
  whole : w - n + n ≡ w
  whole = omega arith

  pub piece_lt : v < 2 ^ w → v / 2 ^ n < 2 ^ (w - n)
  piece_lt l = (div-lt_iff_lt-mul (pow_pos n)).1 (rw (← pow-add, whole) l)

  pub pieces_are : numeral 2 (w - n) (v / 2 ^ n) ++ numeral 2 n (v % 2 ^ n) ≡ numeral 2 w v
  pieces_are = rw (numeral_mod 2 n v (lit< tt), ← numeral_append 2 (w - n) n v, whole)

-- The reference of E.
module _ {r : Record} (h : Asset r) where
  pub asset_row : partition r.digits < 7
  asset_row = row_lt r.digits h.least h.most

  pub asset_wide : Wide (asset_bits (row_of r.digits)) r.serial
  asset_wide =
      let (l, m) = row_wide r.digits h.least h.most in
      record { least = l; most = m; small = h.small }
