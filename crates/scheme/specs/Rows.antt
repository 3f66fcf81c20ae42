-- The cells of a row as the code holds them.
use Rattle.std.specs.Prelude.{ℕ, ◌+◌, ◌<◌, ◌≡◌}
use Rattle.rules.specs.declared.Table.{Table}
use Rattle.rules.specs.Schemes.{Row, row_at, cell, prefix_bits, prefix_digits}
use Rattle.scheme.specs.declared.rows.Cell.{Cell}

abbrev pub prefix_of : Row → Cell
prefix_of r = record { bits = prefix_bits r; digits = prefix_digits r }

abbrev pub reference_of : Table → Row → Cell
reference_of t r = record { bits = (cell t r).0; digits = (cell t r).1 }

-- the bits and the digits that prefix and reference have together in a row
abbrev pub sum_of : Table → Row → Cell
sum_of t r = record { bits = prefix_bits r + (cell t r).0; digits = prefix_digits r + (cell t r).1 }

-- the one sum of a table, in every row (document 02, C-14)
abbrev pub SumIn : Table → Cell → Type 0
SumIn t s = (P : ℕ) → P < 7 → s ≡ sum_of t (row_at P)
