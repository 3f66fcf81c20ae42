-- How long the pieces of a tag's text are at most.
use Prim.Native.Nat.{ℕ, ◌^◌, ◌≤◌, ◌<◌}
use native.Mathlib.Omega.{arith}
use native.Mathlib.Nat.{le_trans}
use lib.Dec.{lit<, lit≤}
use lib.ListN.{length, length-append}
use Rattle.numeral.specs.Numeral.{size}
use Rattle.numeral.proofs.Shortest.{size_le}
use Rattle.rules.specs.declared.Scheme.{Scheme}
use Rattle.rules.specs.declared.Table.{Table}
use Rattle.rules.specs.Schemes.{cell, row_of, partition}
use Rattle.rules.specs.Grammar.{label}
use Rattle.rules.proofs.Rows.{row_picked}
use Rattle.scheme.proofs.Widths.{few_digits}
use Rattle.parts.specs.Names.{rest_of}
use Rattle.parts.proofs.Keys.{sound}

pub label_short : (s : Scheme) → length (label s) ≤ 10
label_short s = rw ((sound s).whole, length-append (rest_of s)) (omega (arith, (sound s).short))

pub reference_short : (t : Table) (n : ℕ) → 6 ≤ n → n ≤ 12 → (cell t (row_of n)).1 ≤ 11
reference_short t n l u = few_digits t (partition n) (row_picked n l u).0

-- a word's digits
pub word_short : (v : ℕ) → v < 2 ^ 64 → size 10 v ≤ 20
word_short v h = size_le 10 (lit< tt) v 20 (lit< tt) (le_trans h (lit≤ tt))
