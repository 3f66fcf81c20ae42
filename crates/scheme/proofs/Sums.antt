-- The tables' inner rules (rules/proofs/Tables) as the code works a row out by them: a prefix by its digits, a reference by its table's sum.
use Prim.Native.Nat.{ℕ, ◌+◌, ◌-◌, ◌*◌, ◌/◌, ◌≤◌, ◌<◌}
use mathlib.Core.Path.{◌≡◌, sym}
use Rattle.std.proofs.Common.{rules, arith}
use Rattle.rules.specs.declared.Table.{Table}
use Rattle.rules.specs.declared.Table.TheVariants.{A, B, C, D, Cpi}
use Rattle.rules.specs.Schemes.{Row, row, rows, row_at, row_of, partition, prefix_bits, prefix_digits, asset_bits}
use Rattle.rules.proofs.Rows.{by_row_lem, row_picked}
use Rattle.rules.proofs.Tables.{InnerRules, partition_tables}
use Rattle.scheme.specs.Rows.{prefix_of, reference_of, sum_of, SumIn}
use Rattle.scheme.specs.declared.rows.Cell.{Cell}

same_cell : (a b c d : ℕ) → a ≡ c → b ≡ d → ◌≡◌ {A = Cell} (record { bits = a; digits = b }) (record { bits = c; digits = d })
same_cell a b c d e f = λ i. record { bits = e i; digits = f i }

-- what the inner rules say of a row holds of the row of a partition value
by_rules : (Q : ℕ → Row → Type 0) → ((P : ℕ) (r : Row) → InnerRules P r → Q P r) → (P : ℕ) → P < 7 → Q P (row_at P)
by_rules Q f P l = f P (row_at P) (by_row_lem InnerRules partition_tables P l)

-- partition value and digits of a prefix make twelve, so the digits pick the row
twelve : (P : ℕ) → P < 7 → P + prefix_digits (row_at P) ≡ 12
twelve = by_rules (λ P r. P + prefix_digits r ≡ 12) λ P. elim [ row p a b c d e k ↦ λ h. h.digits ]

pub digits_pick : (n : ℕ) → 6 ≤ n → n ≤ 12 → 12 - n ≡ partition n
digits_pick n l u =
    let (small, own) = row_picked n l u in
    let e : partition n + prefix_digits (row_of n) ≡ 12 = twelve (partition n) small in
    omega arith

-- a prefix takes 53 / 16 bits a digit, rounded up
pub rounded : (P : ℕ) → P < 7 → record { bits = (53 * (12 - P) + 15) / 16; digits = 12 - P } ≡ prefix_of (row_at P)
unfolding rows
rounded = by_row_lem (λ P r. record { bits = (53 * (12 - P) + 15) / 16; digits = 12 - P } ≡ prefix_of r) (search rules)

-- the sums of the tables
in_rows : (t : Table) (s : Cell) → ((P : ℕ) (r : Row) → InnerRules P r → s ≡ sum_of t r) → SumIn t s
in_rows t s = by_rules (λ P r. s ≡ sum_of t r)

pub sum_a : SumIn A (record { bits = 44; digits = 13 })
sum_a = in_rows A _ λ P. elim [ row p a b c d e k ↦ λ h. same_cell _ _ _ _ (sym h.bits_a) (sym h.digits_a) ]

pub sum_b : SumIn B (record { bits = 58; digits = 17 })
sum_b = in_rows B _ λ P. elim [ row p a b c d e k ↦ λ h. same_cell _ _ _ _ (sym h.bits_b) (sym h.digits_b) ]

pub sum_c : SumIn C (record { bits = 44; digits = 12 })
sum_c = in_rows C _ λ P. elim [ row p a b c d e k ↦ λ h. same_cell _ _ _ _ (sym h.bits_c) (sym h.digits_c) ]

pub sum_d : SumIn D (record { bits = 41; digits = 12 })
sum_d = in_rows D _ λ P. elim [ row p a b c d e k ↦ λ h. same_cell _ _ _ _ (sym h.bits_d) (sym h.digits_d) ]

pub sum_cpi : SumIn Cpi (record { bits = 51; digits = 15 })
sum_cpi = in_rows Cpi _ λ P. elim [ row p a b c d e k ↦ λ h. same_cell _ _ _ _ (sym h.bits_cpi) (sym h.digits_cpi) ]

-- the five
pub ruleset sums = (sum_a, sum_b, sum_c, sum_d, sum_cpi)

pub asset_sum : (P : ℕ) → P < 7 → prefix_bits (row_at P) + asset_bits (row_at P) ≡ 82
asset_sum = by_rules (λ P r. prefix_bits r + asset_bits r ≡ 82) λ P. elim [ row p a b c d e k ↦ λ h. h.bits_e ]

-- what a prefix leaves of a sum
abbrev pub Left : Table → ℕ → Cell → Cell → Type 0
Left t P s c = (c.bits ≤ s.bits) × (c.digits ≤ s.digits) × (record { bits = s.bits - c.bits; digits = s.digits - c.digits } ≡ reference_of t (row_at P))

pub reference_left : (t : Table) (P : ℕ) (s c : Cell) → P < 7 → SumIn t s → c ≡ prefix_of (row_at P) → Left t P s c
reference_left t P s c l h e = rw e (rw (h P l) (omega arith, omega arith, same_cell _ _ _ _ (omega arith) (omega arith)))
