-- The filter, the partition value and the prefix are taken one behind the other; the tests are those of the rules 16 and 17.
use Prim.Native.Nat.{◌+◌}
use mathlib.Core.Path.{◌≡◌, refl, ap, ◌∙◌}
use native.Mathlib.Omega.{arith}
use Rattle.fields.specs.BitReaders.{code_field}
use Rattle.fields.proofs.Readers.{Stands, lies, number, on}
use Rattle.bank.proofs.Answers.{refuses}
use Rattle.bank.proofs.Prefixes.{no_row, listed, few_digits, prefix_lies, large_prefix, begun, prefix_ends}
use Rattle.bank.proofs.reading.partitioned.Goals as goal
use Rattle.bank.proofs.reading.partitioned.Goals.{After-take-filter, After-take-prefix, After-take-row}

-- where the reader stands: at the partition value, at the prefix and behind it
partition_at : (c : After-take-filter) → Stands c.take-filter.new.self c.args.reader.bank.now 11
partition_at c = on (record { bank = refl; place = c.requires.1 }) 3 c.take-filter.ensures.rest

prefix_at : (c : After-take-row) → Stands c.take-row.new.self c.args.reader.bank.now 14
prefix_at c = on (partition_at (goal.at.After-take-row c).After-take-filter) 3 c.take-row.ensures.rest

prefix_end_at : (c : After-take-prefix) → Stands c.take-prefix.new.self c.args.reader.bank.now (14 + c.prefix-cell.result.bits)
prefix_end_at c = on (prefix_at (goal.at.After-take-prefix c).After-take-row) c.prefix-cell.result.bits c.take-prefix.ensures.rest

-- the three values
filter_is : (c : After-take-filter) → c.take-filter.result ≡ code_field c.args.reader.bank.now 8 3
filter_is c = c.take-filter.ensures.number ∙ rw c.requires.1

row_is : (c : After-take-row) → c.take-row.result ≡ code_field c.args.reader.bank.now 11 3
row_is c = number (partition_at (goal.at.After-take-row c).After-take-filter) 3 c.take-row.ensures.number

prefix_is : (c : After-take-prefix) → c.take-prefix.result ≡ code_field c.args.reader.bank.now 14 c.prefix-cell.result.bits
prefix_is c = number (prefix_at (goal.at.After-take-prefix c).After-take-row) c.prefix-cell.result.bits c.take-prefix.ensures.number

pub returns-then-row-eq7 : goal.returns-then-row-eq7
returns-then-row-eq7 c =
    refuses c.at_bit.ensures (ap (◌+◌ 0x20) (partition_at (goal.at.returns-then-row-eq7 c).After-take-filter).place) (no_row _ _ _ c.requires.0 _ (row_is (goal.at.returns-then-row-eq7 c).After-take-row) c.if-row-eq7.true)

pub prefix-cell-requires : goal.prefix-cell-requires
prefix-cell-requires c = listed _ _ _ c.requires.0 _ (row_is (goal.at.prefix-cell-requires c).After-take-row) c.if-row-eq7.false

pub take-prefix-requires : goal.take-prefix-requires
take-prefix-requires c =
    let read = (goal.at.take-prefix-requires c).After-take-row in
    lies (prefix_at read) _ (prefix_lies _ _ _ c.requires.0 _ (row_is read) c.if-row-eq7.false _ c.prefix-cell.ensures)

pub power-requires : goal.power-requires
power-requires c = few_digits _ _ _ c.requires.0 _ (row_is (goal.at.power-requires c).After-take-row) c.if-row-eq7.false _ c.prefix-cell.ensures

pub returns-then-power-prefix : goal.returns-then-power-prefix
returns-then-power-prefix c =
    let read = (goal.at.returns-then-power-prefix c).After-take-row in
    refuses c.at_bit-then-power-prefix.ensures (ap (◌+◌ 0x20) (prefix_at read).place)
    (large_prefix _ _ _ c.requires.0 _ (row_is read) c.if-row-eq7.false _ c.prefix-cell.ensures _ _ (prefix_is (goal.at.returns-then-power-prefix c).After-take-prefix) c.power.ensures c.if-power-prefix.true)

pub behind_prefix-requires : goal.behind_prefix-requires
behind_prefix-requires c =
    let prefix = (goal.at.behind_prefix-requires c).After-take-prefix in
    let read = (goal.at.behind_prefix-requires c).After-take-row in
    let stands = prefix_end_at prefix in
    rw (stands.bank, stands.place) (
      begun _ _ _ c.requires.0 _ (row_is read) c.if-row-eq7.false _ c.prefix-cell.ensures _ _ (prefix_is prefix) c.power.ensures c.if-power-prefix.false _ (filter_is (goal.at.behind_prefix-requires c).After-take-filter),
      omega (arith, prefix_ends _ _ _ c.requires.0 _ (row_is read) c.if-row-eq7.false _ c.prefix-cell.ensures),
    )
