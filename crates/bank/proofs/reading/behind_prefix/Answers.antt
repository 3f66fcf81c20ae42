-- The shape is that of the bank's own row: each field lies in the words, and the tests are those of the rules 18 and 19.
use Prim.Native.Nat.{◌+◌}
use mathlib.Core.Path.{refl, ◌∙◌}
use native.Mathlib.Omega.{arith}
use Rattle.std.proofs.lemmas.Result.{err_from_is_err_and}
use Rattle.fields.proofs.Readers.{Stands, on}
use Rattle.bank.proofs.Answers.{refuses, missing}
use Rattle.bank.proofs.Companies.{room, reference_lies, large, ending_lies, no_ending, some_ending}
use Rattle.bank.proofs.reading.behind_prefix.Goals as goal
use Rattle.bank.proofs.reading.behind_prefix.Goals.{After-take-reference}

pub take-reference-requires : goal.take-reference-requires
take-reference-requires c = reference_lies _ _ _ _ c.requires.0 _ c.requires.1 _ c.shape_in-shape.ensures

pub power-requires : goal.power-requires
power-requires c = (room _ _ _ _ c.requires.0 _ c.requires.1 _ c.shape_in-shape.ensures).digits

pub at_bit-requires : goal.at_bit-requires
at_bit-requires c = omega (arith, reference_lies _ _ _ _ c.requires.0 _ c.requires.1 _ c.shape_in-shape.ensures)

pub returns-then-power-reference : goal.returns-then-power-reference
returns-then-power-reference c =
    refuses c.at_bit.ensures refl (large _ _ _ _ c.requires.0 _ c.requires.1 _ c.shape_in-shape.ensures _ _ c.power.ensures c.take-reference.ensures.number c.if-power-reference.true)

-- the last part stands behind the reference
last_at : (c : After-take-reference) → let r = c.args.reader in Stands c.take-reference.new.self r.bank.now (r.at.0 + c.shape_in-shape.result.cell.bits)
last_at c = on (record { bank = refl; place = refl }) _ c.take-reference.ensures.rest

pub last_part-requires : goal.last_part-requires
last_part-requires c =
    let last = last_at (goal.at.last_part-requires c).After-take-reference in
    rw last.bank
    (ending_lies _ _ _ _ c.requires.0 _ c.requires.1 _ c.shape_in-shape.ensures _ _ c.power.ensures c.take-reference.ensures.number c.if-power-reference.false _ last.place)

pub at_bit-requires-2 : goal.at_bit-requires-2
at_bit-requires-2 c =
    omega (arith, (last_at (goal.at.at_bit-requires-2 c).After-take-reference).place, reference_lies _ _ _ _ c.requires.0 _ c.requires.1 _ c.shape_in-shape.ensures)

pub returns-in_err-serial : goal.returns-in_err-serial
returns-in_err-serial c =
    let last = last_at (goal.at.returns-in_err-serial c).After-take-reference in
    let none = c.in_err-serial.ensures in
    let p = err_from_is_err_and c.from_residual.result c.from_residual.ensures.1 in
    rw (p.1, p.2)
    (no_ending _ _ _ _ c.requires.0 _ c.requires.1 _ c.shape_in-shape.ensures _ _ c.power.ensures c.take-reference.ensures.number c.if-power-reference.false _ last.place
    _ (rw last.bank at c.last_part.ensures) none.ok_part (missing _ none.value none.ok_part ∙ c.at_bit-2.ensures))

pub returns : goal.returns
returns c =
    let last = last_at (goal.at.returns c).After-take-reference in
    some_ending _ _ _ _ c.requires.0 _ c.requires.1 _ c.shape_in-shape.ensures _ _ c.power.ensures c.take-reference.ensures.number c.if-power-reference.false _ last.place
    _ (rw last.bank at c.last_part.ensures) _ c.fields-control.ensures _ c.in_ok-serial.ensures.ok_part
