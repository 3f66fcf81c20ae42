-- Each byte, and the bits behind the last, go on with the number (`byte_next`, `rest_next`).
use mathlib.Core.Path.{◌∙◌}
use native.Mathlib.Omega.{arith}
use Rattle.bits.proofs.Pieces.{byte_next, rest_next}
use Rattle.bits.proofs.field.Goals as goal

pub joined-v-requires : goal.joined-v-requires
joined-v-requires c =
    (omega arith, (byte_next _ _ _ c.requires (omega arith) _ _ c.loop-b.invariant c.loop-b-test.true (c.type_inv.bank _).fits).1)

pub loop-b-preserved : goal.loop-b-preserved
loop-b-preserved c =
    c.joined-v.ensures ∙ (byte_next _ _ _ c.requires (omega arith) _ _ c.loop-b.invariant c.loop-b-test.true (c.type_inv.bank _).fits).0

pub joined-requires : goal.joined-requires
joined-requires c =
    (omega arith, (rest_next _ _ _ c.requires (omega arith) _ _ c.loop-b.invariant _ c.loop-b.auto.b-index-end c.loop-b-test.false c.piece-2.ensures).1)

pub returns : goal.returns
returns c =
    c.joined.ensures ∙ (rest_next _ _ _ c.requires (omega arith) _ _ c.loop-b.invariant _ c.loop-b.auto.b-index-end c.loop-b-test.false c.piece-2.ensures).0
