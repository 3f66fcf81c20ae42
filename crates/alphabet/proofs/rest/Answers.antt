use Rattle.std.proofs.Common.{◌∙◌, arith}
use lib.ListN.{length-drop}
use Rattle.alphabet.proofs.Steps.{left_is}
use Rattle.alphabet.proofs.Widths.{some_width}
use Rattle.alphabet.proofs.rest.Goals as goal

pub loop-left-preserved : goal.loop-left-preserved
loop-left-preserved c =
    let v = c.loop-left in
    let left = v.left.now in
    let w = c.in_ok-left.field-0 in
    let one = some_width left w c.in_ok-left.ensures in
    rw (left_is left w) (omega (arith, one.some, one.within, length-drop w left), one.counts v.m ∙ v.invariant.1)
