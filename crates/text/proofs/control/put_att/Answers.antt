-- Nothing, or three pieces: what stands before the digits, the digits, and the bracket.
use Rattle.rules.specs.declared.ControlName.TheVariants.{Att}
use Rattle.digits.proofs.Joins.{then}
use Rattle.text.proofs.Fields.{zero_adds, standing_is}
use Rattle.text.proofs.control.put_att.Goals as goal

pub returns-then-att-eq0 : goal.returns-then-att-eq0
returns-then-att-eq0 c = zero_adds Att c.args.att c.args.w.now c.if-att-eq0.true

pub returns : goal.returns
returns c =
    rw (standing_is Att c.args.att c.if-att-eq0.false)
    (then c.put.ensures (then c.hex.ensures c.byte.ensures))
