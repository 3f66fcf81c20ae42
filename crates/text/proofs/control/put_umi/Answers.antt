-- Nothing, or the seven bytes.
use Rattle.rules.specs.declared.ControlName.TheVariants.{Umi}
use Rattle.text.proofs.Fields.{zero_adds, umi_is}
use Rattle.text.proofs.control.put_umi.Goals as goal

pub returns-then-umi-eq0 : goal.returns-then-umi-eq0
returns-then-umi-eq0 c = zero_adds Umi c.args.umi c.args.w.now c.if-umi-eq0.true

pub returns : goal.returns
returns c =
    rw (umi_is c.args.umi c.requires.0 c.if-umi-eq0.false) c.put.ensures
