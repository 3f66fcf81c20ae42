-- The seven characters stand at the index, or they don't.
use Rattle.parts.proofs.Controls.{umi_stands, umi_absent}
use Rattle.parts.proofs.control.umi_at.Goals as goal

pub returns-then-not-begins : goal.returns-then-not-begins
returns-then-not-begins c = umi_absent c.args.rest.text.now c.args.rest.at c.args.rest.inside _ c.begins.ensures c.if-not-begins.true

pub returns : goal.returns
returns c = umi_stands c.args.rest.text.now c.args.rest.at c.args.rest.inside _ c.begins.ensures c.if-not-begins.false
