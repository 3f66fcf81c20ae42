-- The first family that is named is found.
use mathlib.Core.Path.{sym, ◌∙◌}
use Rattle.identities.specs.declared.Family.TheVariants.{Sgtin}
use Rattle.identities.specs.Families.{families}
use Rattle.identify.proofs.Names.{here, past, nobody}
use Rattle.identify.proofs.families.name.Goals as goal

pub returns-then-begins : goal.returns-then-begins
unfolding families
returns-then-begins c = rw c.loop-f.invariant (here c.args.text.now c.loop-f.f-index _ c.loop-f-test.true (rw (← c.label.ensures) (sym c.begins.ensures ∙ c.if-begins.true)))

pub loop-f-preserved : goal.loop-f-preserved
unfolding families
loop-f-preserved c = c.loop-f.invariant ∙ past c.args.text.now c.loop-f.f-index Sgtin c.loop-f-test.true (rw (← c.label.ensures) (sym c.begins.ensures ∙ c.if-begins.false))

pub returns : goal.returns
returns c = rw (c.loop-f.invariant, nobody c.args.text.now c.loop-f.f-index c.loop-f-test.false)
