-- What the one scheme holds is of the grammar; else the grammar is looked at.
use mathlib.Core.Path.{sym, ap, ◌∙◌}
use Rattle.std.specs.Prelude.{Ok}
use Rattle.identify.proofs.Holders.{held_alone, unheld_alone, wrong_alone}
use Rattle.identify.proofs.judge.uncounted.Goals as goal

pub returns-then-is_held : goal.returns-then-is_held
returns-then-is_held c =
    ap Ok c.short.ensures ∙ held_alone c.args.f c.args.x.now c.requires (sym c.is_held.ensures ∙ c.if-is_held.true)

pub returns-then-is_body : goal.returns-then-is_body
returns-then-is_body c =
    unheld_alone c.args.f c.args.x.now c.requires (sym c.is_held.ensures ∙ c.if-is_held.false) (sym c.is_body.ensures ∙ c.if-is_body.true)

pub returns : goal.returns
returns c =
    wrong_alone c.args.f c.args.x.now (sym c.is_body.ensures ∙ c.if-is_body.false)
