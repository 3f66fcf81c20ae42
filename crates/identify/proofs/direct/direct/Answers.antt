-- Most texts are passed over.
use mathlib.Core.Path.{sym, ap, ◌∙◌}
use mathlib.Core.Bool.{cond}
use Rattle.std.specs.Prelude.{None}
use Rattle.identify.specs.Words.{way_in}
use Rattle.identify.proofs.direct.direct.Goals as goal

pub returns-then-may_have_string : goal.returns-then-may_have_string
returns-then-may_have_string c =
    let t = c.args.text.now in
    c.held.ensures ∙ sym (ap (λ b. cond b (way_in t) None) (sym c.may_have_string.ensures ∙ c.if-may_have_string.true))

pub returns : goal.returns
returns c =
    let t = c.args.text.now in
    sym (ap (λ b. cond b (way_in t) None) (sym c.may_have_string.ensures ∙ c.if-may_have_string.false))
