-- Too many are none; else they are digits, and not none.
use mathlib.Core.Path.{◌∙◌}
use borrow.Author.Tests.{lt-leb}
use Rattle.identify.proofs.Components.{too_many, not_too_many}
use Rattle.identify.proofs.form.is_up_to.Goals as goal

pub returns-then-x-n : goal.returns-then-x-n
returns-then-x-n c = c.is_padded.ensures ∙ not_too_many c.args.x.now c.args.n c.if-x-n.true

pub returns-else-x-n : goal.returns-else-x-n
returns-else-x-n c = lt-leb _ c.args.n c.if-x-n.false ∙ too_many c.args.x.now c.args.n c.if-x-n.false
