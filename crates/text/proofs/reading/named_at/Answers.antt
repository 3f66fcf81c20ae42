-- `named_at` meets its contract: the name, then the parts.
use mathlib.Core.Path.{sym, ap, ◌∙◌}
use Rattle.std.specs.Prelude.{Err}
use Rattle.text.proofs.Starts.{name_inside, no_name, with_name}
use Rattle.text.proofs.reading.named_at.Goals as goal

pub returns-in_default : goal.returns-in_default
returns-in_default c = ap Err c.at.ensures ∙ no_name c.args.rest c.args.control (sym c.in_default.is ∙ c.name.ensures)

pub behind-requires : goal.behind-requires
behind-requires c = name_inside c.args.rest _ (sym c.in-Some.is ∙ c.name.ensures)

pub returns : goal.returns
returns c = rw (c.behind.ensures.text, c.behind.ensures.at) at c.parts_at.ensures ∙ with_name c.args.rest c.args.control _ (sym c.in-Some.is ∙ c.name.ensures)
