-- `is_integer` meets its contract: the form, then the size.
use mathlib.Core.Path.{sym, ◌∙◌}
use Rattle.parts.proofs.Fitting.{small}
use Rattle.parts.proofs.parts.is_integer.Goals as goal

pub returns-then-is_plain : goal.returns-then-is_plain
returns-then-is_plain c = rw (sym c.is_plain.ensures ∙ c.if-is_plain.true) (small c.args.value c.args.bits)
