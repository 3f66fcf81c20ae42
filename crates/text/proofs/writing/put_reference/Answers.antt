-- The table says which of the two forms the reference has.
use mathlib.Core.Path.{sym, ◌∙◌}
use native.Mathlib.Omega.{arith}
use Rattle.text.proofs.writing.put_reference.Goals as goal

pub returns-then-exact : goal.returns-then-exact
returns-then-exact c =
    record { adds = rw (sym c.exact.ensures ∙ c.if-exact.true) c.put_row.ensures.adds; upper_bound = omega (arith, c.put_row.ensures.upper_bound) }

pub returns : goal.returns
returns c =
    record { adds = rw (sym c.exact.ensures ∙ c.if-exact.false) c.put_integer.ensures.adds; upper_bound = c.put_integer.ensures.upper_bound }
