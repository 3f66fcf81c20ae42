-- What the scheme's layout has behind the filter.
use mathlib.Core.Path.{refl, sym, ◌∙◌}
use Rattle.rules.specs.declared.Scheme.TheVariants.{Cpi96}
use Rattle.rules.specs.declared.Body.TheVariants.{Then}
use Rattle.rules.specs.declared.Table.TheVariants.{Cpi}
use Rattle.rules.specs.declared.Last.TheVariants.{Integer}
use Rattle.identify.proofs.Pieces.{held_body}
use Rattle.identify.proofs.judge.component.Goals as goal

pub returns : goal.returns
returns c = c.spelled.ensures ∙ sym (held_body Cpi96 (Then Cpi (Integer 31)) c.args.x.now refl)
