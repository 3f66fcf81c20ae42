-- A bracket, or none.
use mathlib.Core.Path.{◌∙◌}
use Rattle.parts.proofs.FieldsInText.{at_the_end, no_bracket, a_bracket}
use Rattle.parts.proofs.control.control_at.Goals as goal
use Rattle.parts.proofs.control.control_at.Goals.{then-rest-via-then-rest, then-rest-via-else-rest+then-rest-ne91}

pub returns-then-rest : goal.returns-then-rest
returns-then-rest c =
    elim c.then-rest.branch [
      | then-rest-via-then-rest w ↦ at_the_end c.args.rest.text.now c.args.rest.at w.if-rest.true
      | then-rest-via-else-rest+then-rest-ne91 w ↦ no_bracket c.args.rest.text.now c.args.rest.at w.if-rest.false w.if-rest-ne91.true
    ]

pub returns : goal.returns
returns c = c.bracketed_at.ensures ∙ a_bracket c.args.rest.text.now c.args.rest.at c.if-rest.false c.if-rest-ne91.false
