-- Each byte that is looked at says that the field does not stand, or that it may; the value says the rest.
use mathlib.Core.Path.{sym, ◌∙◌}
use Rattle.parts.proofs.Controls.{att_short, att_other, att_unbracketed, att_undigited, att_zero, att_stands}
use Rattle.parts.proofs.control.att_at.Goals as goal
use Rattle.parts.proofs.control.att_at.Goals.{then-rest-lt-ATT_LENGTH-via-then-rest-lt-ATT_LENGTH, then-rest-lt-ATT_LENGTH-via-else-rest-lt-ATT_LENGTH+then-not-begins, then-rest-lt-ATT_LENGTH-via-else-rest-lt-ATT_LENGTH+else-not-begins+then-rest-ne93}

pub returns-then-rest-lt-ATT_LENGTH : goal.returns-then-rest-lt-ATT_LENGTH
returns-then-rest-lt-ATT_LENGTH c =
    elim c.then-rest-lt-ATT_LENGTH.branch [
      | then-rest-lt-ATT_LENGTH-via-then-rest-lt-ATT_LENGTH w ↦ att_short c.args.rest.text.now c.args.rest.at w.if-rest-lt-ATT_LENGTH.true
      | then-rest-lt-ATT_LENGTH-via-else-rest-lt-ATT_LENGTH+then-not-begins w ↦ att_other c.args.rest.text.now c.args.rest.at c.args.rest.inside _ w.begins.ensures w.if-not-begins.true
      | then-rest-lt-ATT_LENGTH-via-else-rest-lt-ATT_LENGTH+else-not-begins+then-rest-ne93 w ↦ att_unbracketed c.args.rest.text.now c.args.rest.at w.if-rest-ne93.true
    ]

pub returns-in_err-value : goal.returns-in_err-value
returns-in_err-value c = c.from_residual.ensures ∙ att_undigited c.args.rest.text.now c.args.rest.at (sym (c.in_err-value.was) ∙ c.two_digits.ensures)

pub returns-then-value-eq0 : goal.returns-then-value-eq0
returns-then-value-eq0 c = att_zero c.args.rest.text.now c.args.rest.at _ c.if-value-eq0.true (sym (c.in_ok-value.was) ∙ c.two_digits.ensures)

pub returns : goal.returns
returns c =
    att_stands c.args.rest.text.now c.args.rest.at c.args.rest.inside _ c.begins.ensures c.if-not-begins.false c.if-rest-lt-ATT_LENGTH.false c.if-rest-ne93.false _ (sym (c.in_ok-value.was) ∙ c.two_digits.ensures) c.if-value-eq0.false
