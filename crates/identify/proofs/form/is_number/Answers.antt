-- One digit is a number; of more, the first is not a zero.
use mathlib.Core.Path.{◌∙◌}
use Rattle.identify.proofs.Components.{short_number, leading_zero, no_leading_zero}
use Rattle.identify.proofs.form.is_number.Goals as goal

pub returns-then-x-lt2 : goal.returns-then-x-lt2
returns-then-x-lt2 c = c.is_padded.ensures ∙ short_number c.args.x.now c.if-x-lt2.true

pub returns-then-x-eq48 : goal.returns-then-x-eq48
returns-then-x-eq48 c = leading_zero c.args.x.now c.if-x-lt2.false c.if-x-eq48.true

pub returns : goal.returns
returns c =
    c.all_digits.ensures ∙ no_leading_zero c.args.x.now c.if-x-lt2.false c.if-x-eq48.false
