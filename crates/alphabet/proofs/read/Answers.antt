-- What the readers counted and kept is what a caller is told.
use Rattle.std.proofs.Common.{◌∙◌, sym}
use Rattle.rules.specs.TextNumbers.{characters_in}
use Rattle.alphabet.proofs.Kept.{read_right, read_wrong, read_empty}
use Rattle.alphabet.proofs.read.Goals as goal

pub returns-in_err-count : goal.returns-in_err-count
returns-in_err-count c = c.from_residual.ensures ∙ read_wrong (characters_in c.args.text.now) (sym c.in_err-count.was ∙ c.plain_run.ensures.value)

pub returns-then-count-eq0 : goal.returns-then-count-eq0
returns-then-count-eq0 c =
    read_empty (characters_in c.args.text.now) _ (sym c.in_ok-count.was ∙ c.plain_run.ensures.value) c.if-count-eq0.true

pub returns : goal.returns
returns c =
    read_right (characters_in c.args.text.now) _ _ (sym c.in_ok-count.was ∙ c.plain_run.ensures.value) c.if-count-eq0.false c.plain_run.ensures.kept
