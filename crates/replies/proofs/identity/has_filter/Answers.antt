-- The tests are made in turn.
use mathlib.Core.Path.{sym, ◌∙◌}
use Rattle.replies.proofs.Filters.{too_short, no_digit, no_space, text_begins}
use Rattle.replies.proofs.identity.has_filter.Goals as goal

pub returns-then-line-lt-AFTER_FILTER : goal.returns-then-line-lt-AFTER_FILTER
returns-then-line-lt-AFTER_FILTER c = sym (too_short c.args.line.now c.if-line-lt-AFTER_FILTER.true)

pub returns-then-not-is_digit : goal.returns-then-not-is_digit
returns-then-not-is_digit c =
    sym (no_digit c.args.line.now c.if-line-lt-AFTER_FILTER.false (sym c.is_digit.ensures ∙ c.if-not-is_digit.true))

pub returns-then-line-ne32 : goal.returns-then-line-ne32
returns-then-line-ne32 c =
    sym (no_space c.args.line.now c.if-line-lt-AFTER_FILTER.false (sym c.is_digit.ensures ∙ c.if-not-is_digit.false) c.if-line-ne32.true)

pub returns : goal.returns
returns c =
    c.begins.ensures ∙ sym (text_begins c.args.line.now c.if-line-lt-AFTER_FILTER.false (sym c.is_digit.ensures ∙ c.if-not-is_digit.false) c.if-line-ne32.false)
