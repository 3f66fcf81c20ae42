-- Each test is one of the definition's.
use mathlib.Core.Path.{◌∙◌, sym}
use borrow.Author.Rules.{rules}
use borrow.Author.Tests.{lt-leb, le-leb, eq-eqb, ne_eqb}
use Rattle.replies.specs.Hex.{is_hex, is_bank}
use Rattle.replies.proofs.hex.is_bank.Goals as goal

pub returns-then-line-gt-MOST_DIGITS : goal.returns-then-line-gt-MOST_DIGITS
unfolding is_bank
returns-then-line-gt-MOST_DIGITS c = simp (lt-leb _ _ c.if-line-gt-MOST_DIGITS.true)

pub returns-then-line-ne0 : goal.returns-then-line-ne0
unfolding is_bank
returns-then-line-ne0 c = simp (le-leb _ _ c.if-line-gt-MOST_DIGITS.false, ne_eqb _ _ c.if-line-ne0.true)

pub returns : goal.returns
unfolding is_bank
returns c = c.all.ensures is_hex (search rules) ∙ sym (simp (le-leb _ _ c.if-line-gt-MOST_DIGITS.false, eq-eqb _ _ c.if-line-ne0.false))
