-- The twelve bytes are the start that the written rules name.
use borrow.Author.Rules.{rules}
use Rattle.rules.specs.Grammar.{start}
use Rattle.text.proofs.reading.begins.Goals as goal

pub returns : goal.returns
unfolding start
returns c = search rules
