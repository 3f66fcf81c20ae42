use Rattle.std.proofs.Common.{rules}
use lib.Dec.{eqb}
use borrow.Author.Tests.{tests}
use Rattle.std.proofs.lemmas.Iterator.{YieldsList-from_slice}
use Rattle.std.proofs.lemmas.Iterator.Search.{position_from_yields_List}
use Rattle.lines.specs.Lines.{feed}
use Rattle.lines.proofs.Splits.{feed_found}
use Rattle.lines.proofs.line_length.Goals as goal

pub returns : goal.returns
returns c =
    feed_found c.args.rest.now c.position.result
    (position_from_yields_List (eqb feed) _ _ c.position.result c.position.ensures.ran (YieldsList-from_slice c.args.rest.now cc) (λ x b q k. search (rules, tests)))
