-- What is counted after none is the number of characters.
use Rattle.std.proofs.Common.{◌∙◌, arith}
use borrow.Author.Tests.{lt-ltb}
use Rattle.std.specs.Prelude.{None, Some}
use Rattle.rules.specs.TextNumbers.{characters_in}
use Rattle.alphabet.proofs.Kept.{told}
use Rattle.alphabet.proofs.characters_in.Goals as goal

pub returns-in_err-n : goal.returns-in_err-n
returns-in_err-n c = c.from_residual.ensures ∙ told (characters_in c.args.text.now) None c.in_err-n.ensures

pub returns-in-0 : goal.returns-in-0
returns-in-0 c = told (characters_in c.args.text.now) (Some 0) (rw c.in-0.is at c.in_ok-n.ensures)

pub returns-in_default : goal.returns-in_default
returns-in_default c =
    let e = told (characters_in c.args.text.now) (Some c.in_ok-n.n) c.in_ok-n.ensures in
    rw (lt-ltb 0 c.in_ok-n.n (omega arith)) at e
