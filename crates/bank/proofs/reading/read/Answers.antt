-- The control word is refused by one of its rules, or the code is read.
use Rattle.std.proofs.lemmas.Result.{err_from_is_err_and}
use Rattle.bank.proofs.Answers.{refused_early}
use Rattle.bank.proofs.reading.read.Goals as goal

pub returns-in_err-words : goal.returns-in_err-words
returns-in_err-words c =
    let p = err_from_is_err_and c.from_residual.result c.from_residual.ensures.1 in
    rw (p.1, p.2) (refused_early c.args.bank.now c.in_err-words.field-0.0 c.in_err-words.ensures)
