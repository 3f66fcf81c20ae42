-- `with_integer` meets its contract: the reference stands before its dot, the integer is the rest.
use mathlib.Core.Path.{sym, ap, ◌∙◌}
use Rattle.std.specs.Prelude.{Ok}
use Rattle.std.proofs.lemmas.Result.{err_from_is_err_and}
use Rattle.rules.specs.declared.Last.TheVariants.{Integer}
use Rattle.text.proofs.Found.{Standing, stands}
use Rattle.text.proofs.Lasts.{not_ended, integer_ended}
use Rattle.text.proofs.reading.with_integer.Goals as goal
use Rattle.text.proofs.reading.with_integer.Goals.{In_ok-part}

-- the reference, from the place where it is read
reference : (c : In_ok-part) → Standing 6 c.args.reference c.args.rest.text.now c.args.rest.at c.in_ok-part.part
reference c = let x = c.args in stands 6 x.reference x.rest.text.now x.rest.at x.rest.inside c.in_ok-part.part (sym c.in_ok-part.was ∙ c.part_at.ensures)

pub behind-requires : goal.behind-requires
behind-requires c = (reference (goal.at.behind-requires c).In_ok-part).within

pub returns-in_err-serial : goal.returns-in_err-serial
returns-in_err-serial c =
    let x = c.args in
    let p = err_from_is_err_and c.from_residual-in_err-serial.result c.from_residual-in_err-serial.ensures.1 in
    rw (p.1, p.2)
    (not_ended x.head x.reference (Integer x.bits) x.rest.text.now x.rest.at _ (reference (goal.at.returns-in_err-serial c).In_ok-part) _ (sym c.in_err-serial.was ∙ (rw (c.behind.ensures.text, c.behind.ensures.at) at c.integer_to_end.ensures)))

pub returns : goal.returns
returns c =
    let x = c.args in
    ap Ok c.tagged.ensures
    ∙ integer_ended x.head x.reference x.bits x.rest.text.now x.rest.at _ (reference (goal.at.returns c).In_ok-part) _ (sym c.in_ok-serial.was ∙ (rw (c.behind.ensures.text, c.behind.ensures.at) at c.integer_to_end.ensures))
