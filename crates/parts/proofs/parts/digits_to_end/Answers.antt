-- `digits_to_end` meets its contract: the run must reach the end and have n digits.
use Rattle.parts.proofs.Ends.{digits_behind, digits_other, digits_end}
use Rattle.parts.proofs.parts.digits_to_end.Goals as goal
use Rattle.parts.proofs.parts.digits_to_end.Goals.{then-end-rest-via-then-end-rest, then-end-rest-via-else-end-rest+then-run-n}

pub returns-then-end-rest : goal.returns-then-end-rest
returns-then-end-rest c =
    let r = c.leading_digits-run in
    rw c.at.ensures
    elim c.then-end-rest.branch [
      | then-end-rest-via-then-end-rest w ↦ digits_behind c.args.rest.text.now c.args.rest.at r.result.length r.result.value r.ensures.length_value r.ensures.value_value c.args.n c.requires w.if-end-rest.true
      | then-end-rest-via-else-end-rest+then-run-n w ↦ digits_other c.args.rest.text.now c.args.rest.at r.result.length r.result.value r.ensures.length_value r.ensures.value_value c.args.n w.if-end-rest.false w.if-run-n.true
    ]

pub returns : goal.returns
returns c =
    let r = c.leading_digits-run in
    digits_end c.args.rest.text.now c.args.rest.at r.result.length r.result.value r.ensures.length_value r.ensures.value_value c.args.n c.if-end-rest.false c.if-run-n.false
