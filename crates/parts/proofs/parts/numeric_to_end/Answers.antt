-- `numeric_to_end` meets its contract: a run that ends before the text's end is judged by all that is left, another by its length.
use Rattle.parts.proofs.Ends.{numeric_behind, numeric_none, numeric_long, numeric_end}
use Rattle.parts.proofs.parts.numeric_to_end.Goals as goal

pub returns-then-end-rest : goal.returns-then-end-rest
returns-then-end-rest c =
    let r = c.leading_digits-run in
    rw (c.at.ensures, c.longer.ensures, c.behind.ensures.text, c.behind.ensures.at) (numeric_behind c.args.rest.text.now c.args.rest.at r.result.length r.result.value r.ensures.length_value r.ensures.value_value c.args.most c.requires c.if-end-rest.true)

pub returns-then-run-eq0 : goal.returns-then-run-eq0
returns-then-run-eq0 c =
    let r = c.leading_digits-run in
    rw c.at-then-run-eq0.ensures (numeric_none c.args.rest.text.now c.args.rest.at r.result.length r.result.value r.ensures.length_value r.ensures.value_value c.args.most c.if-end-rest.false c.if-run-eq0.true)

pub returns-then-most-run : goal.returns-then-most-run
returns-then-most-run c =
    let r = c.leading_digits-run in
    rw c.at-then-most-run.ensures (numeric_long c.args.rest.text.now c.args.rest.at r.result.length r.result.value r.ensures.length_value r.ensures.value_value c.args.most c.if-end-rest.false c.if-most-run.true)

pub returns : goal.returns
returns c =
    let r = c.leading_digits-run in
    numeric_end c.args.rest.text.now c.args.rest.at r.result.length r.result.value r.ensures.length_value r.ensures.value_value c.args.most c.if-end-rest.false c.if-run-eq0.false c.if-most-run.false
