-- `part_at` meets its contract: the run of digits is the part exactly if a dot follows it and its numbers fit.
use mathlib.Core.Path.{sym, ◌∙◌}
use native.Mathlib.Omega.{arith}
use Rattle.parts.proofs.Standing.{none_stands, stands_not, stands}
use Rattle.parts.proofs.parts.part_at.Goals as goal
use Rattle.parts.proofs.parts.part_at.Goals.{then-rest-end-via-then-rest-end, then-rest-end-via-else-rest-end+then-rest-end-ne46}

pub returns-then-rest-end : goal.returns-then-rest-end
returns-then-rest-end c =
    let x = c.args in
    let r = c.leading_digits-run in
    rw c.at.ensures
    (none_stands x.form c.requires x.rule x.rest.text.now x.rest.at r.result.length r.result.value r.ensures.length_value r.ensures.value_value λ l.
    elim c.then-rest-end.branch [
      | then-rest-end-via-then-rest-end w ↦ absurd (omega (arith, l, w.if-rest-end.true))
      | then-rest-end-via-else-rest-end+then-rest-end-ne46 w ↦ w.if-rest-end-ne46.true
    ])

pub returns-then-fits : goal.returns-then-fits
returns-then-fits c =
    let x = c.args in
    let r = c.leading_digits-run in
    stands x.form c.requires x.rule x.rest.text.now x.rest.at r.result.length r.result.value r.ensures.length_value r.ensures.value_value c.if-rest-end.false c.if-rest-end-ne46.false (sym c.fits.ensures ∙ c.if-fits.true)

pub returns : goal.returns
returns c =
    let x = c.args in
    let r = c.leading_digits-run in
    rw c.at-2.ensures
    (stands_not x.form c.requires x.rule x.rest.text.now x.rest.at r.result.length r.result.value r.ensures.length_value r.ensures.value_value c.if-rest-end.false c.if-rest-end-ne46.false (sym c.fits.ensures ∙ c.if-fits.false))
