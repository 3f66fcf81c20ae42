-- Each field is read where the one before it ends; then the text ends, or goes on with a colon or not.
use Rattle.parts.proofs.FieldsInText.{umi_inside, text_ends, no_colon, a_colon}
use Rattle.parts.proofs.control.bracketed_at.Goals as goal
use Rattle.parts.proofs.control.bracketed_at.Goals.{then-rest-end-via-then-rest-end, then-rest-end-via-else-rest-end+then-rest-end-ne58}

pub behind-requires : goal.behind-requires
behind-requires c = umi_inside c.args.rest.text.now c.args.rest.at _ c.args.rest.inside c.field_at-umi.ensures

pub returns-then-rest-end : goal.returns-then-rest-end
returns-then-rest-end c =
    rw c.at.ensures
    elim c.then-rest-end.branch [
      | then-rest-end-via-then-rest-end w ↦ text_ends c.args.rest.text.now c.args.rest.at _ c.args.rest.inside c.field_at-umi.ensures _ (rw (c.behind.ensures.text, c.behind.ensures.at) at c.field_at-att.ensures) w.if-rest-end.true
      | then-rest-end-via-else-rest-end+then-rest-end-ne58 w ↦ no_colon c.args.rest.text.now c.args.rest.at _ c.args.rest.inside c.field_at-umi.ensures _ (rw (c.behind.ensures.text, c.behind.ensures.at) at c.field_at-att.ensures) w.if-rest-end.false w.if-rest-end-ne58.true
    ]

pub returns : goal.returns
returns c = a_colon c.args.rest.text.now c.args.rest.at _ c.args.rest.inside c.field_at-umi.ensures _ (rw (c.behind.ensures.text, c.behind.ensures.at) at c.field_at-att.ensures) c.if-rest-end.false c.if-rest-end-ne58.false
