-- Each name has its reader.
use Rattle.parts.proofs.Controls.{field_is}
use Rattle.parts.proofs.control.field_at.Goals as goal
use Rattle.parts.proofs.control.field_at.Goals.{in-Umi, in-Att}

pub returns : goal.returns
returns c =
    elim c.match-name.branch [
      | in-Umi w ↦ rw (w.in-Umi.is, c.unwrap_or.ensures, w.field-is, w.umi_at-field.ensures) (field_is _ c.args.rest.at _)
      | in-Att w ↦ rw (w.in-Att.is, c.unwrap_or.ensures, w.field-is, w.att_at-field.ensures) (field_is _ c.args.rest.at _)
    ]
