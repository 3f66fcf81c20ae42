-- Each arm knows the parts of its scheme: so what their writers ask holds.
use mathlib.Core.Path.{◌≡◌, sym, ap, ◌∙◌}
use Rattle.rules.specs.declared.Parts.{Parts}
use Rattle.rules.specs.Schemes.{about}
use Rattle.text.proofs.Written.{Small, small}
use Rattle.text.proofs.writing.put_parts.Goals as goal
use Rattle.text.proofs.writing.put_parts.Goals.{After-about}

module _ (c : After-about) (p : Parts) (e : c.about.result.parts ≡ p) where
  parts_are : (about c.args.tag.scheme).parts ≡ p
  parts_are = sym (ap (λ l. l.parts) c.about.ensures) ∙ e

  fits : Small p c.args.tag
  fits = small _ p c.requires.0 parts_are

pub put_body-requires : goal.put_body-requires
put_body-requires c =
    let (company, held) = fits (goal.at.put_body-requires c).After-about _ c.in-F.is in
    (company, held, c.requires.1)

pub returns-in-F : goal.returns-in-F
returns-in-F c = rw (parts_are (goal.at.returns-in-F c).After-about _ c.in-F.is) c.put_body.ensures

pub returns-in-Integers : goal.returns-in-Integers
returns-in-Integers c = rw (parts_are (goal.at.returns-in-Integers c).After-about _ c.in-Integers.is) c.put_integers.ensures
