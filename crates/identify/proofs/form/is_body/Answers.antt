-- The components of the family, two or three, and their total.
use mathlib.Core.Path.{sym, ap, ◌∙◌}
use Rattle.identify.specs.Words.{components_of, total_in}
use Rattle.identify.proofs.Divided.{body_divided}
use Rattle.identify.proofs.form.is_body.Goals as goal

pub returns-in-Two : goal.returns-in-Two
returns-in-Two c =
    let a = c.args in
    let shape = c.about.ensures in
    let e = c.in-Two.is in
    c.is_pair.ensures ∙ body_divided a.f c.in-Two.total _ a.x.now (sym (ap components_of e) ∙ shape.components) (sym (ap total_in e) ∙ shape.total)

pub returns-in-Three : goal.returns-in-Three
returns-in-Three c =
    let a = c.args in
    let shape = c.about.ensures in
    let e = c.in-Three.is in
    c.is_triple.ensures ∙ body_divided a.f c.in-Three.total _ a.x.now (sym (ap components_of e) ∙ shape.components) (sym (ap total_in e) ∙ shape.total)
