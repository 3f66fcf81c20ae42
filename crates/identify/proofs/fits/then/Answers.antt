-- The part is taken or refused, and then the last part.
use mathlib.Core.Path.{sym, ap, ◌∙◌}
use native.Mathlib.Omega.{arith}
use Rattle.std.proofs.lemmas.List.{take_rest}
use Rattle.rules.specs.Schemes.{last_form}
use Rattle.rules.specs.Grammar.{reference, last, end}
use Rattle.parts.specs.Parts.{form_of}
use Rattle.text.proofs.Found.{Standing, stands}
use Rattle.identify.specs.Words.{fitting}
use Rattle.identify.proofs.Pieces.{part_fits}
use Rattle.identify.proofs.fits.then.Goals as goal
use Rattle.identify.proofs.fits.then.Goals.{In-Ok}

-- the part, from the place where it is known
there : (c : In-Ok) → let a = c.args in Standing 6 a.form a.x.now 0 c.in-Ok.part
there c = let a = c.args in stands 6 a.form a.x.now 0 (omega arith) c.in-Ok.part (rw (c.start.ensures.text, c.start.ensures.at) at c.in-Ok.ensures)

pub slice_bounds-is_last-count : goal.slice_bounds-is_last-count
slice_bounds-is_last-count c = (there c).within

pub slice_bounds-is_last-start : goal.slice_bounds-is_last-start
slice_bounds-is_last-start c = (there c).within

pub returns : goal.returns
returns c =
    let a = c.args in
    let s = there (goal.at.returns c).In-Ok in
    c.is_last.ensures ∙ ap (fitting (last_form a.l)) (take_rest a.x.now c.in-Ok.part.next ∙ s.rest)
    ∙ sym (part_fits reference (form_of a.form) (λ _. end last (last_form a.l)) a.x.now 6 0 s.part s.read)
