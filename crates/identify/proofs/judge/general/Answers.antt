-- Three integers.
use mathlib.Core.Path.{refl, sym, ap, ◌∙◌}
use lib.Dec.{lit≤}
use native.Mathlib.Omega.{arith}
use Rattle.std.proofs.lemmas.List.{take_rest}
use Rattle.rules.specs.declared.Scheme.TheVariants.{Gid96}
use Rattle.rules.specs.Schemes.{integer}
use Rattle.rules.specs.Grammar.{prefix, reference, last, part, end}
use Rattle.parts.specs.declared.parts.Form.TheVariants.{Integer}
use Rattle.text.proofs.Found.{Standing, stands, no_part}
use Rattle.identify.specs.Words.{fits_in}
use Rattle.identify.proofs.Pieces.{held_integers, part_fits, part_not}
use Rattle.identify.proofs.judge.general.Goals as goal
use Rattle.identify.proofs.judge.general.Goals.{In-Ok}

-- the first, from the place where it is known
there : (c : In-Ok) → Standing 5 (Integer 28) c.args.x.now 0 c.in-Ok.manager
there c = stands 5 (Integer 28) c.args.x.now 0 (omega arith) c.in-Ok.manager (rw (c.start.ensures.text, c.start.ensures.at) at c.in-Ok.ensures)

pub then-requires : goal.then-requires
then-requires c = (lit≤ tt, lit≤ tt)

pub slice_bounds-then-count : goal.slice_bounds-then-count
slice_bounds-then-count c = (there c).within

pub slice_bounds-then-start : goal.slice_bounds-then-start
slice_bounds-then-start c = (there c).within

pub returns : goal.returns
returns c =
    let x = c.args.x.now in
    let s = there (goal.at.returns c).In-Ok in
    c.then.ensures ∙ ap (fits_in (part reference (integer 24) λ _. end last (integer 36))) (take_rest x c.in-Ok.manager.next ∙ s.rest)
    ∙ sym (held_integers Gid96 28 24 36 x refl ∙ part_fits prefix (integer 28) (λ _. part reference (integer 24) λ _. end last (integer 36)) x 5 0 s.part s.read)

pub returns-in_default : goal.returns-in_default
returns-in_default c =
    let x = c.args.x.now in
    let (m, j, q, _) = no_part 0 _ _ (rw (c.start.ensures.text, c.start.ensures.at) at c.in_default.ensures) in
    sym (held_integers Gid96 28 24 36 x refl ∙ part_not prefix (integer 28) (λ _. part reference (integer 24) λ _. end last (integer 36)) x 5 0 m j q)
