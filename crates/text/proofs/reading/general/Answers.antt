-- `general` meets its contract: its first integer stands before its dot, and the two others are the rest.
use mathlib.Core.Path.{sym, ◌∙◌}
use native.Mathlib.Omega.{arith}
use Rattle.rules.specs.declared.Parts.TheVariants.{Integers}
use Rattle.scheme.specs.Outlines.{Narrow}
use Rattle.scheme.proofs.Widths.{parts_narrow}
use Rattle.parts.specs.declared.parts.Form.TheVariants.{Integer}
use Rattle.text.proofs.Found.{Standing, stands}
use Rattle.text.proofs.Whole.{with_integer}
use Rattle.text.proofs.reading.general.Goals as goal
use Rattle.text.proofs.reading.general.Goals.{In_ok-part, Start}

narrow : (c : Start) → let x = c.args in Narrow (Integers x.a x.b x.c)
narrow c = rw c.requires at (parts_narrow c.args.s)

pub part_at-requires : goal.part_at-requires
part_at-requires c = let s = (goal.at.part_at-requires c).Start in omega (arith, narrow s)

-- the first integer, from the place where it is read
first : (c : In_ok-part) → Standing 5 (Integer c.args.a) c.args.rest.text.now c.args.rest.at c.in_ok-part.part
first c = let x = c.args in stands 5 (Integer x.a) x.rest.text.now x.rest.at x.rest.inside c.in_ok-part.part (sym c.in_ok-part.was ∙ c.part_at.ensures)

pub with_integer-requires : goal.with_integer-requires
with_integer-requires c =
    let s = (goal.at.with_integer-requires c).Start in
    (omega (arith, narrow s), omega (arith, narrow s))

pub behind-requires : goal.behind-requires
behind-requires c = (first c).within

pub returns : goal.returns
returns c =
    let x = c.args in
    rw (c.behind.ensures.text, c.behind.ensures.at) at c.with_integer.ensures ∙ with_integer x.control x.s x.a x.b x.c c.requires x.rest.text.now x.rest.at _ (first (goal.at.returns c).In_ok-part)
