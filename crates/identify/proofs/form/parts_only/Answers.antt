use Prim.Native.Nat.{◌+◌}
use mathlib.Core.Path.{refl, sym, ap, ◌∙◌}
use native.Mathlib.Omega.{arith}
use lib.ListN.{drop, length-drop, drop_of_length-le}
use lib.Seq.{drop-drop}
use Rattle.std.proofs.lemmas.List.{take_rest}
use Rattle.digits.proofs.Runs.{drop_next}
use Rattle.identities.specs.Numbers.{parts_only}
use Rattle.identify.proofs.PartTexts.{Width, Widths, width_is}
use borrow.Author.Rules.{rules}
use Rattle.identify.proofs.form.parts_only.Goals as goal
use Rattle.identify.proofs.form.parts_only.Goals.{After-width, In-Some}

-- what the width at i says
one : (c : After-width) → Widths (drop c.loop-i.i c.args.x.now) c.width.result
one c = rw (c.width.ensures, take_rest c.args.x.now c.loop-i.i, drop_next c.args.x.now c.loop-i.i c.loop-i-test.true) (width_is _ (drop (c.loop-i.i + 1) c.args.x.now))

some : (c : In-Some) → Width (drop c.loop-i.i c.args.x.now) c.in-Some.w
some c = rw c.in-Some.is at (one (goal.at.In-Some c).After-width)

pub returns-in_default : goal.returns-in_default
returns-in_default c = let v = c.loop-i in sym (v.invariant.1 ∙ rw c.in_default.is at (one (goal.at.returns-in_default c).After-width))

pub overflow_add-i : goal.overflow_add-i
overflow_add-i c = let v = c.loop-i in omega (arith, (some c).within, length-drop v.i c.args.x.now, v.invariant.0)

pub loop-i-smaller : goal.loop-i-smaller
loop-i-smaller c = omega (arith, (some (goal.at.loop-i-smaller c).In-Some).more)

pub loop-i-preserved : goal.loop-i-preserved
loop-i-preserved c =
    let v = c.loop-i in
    let x = c.args.x.now in
    let w = some (goal.at.loop-i-preserved c).In-Some in
    (omega (arith, w.within, length-drop v.i x, v.invariant.0), v.invariant.1 ∙ w.step ∙ ap parts_only (drop-drop c.in-Some.w v.i x))

pub returns : goal.returns
returns c =
    let v = c.loop-i in
    let x = c.args.x.now in
    sym (v.invariant.1 ∙ ap parts_only (drop_of_length-le x c.loop-i-test.false))

pub loop-i-init : goal.loop-i-init
loop-i-init c = (search rules, refl)
