use Prim.Native.Nat.{◌+◌}
use mathlib.Core.Path.{◌≡◌, sym, ap, ◌∙◌}
use native.Mathlib.Omega.{arith}
use lib.ListN.{drop}
use Rattle.identities.specs.declared.Component.TheVariants.{PaddedOrEmpty}
use Rattle.std.specs.Prelude.{Some}
use Rattle.identify.specs.Words.{split_by}
use Rattle.identify.proofs.Verdicts.{further, no_further, further_again, past, at_dot, at_digit, at_other}
use Rattle.identify.proofs.form.digits_before.Goals as goal

pub returns-then-c-eq46 : goal.returns-then-c-eq46
returns-then-c-eq46 c =
    let x = c.args.x.now in
    let e : c.loop-i.i ≡ c.loop-i.i + 0 = omega arith in
    ap Some e ∙ sym (c.loop-i.invariant ∙ ap (further c.loop-i.i) (at_dot x c.loop-i.i c.loop-i-test.true c.if-c-eq46.true))

pub returns : goal.returns
returns c =
    sym (c.loop-i.invariant ∙ ap (further c.loop-i.i) (past c.args.x.now c.loop-i.i c.loop-i-test.false))

pub returns-then-not-is_digit : goal.returns-then-not-is_digit
returns-then-not-is_digit c =
    let x = c.args.x.now in
    sym (c.loop-i.invariant ∙ ap (further c.loop-i.i) (at_other x c.loop-i.i c.loop-i-test.true c.if-c-eq46.false (sym c.is_digit.ensures ∙ c.if-not-is_digit.true)))

pub loop-i-preserved : goal.loop-i-preserved
loop-i-preserved c =
    let x = c.args.x.now in
    c.loop-i.invariant ∙ ap (further c.loop-i.i) (at_digit x c.loop-i.i c.loop-i-test.true (sym c.is_digit.ensures ∙ c.if-not-is_digit.false)) ∙ further_again c.loop-i.i (split_by PaddedOrEmpty (drop (c.loop-i.i + 1) x))

pub loop-i-init : goal.loop-i-init
loop-i-init c = no_further _
