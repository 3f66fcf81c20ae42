-- The first component ends at the first dot, and the second is the rest.
use Prim.Native.Nat.{◌+◌}
use mathlib.Core.Path.{◌≡◌, refl, sym, ap, ◌∙◌}
use mathlib.Core.List.{[]}
use native.Mathlib.Omega.{arith}
use Rattle.rules.specs.Bytes.{behind, dot}
use Rattle.identities.specs.Numbers.{is}
use Rattle.std.proofs.lemmas.List.{take_rest}
use Rattle.identify.proofs.Divided.{Cut, cut_is, first_wrong, last_wrong, pair_right}
use Rattle.identify.proofs.form.is_pair.Goals as goal
use Rattle.identify.proofs.form.is_pair.Goals.{After-is, In-Some}

-- the cut, from the place where its index is known
cut : (c : In-Some) → let a = c.args in Cut a.a a.x.now c.in-Some.n
cut c =
    let a = c.args in
    cut_is a.a a.x.now c.in-Some.n (sym c.in-Some.is ∙ c.split.ensures)

pub returns-in_default : goal.returns-in_default
returns-in_default c =
    let a = c.args in
    first_wrong a.total a.a a.b a.x.now [] (sym c.in_default.is ∙ c.split.ensures)

pub overflow_add-behind : goal.overflow_add-behind
overflow_add-behind c = omega (arith, (cut c).sizes)

pub slice_bounds-is-count : goal.slice_bounds-is-count
slice_bounds-is-count c = omega (arith, (cut c).sizes)

pub slice_bounds-is-start : goal.slice_bounds-is-start
slice_bounds-is-start c = omega (arith, (cut c).sizes)

-- the rest is the second component, or not
judged : (c : After-is) → let k = (goal.at.After-is c).In-Some in
    let a = c.args in
    c.is.result ≡ is a.b (behind dot a.x.now)
judged c =
    let k = (goal.at.After-is c).In-Some in
    let a = c.args in
    let n = c.in-Some.n in
    c.is.ensures ∙ ap (is a.b) (take_rest a.x.now (n + 1) ∙ (cut k).rest)

pub returns-then-not-is : goal.returns-then-not-is
returns-then-not-is c =
    let k = (goal.at.returns-then-not-is c).In-Some in
    let a = c.args in
    last_wrong a.total a.a a.b a.x.now _ (cut k) (sym (judged (goal.at.returns-then-not-is c).After-is) ∙ c.if-not-is.true)

pub overflow_sub-x : goal.overflow_sub-x
overflow_sub-x c = omega (arith, (cut (goal.at.overflow_sub-x c).In-Some).sizes)

pub returns : goal.returns
returns c =
    let k = (goal.at.returns c).In-Some in
    let a = c.args in
    c.is_total.ensures ∙ pair_right a.total a.a a.b a.x.now _ (cut k) (sym (judged (goal.at.returns c).After-is) ∙ c.if-not-is.false) _ refl
