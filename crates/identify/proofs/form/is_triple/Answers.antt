-- The first two components end at the first two dots, and the third is the rest.
use Prim.Native.Nat.{◌+◌}
use mathlib.Core.Path.{◌≡◌, sym, ap, ◌∙◌}
use mathlib.Core.List.{[], ◌∷◌}
use native.Mathlib.Omega.{arith}
use lib.ListN.{drop}
use lib.Seq.{drop-drop}
use Rattle.rules.specs.Bytes.{behind, dot}
use Rattle.identities.specs.Numbers.{is}
use Rattle.std.proofs.lemmas.List.{take_rest}
use Rattle.identify.specs.Words.{split_by}
use Rattle.identify.proofs.Divided.{Cut, cut_is, first_wrong, second_wrong, third_wrong, triple_right}
use Rattle.identify.proofs.form.is_triple.Goals as goal
use Rattle.identify.proofs.form.is_triple.Goals.{After-is, After-split-2, In-Some, In-Some-split}

-- the first cut, from the place where its index is known
first : (c : In-Some) → let a = c.args in Cut a.a a.x.now c.in-Some.n
first c =
    let a = c.args in
    cut_is a.a a.x.now c.in-Some.n (sym c.in-Some.is ∙ c.split.ensures)

pub returns-in_default : goal.returns-in_default
returns-in_default c =
    let a = c.args in
    first_wrong a.total a.a a.b a.x.now (a.c ∷ []) (sym c.in_default.is ∙ c.split.ensures)

pub overflow_add-second : goal.overflow_add-second
overflow_add-second c = omega (arith, (first c).sizes)

pub slice_bounds-split-count : goal.slice_bounds-split-count
slice_bounds-split-count c = omega (arith, (first c).sizes)

pub slice_bounds-split-start : goal.slice_bounds-split-start
slice_bounds-split-start c = omega (arith, (first c).sizes)

-- what stands behind the first dot, cut again
behind_first : (c : After-split-2) → let k = (goal.at.After-split-2 c).In-Some in
    let a = c.args in
    c.split-2.result ≡ split_by a.b (behind dot a.x.now)
behind_first c =
    let k = (goal.at.After-split-2 c).In-Some in
    let a = c.args in
    let n = c.in-Some.n in
    c.split-2.ensures ∙ ap (split_by a.b) (take_rest a.x.now (n + 1) ∙ (first k).rest)

pub returns-in_default-split : goal.returns-in_default-split
returns-in_default-split c =
    let s = (goal.at.returns-in_default-split c).After-split-2 in
    let k = (goal.at.returns-in_default-split c).In-Some in
    let a = c.args in
    second_wrong a.total a.a a.b a.x.now _ (first k) a.c (sym c.in_default-split.is ∙ behind_first s)

second : (c : In-Some-split) → let a = c.args in
    Cut a.b (behind dot a.x.now) c.in-Some-split.m
second c =
    let s = (goal.at.In-Some-split c).After-split-2 in
    let a = c.args in
    cut_is a.b (behind dot a.x.now) c.in-Some-split.m (sym c.in-Some-split.is ∙ behind_first s)

pub overflow_add-third : goal.overflow_add-third
overflow_add-third c = omega (arith, (first (goal.at.overflow_add-third c).In-Some).sizes, (second c).sizes)

pub overflow_add-third-2 : goal.overflow_add-third-2
overflow_add-third-2 c = omega (arith, (first (goal.at.overflow_add-third-2 c).In-Some).sizes, (second c).sizes)

pub slice_bounds-is-count : goal.slice_bounds-is-count
slice_bounds-is-count c = omega (arith, (first (goal.at.slice_bounds-is-count c).In-Some).sizes, (second c).sizes)

pub slice_bounds-is-start : goal.slice_bounds-is-start
slice_bounds-is-start c = omega (arith, (first (goal.at.slice_bounds-is-start c).In-Some).sizes, (second c).sizes)

-- the rest is the third component, or not
judged : (c : After-is) → let a = c.args in
    c.is.result ≡ is a.c (behind dot (behind dot a.x.now))
judged c =
    let m = (goal.at.After-is c).In-Some-split in
    let k = (goal.at.After-is c).In-Some in
    let a = c.args in
    let i = c.in-Some.n in
    let j = c.in-Some-split.m in
    let e : i + 1 + j + 1 ≡ i + 1 + (j + 1) = omega arith in
    c.is.ensures
    ∙ ap (is a.c) (take_rest a.x.now (i + 1 + j + 1)
    ∙ ap (λ n. drop n a.x.now) e ∙ sym (drop-drop (j + 1) (i + 1) a.x.now) ∙ ap (drop (j + 1)) (first k).rest ∙ (second m).rest)

pub returns-then-not-is : goal.returns-then-not-is
returns-then-not-is c =
    let m = (goal.at.returns-then-not-is c).In-Some-split in
    let k = (goal.at.returns-then-not-is c).In-Some in
    let a = c.args in
    third_wrong a.total a.a a.b a.x.now _ (first k) a.c _ (second m) (sym (judged (goal.at.returns-then-not-is c).After-is) ∙ c.if-not-is.true)

pub overflow_add-n : goal.overflow_add-n
overflow_add-n c = omega (arith, (first (goal.at.overflow_add-n c).In-Some).sizes, (second (goal.at.overflow_add-n c).In-Some-split).sizes)

pub returns : goal.returns
returns c =
    let m = (goal.at.returns c).In-Some-split in
    let k = (goal.at.returns c).In-Some in
    let a = c.args in
    c.is_total.ensures ∙ triple_right a.total a.a a.b a.x.now _ (first k) a.c _ (second m) (sym (judged (goal.at.returns c).After-is) ∙ c.if-not-is.false)
