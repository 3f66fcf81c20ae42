-- A run of digits before a dot, digits behind it, and their total.
use Prim.Native.Nat.{◌+◌}
use mathlib.Core.Path.{◌≡◌, sym, ap, ◌∙◌}
use mathlib.Core.List.{[]}
use native.Mathlib.Omega.{arith}
use borrow.Author.Tests.{le-ltb, lt-ltb}
use Rattle.rules.specs.Bytes.{behind, dot}
use Rattle.identities.specs.declared.Component.TheVariants.{Padded, PaddedOrEmpty}
use Rattle.identities.specs.Numbers.{is}
use Rattle.std.proofs.lemmas.List.{take_rest}
use Rattle.std.specs.Prelude.{Some}
use Rattle.std.proofs.lemmas.Result.{err_from_is_err_and}
use Rattle.identify.specs.Words.{split_by, by_row}
use Rattle.identify.proofs.Divided.{Cut, first_wrong, last_wrong}
use Rattle.identify.proofs.Verdicts.{the_fault, never_empty, uncut, missing, cut_there}
use Rattle.identify.proofs.Judgements.{wrong_pair, wrong_sum, row_decides}
use Rattle.identify.proofs.counted.two.Goals as goal
use Rattle.identify.proofs.counted.two.Goals.{After-is, Else-n-eq0, In_ok-n}

pub returns-in_err-n : goal.returns-in_err-n
returns-in_err-n c =
    let a = c.args in
    let p = err_from_is_err_and c.from_residual.result c.from_residual.ensures.1 in
    rw (p.1, p.2, the_fault c.in_err-n.ensures.ok_part c.in_err-n.ensures.value) (wrong_pair a.f a.a a.b a.total a.x.now c.requires
    (first_wrong (Some a.total) Padded a.b a.x.now [] (uncut never_empty a.x.now (sym c.in_err-n.ensures.ok_part ∙ c.digits_before.ensures))))

-- the run before the dot, from the place where its index is known
run : (c : In_ok-n) → Some c.in_ok-n.n ≡ split_by PaddedOrEmpty c.args.x.now
run c = sym c.in_ok-n.ensures.ok_part ∙ c.digits_before.ensures

pub returns-then-n-eq0 : goal.returns-then-n-eq0
returns-then-n-eq0 c =
    let k = (goal.at.returns-then-n-eq0 c).In_ok-n in
    let a = c.args in
    wrong_pair a.f a.a a.b a.total a.x.now c.requires
    (first_wrong (Some a.total) Padded a.b a.x.now [] (missing never_empty a.x.now c.in_ok-n.n (run k) (le-ltb 0 c.in_ok-n.n (omega (arith, c.if-n-eq0.true)))))

-- the prefix
first : (c : Else-n-eq0) → let k = (goal.at.Else-n-eq0 c).In_ok-n in Cut Padded c.args.x.now c.in_ok-n.n
first c = let k = (goal.at.Else-n-eq0 c).In_ok-n in cut_there never_empty _ c.in_ok-n.n (run k) (lt-ltb 0 c.in_ok-n.n (omega (arith, c.if-n-eq0.false)))

pub overflow_add-second : goal.overflow_add-second
overflow_add-second c = omega (arith, (first c).sizes)

pub slice_bounds-is-count : goal.slice_bounds-is-count
slice_bounds-is-count c = omega (arith, (first c).sizes)

pub slice_bounds-is-start : goal.slice_bounds-is-start
slice_bounds-is-start c = omega (arith, (first c).sizes)

-- the reference, or not
judged : (c : After-is) → let e = (goal.at.After-is c).Else-n-eq0 in
    let a = c.args in
    c.is.result ≡ is a.b (behind dot a.x.now)
judged c =
    let e = (goal.at.After-is c).Else-n-eq0 in
    let a = c.args in
    let n = c.in_ok-n.n in
    c.is.ensures ∙ ap (is a.b) (take_rest a.x.now (n + 1) ∙ (first e).rest)

pub returns-then-not-is : goal.returns-then-not-is
returns-then-not-is c =
    let e = (goal.at.returns-then-not-is c).Else-n-eq0 in
    let a = c.args in
    wrong_pair a.f a.a a.b a.total a.x.now c.requires (last_wrong (Some a.total) Padded a.b a.x.now _ (first e) (sym (judged (goal.at.returns-then-not-is c).After-is) ∙ c.if-not-is.true))

pub overflow_sub-x : goal.overflow_sub-x
overflow_sub-x c = omega (arith, (first (goal.at.overflow_sub-x c).Else-n-eq0).sizes)

pub returns-then-x-total : goal.returns-then-x-total
returns-then-x-total c =
    let e = (goal.at.returns-then-x-total c).Else-n-eq0 in
    let a = c.args in
    wrong_sum a.f a.a a.b a.total a.x.now c.requires _ (first e) (sym (judged (goal.at.returns-then-x-total c).After-is) ∙ c.if-not-is.false) c.if-x-total.true

pub returns : goal.returns
returns c =
    let e = (goal.at.returns c).Else-n-eq0 in
    let a = c.args in
    c.by_row.ensures ∙ ap (by_row c.in_ok-n.n) c.short.ensures
    ∙ row_decides a.f a.a a.b a.total a.x.now c.requires _ (first e) (sym (judged (goal.at.returns c).After-is) ∙ c.if-not-is.false) c.if-x-total.false
