-- Two runs of digits before dots, their total, and the last part.
use Prim.Native.Nat.{◌+◌}
use mathlib.Core.Path.{◌≡◌, sym, ap, ◌∙◌}
use mathlib.Core.List.{[], ◌∷◌}
use native.Mathlib.Omega.{arith}
use lib.ListN.{drop}
use lib.Seq.{drop-drop}
use borrow.Author.Tests.{le-ltb, lt-ltb}
use Rattle.rules.specs.Bytes.{behind, dot}
use Rattle.identities.specs.declared.Component.TheVariants.{Padded, PaddedOrEmpty}
use Rattle.identities.specs.Families.{short, long}
use Rattle.std.proofs.lemmas.List.{take_rest}
use Rattle.std.specs.Prelude.{Some}
use Rattle.std.proofs.lemmas.Result.{err_from_is_err_and}
use Rattle.identify.specs.Words.{split_by, by_last}
use Rattle.identify.proofs.Divided.{Cut, first_wrong, second_wrong}
use Rattle.identify.proofs.Verdicts.{the_fault, never_empty, uncut, missing, cut_there}
use Rattle.identify.proofs.Judgements.{wrong_form, wrong_total, last_decides, few_bits}
use Rattle.identify.proofs.counted.three.Goals as goal
use Rattle.identify.proofs.counted.three.Goals.{After-digits_before-2, Else-n-eq0, Else-not-is_there, In_ok-n, In_ok-m}

pub returns-in_err-n : goal.returns-in_err-n
returns-in_err-n c =
    let a = c.args in
    let p = err_from_is_err_and c.from_residual.result c.from_residual.ensures.1 in
    rw (p.1, p.2, the_fault c.in_err-n.ensures.ok_part c.in_err-n.ensures.value) (wrong_form a.f a.b a.c a.total a.x.now c.requires
    (first_wrong (Some a.total) Padded a.b a.x.now (a.c ∷ []) (uncut never_empty a.x.now (sym c.in_err-n.ensures.ok_part ∙ c.digits_before.ensures))))

-- the run before the first dot, from the place where its index is known
run : (c : In_ok-n) → Some c.in_ok-n.n ≡ split_by PaddedOrEmpty c.args.x.now
run c = sym c.in_ok-n.ensures.ok_part ∙ c.digits_before.ensures

pub returns-then-n-eq0 : goal.returns-then-n-eq0
returns-then-n-eq0 c =
    let k = (goal.at.returns-then-n-eq0 c).In_ok-n in
    let a = c.args in
    wrong_form a.f a.b a.c a.total a.x.now c.requires
    (first_wrong (Some a.total) Padded a.b a.x.now (a.c ∷ []) (missing never_empty a.x.now c.in_ok-n.n (run k) (le-ltb 0 c.in_ok-n.n (omega (arith, c.if-n-eq0.true)))))

-- the prefix
first : (c : Else-n-eq0) → let k = (goal.at.Else-n-eq0 c).In_ok-n in Cut Padded c.args.x.now c.in_ok-n.n
first c = let k = (goal.at.Else-n-eq0 c).In_ok-n in cut_there never_empty _ c.in_ok-n.n (run k) (lt-ltb 0 c.in_ok-n.n (omega (arith, c.if-n-eq0.false)))

pub overflow_add-second : goal.overflow_add-second
overflow_add-second c = omega (arith, (first c).sizes)

pub slice_bounds-digits_before-count : goal.slice_bounds-digits_before-count
slice_bounds-digits_before-count c = omega (arith, (first c).sizes)

pub slice_bounds-digits_before-start : goal.slice_bounds-digits_before-start
slice_bounds-digits_before-start c = omega (arith, (first c).sizes)

-- what stands behind its dot, read again
again : (c : After-digits_before-2) → let e = (goal.at.After-digits_before-2 c).Else-n-eq0 in c.digits_before-2.result ≡ split_by PaddedOrEmpty (behind dot c.args.x.now)
again c =
    let e = (goal.at.After-digits_before-2 c).Else-n-eq0 in
    let x = c.args.x.now in
    let n = c.in_ok-n.n in
    c.digits_before-2.ensures ∙ ap (split_by PaddedOrEmpty) (take_rest x (n + 1) ∙ (first e).rest)

pub returns-in_err-m : goal.returns-in_err-m
returns-in_err-m c =
    let r = (goal.at.returns-in_err-m c).After-digits_before-2 in
    let e = (goal.at.returns-in_err-m c).Else-n-eq0 in
    let a = c.args in
    let (_, d) = few_bits a.f a.b a.c a.total c.requires in
    let p = err_from_is_err_and c.from_residual-in_err-m.result c.from_residual-in_err-m.ensures.1 in
    rw (p.1, p.2, the_fault c.in_err-m.ensures.ok_part c.in_err-m.ensures.value) (wrong_form a.f a.b a.c a.total a.x.now c.requires
    (second_wrong (Some a.total) Padded a.b a.x.now _ (first e) a.c (uncut d (behind dot a.x.now) (sym c.in_err-m.ensures.ok_part ∙ again r))))

run_again : (c : In_ok-m) → Some c.in_ok-m.m ≡ split_by PaddedOrEmpty (behind dot c.args.x.now)
run_again c = sym c.in_ok-m.ensures.ok_part ∙ again (goal.at.In_ok-m c).After-digits_before-2

pub returns-then-not-is_there : goal.returns-then-not-is_there
returns-then-not-is_there c =
    let k = (goal.at.returns-then-not-is_there c).In_ok-m in
    let e = (goal.at.returns-then-not-is_there c).Else-n-eq0 in
    let a = c.args in
    let (_, d) = few_bits a.f a.b a.c a.total c.requires in
    wrong_form a.f a.b a.c a.total a.x.now c.requires
    (second_wrong (Some a.total) Padded a.b a.x.now _ (first e) a.c (missing d (behind dot a.x.now) _ (run_again k) (sym c.is_there.ensures ∙ c.if-not-is_there.true)))

-- the reference
second : (c : Else-not-is_there) → let k = (goal.at.Else-not-is_there c).In_ok-m in
    let a = c.args in
    Cut a.b (behind dot a.x.now) c.in_ok-m.m
second c =
    let k = (goal.at.Else-not-is_there c).In_ok-m in
    let a = c.args in
    let (_, d) = few_bits a.f a.b a.c a.total c.requires in
    cut_there d (behind dot a.x.now) _ (run_again k) (sym c.is_there.ensures ∙ c.if-not-is_there.false)

pub overflow_add-n : goal.overflow_add-n
overflow_add-n c = let e = (goal.at.overflow_add-n c).Else-n-eq0 in omega (arith, (first e).sizes, (second c).sizes)

pub returns-then-n-m : goal.returns-then-n-m
returns-then-n-m c =
    let r = (goal.at.returns-then-n-m c).Else-not-is_there in
    let e = (goal.at.returns-then-n-m c).Else-n-eq0 in
    let a = c.args in
    wrong_total a.f a.b a.c a.total a.x.now c.requires _ _ (first e) (second r) c.if-n-m.true

pub overflow_add-last : goal.overflow_add-last
overflow_add-last c = let r = (goal.at.overflow_add-last c).Else-not-is_there in let e = (goal.at.overflow_add-last c).Else-n-eq0 in omega (arith, (first e).sizes, (second r).sizes)

pub overflow_add-last-2 : goal.overflow_add-last-2
overflow_add-last-2 c = let r = (goal.at.overflow_add-last-2 c).Else-not-is_there in let e = (goal.at.overflow_add-last-2 c).Else-n-eq0 in omega (arith, (first e).sizes, (second r).sizes)

pub slice_bounds-by_last-count : goal.slice_bounds-by_last-count
slice_bounds-by_last-count c = let r = (goal.at.slice_bounds-by_last-count c).Else-not-is_there in let e = (goal.at.slice_bounds-by_last-count c).Else-n-eq0 in omega (arith, (first e).sizes, (second r).sizes)

pub slice_bounds-by_last-start : goal.slice_bounds-by_last-start
slice_bounds-by_last-start c = let r = (goal.at.slice_bounds-by_last-start c).Else-not-is_there in let e = (goal.at.slice_bounds-by_last-start c).Else-n-eq0 in omega (arith, (first e).sizes, (second r).sizes)

pub by_last-requires : goal.by_last-requires
by_last-requires c = let a = c.args in (few_bits a.f a.b a.c a.total c.requires).0

pub returns : goal.returns
returns c =
    let r = (goal.at.returns c).Else-not-is_there in
    let e = (goal.at.returns c).Else-n-eq0 in
    let a = c.args in
    let x = a.x.now in
    let n = c.in_ok-n.n in
    let m = c.in_ok-m.m in
    let q : n + 1 + m + 1 ≡ n + 1 + (m + 1) = omega arith in
    let z = take_rest x (n + 1 + m + 1) ∙ ap (λ k. drop k x) q ∙ sym (drop-drop (m + 1) (n + 1) x) ∙ ap (drop (m + 1)) (first e).rest ∙ (second r).rest in
    c.by_last.ensures ∙ ap (by_last n (short a.f) (long a.f) a.c) z ∙ last_decides a.f a.b a.c a.total x c.requires n m (first e) (second r) c.if-n-m.false
