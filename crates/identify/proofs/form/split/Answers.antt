-- There is a dot, and what stands before it is the component; or not.
use mathlib.Core.Path.{◌≡◌, sym, ap, ◌∙◌}
use mathlib.Core.Bool.{true}
use lib.ListN.{length, take}
use Rattle.rules.specs.Bytes.{among, upto, dot}
use Rattle.identities.specs.Numbers.{is}
use Rattle.identify.proofs.Divided.{no_dot, a_dot, the_run}
use Rattle.identify.proofs.form.split.Goals as goal
use Rattle.identify.proofs.form.split.Goals.{After-is, In_ok-n}

pub returns-in_err-n : goal.returns-in_err-n
returns-in_err-n c = rw (c.from_residual.ensures, no_dot c.args.x.now (sym c.dot_in.ensures ∙ c.in_err-n.was))

-- the dot, from the place where it is seen
dotted : (c : In_ok-n) → let x = c.args.x.now in (among dot x ≡ true) × (c.in_ok-n.n ≡ length (upto dot x))
dotted c = a_dot c.args.x.now _ (sym c.dot_in.ensures ∙ c.in_ok-n.was)

-- the bytes before it
run : (c : In_ok-n) → let x = c.args.x.now in take c.in_ok-n.n x ≡ upto dot x
run c = let x = c.args.x.now in ap (λ n. take n x) (dotted c).1 ∙ the_run x (dotted c).0

pub slice_bounds-is-end : goal.slice_bounds-is-end
slice_bounds-is-end c = (dotted c).1 ∙ sym (ap length (run c))

judged : (c : After-is) → let x = c.args in c.is.result ≡ is x.c (upto dot x.x.now)
judged c =
    let e = (goal.at.After-is c).In_ok-n in
    let a = c.args in
    c.is.ensures ∙ ap (is a.c) (run e)

pub returns-then-is : goal.returns-then-is
returns-then-is c =
    let e = (goal.at.returns-then-is c).In_ok-n in
    rw ((dotted e).0, sym (judged (goal.at.returns-then-is c).After-is) ∙ c.if-is.true, (dotted e).1)

pub returns : goal.returns
returns c =
    let e = (goal.at.returns c).In_ok-n in
    rw ((dotted e).0, sym (judged (goal.at.returns c).After-is) ∙ c.if-is.false)
