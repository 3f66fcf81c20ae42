-- The start, the name, and the filter behind it.
use Prim.Native.Nat.{◌+◌, ◌≤◌}
use mathlib.Core.Path.{◌≡◌, sym, ap, ◌∙◌}
use mathlib.Core.Bool.{true, cond}
use native.Mathlib.Omega.{arith}
use lib.ListN.{length, drop}
use Rattle.std.proofs.lemmas.List.{take_rest}
use Rattle.rules.specs.Grammar.{start}
use Rattle.rules.specs.TextNumbers.{after}
use Rattle.digits.specs.Starts.{begun}
use Rattle.parts.specs.Names.{named_at}
use Rattle.std.specs.Prelude.{Some, None}
use Rattle.identify.specs.Words.{is_filter, opened_in}
use Rattle.identify.proofs.DirectTags.{other_start, start_within, no_name, name_within, with_name, filter_within}
use Rattle.identify.proofs.direct.opened.Goals as goal
use Rattle.identify.proofs.direct.opened.Goals.{After-is_filter, After-name, Else-not-begins, In_ok-named}

pub returns-then-not-begins : goal.returns-then-not-begins
unfolding start
returns-then-not-begins c = other_start c.args.text.now (sym c.begins.ensures ∙ c.if-not-begins.true)

begins : (c : Else-not-begins) → begun (after start c.args.text.now) ≡ true
unfolding start
begins c = sym c.begins.ensures ∙ c.if-not-begins.false

pub behind-requires : goal.behind-requires
behind-requires c = rw c.start.ensures.text (start_within c.args.text.now (begins (goal.at.behind-requires c).Else-not-begins))

-- the name, from the place where it is known
name : (c : After-name) → c.name.result ≡ named_at 12 (drop 12 c.args.text.now)
name c = rw (c.behind.ensures.text, c.behind.ensures.at, c.start.ensures.text) at c.name.ensures

within : (c : In_ok-named) → c.in_ok-named.named.next ≤ length c.args.text.now
within c = name_within c.args.text.now (begins (goal.at.In_ok-named c).Else-not-begins) _ (sym (name (goal.at.In_ok-named c).After-name) ∙ c.in_ok-named.was)

called : (c : In_ok-named) → let t = c.args.text.now in
    let n = c.in_ok-named.named in
    opened_in t ≡ cond (is_filter (drop n.next t)) (Some (n.scheme, n.next + 2)) None
called c = with_name c.args.text.now (begins (goal.at.In_ok-named c).Else-not-begins) _ (sym (name (goal.at.In_ok-named c).After-name) ∙ c.in_ok-named.was)

-- the filter, or not
filtered : (c : After-is_filter) → c.is_filter.result ≡ is_filter (drop c.in_ok-named.named.next c.args.text.now)
filtered c = c.is_filter.ensures ∙ ap is_filter (take_rest c.args.text.now c.in_ok-named.named.next)

pub slice_bounds-is_filter-count : goal.slice_bounds-is_filter-count
slice_bounds-is_filter-count c = within c

pub slice_bounds-is_filter-start : goal.slice_bounds-is_filter-start
slice_bounds-is_filter-start c = within c

pub returns-in_err-named : goal.returns-in_err-named
returns-in_err-named c =
    let e = (goal.at.returns-in_err-named c).Else-not-begins in
    c.from_residual.ensures ∙ no_name c.args.text.now (begins e) (sym (name (goal.at.returns-in_err-named c).After-name) ∙ c.in_err-named.was)

pub overflow_add-result : goal.overflow_add-result
overflow_add-result c =
    let s = (goal.at.overflow_add-result c).In_ok-named in
    omega (arith, filter_within c.args.text.now c.in_ok-named.named.next (within s) (sym (filtered (goal.at.overflow_add-result c).After-is_filter) ∙ c.if-is_filter.true))

pub returns-then-is_filter : goal.returns-then-is_filter
returns-then-is_filter c = sym (called (goal.at.returns-then-is_filter c).In_ok-named ∙ rw (sym (filtered (goal.at.returns-then-is_filter c).After-is_filter) ∙ c.if-is_filter.true))

pub returns : goal.returns
returns c = sym (called (goal.at.returns c).In_ok-named ∙ rw (sym (filtered (goal.at.returns c).After-is_filter) ∙ c.if-is_filter.false))
