-- The filter's digit and a space stand before the identity text.
use mathlib.Core.Path.{◌≡◌, sym, ◌∙◌}
use mathlib.Core.Bool.{true}
use native.Mathlib.Omega.{arith}
use Rattle.replies.specs.Identities.{has_filter}
use Rattle.replies.proofs.Filters.{behind, Filtered, filtered}
use Rattle.replies.proofs.identity.filter_reply.Goals as goal
use Rattle.replies.proofs.identity.filter_reply.Goals.{Else-not-has_filter}

pub returns-then-not-has_filter : goal.returns-then-not-has_filter
returns-then-not-has_filter c =
    rw (sym c.has_filter.ensures ∙ c.if-not-has_filter.true) c.put_neither.ensures

-- the line has a filter
has : (c : Else-not-has_filter) → has_filter c.args.line.now ≡ true
has c = sym c.has_filter.ensures ∙ c.if-not-has_filter.false

stands : (c : Else-not-has_filter) → Filtered c.args.line.now
stands c = filtered c.args.line.now (has c)

pub returns : goal.returns
returns c =
    let e = (goal.at.returns c).Else-not-has_filter in
    rw (has e) (rw (behind c.args.line.now) at c.identity_reply.ensures)

pub bounds-line-0 : goal.bounds-line-0
bounds-line-0 c = omega (arith, (stands (goal.at.bounds-line-0 c).Else-not-has_filter).long)

pub overflow_sub-filter : goal.overflow_sub-filter
overflow_sub-filter c = omega (arith, (stands (goal.at.overflow_sub-filter c).Else-not-has_filter).least)

pub overflow_cast-filter : goal.overflow_cast-filter
overflow_cast-filter c = omega (arith, (stands (goal.at.overflow_cast-filter c).Else-not-has_filter).most)

pub slice_bounds-identity_reply-count : goal.slice_bounds-identity_reply-count
slice_bounds-identity_reply-count c = (stands (goal.at.slice_bounds-identity_reply-count c).Else-not-has_filter).long

pub slice_bounds-identity_reply-start : goal.slice_bounds-identity_reply-start
slice_bounds-identity_reply-start c = (stands (goal.at.slice_bounds-identity_reply-start c).Else-not-has_filter).long
