-- What was opened, and what its scheme says of the text behind the filter.
use mathlib.Core.Path.{◌≡◌, sym, ap, ◌∙◌}
use mathlib.Core.Bool.{Bool, cond}
use lib.ListN.{drop}
use Rattle.std.proofs.lemmas.List.{take_rest}
use Rattle.rules.specs.declared.Body.TheVariants.{Then}
use Rattle.rules.specs.declared.Scheme.{Scheme}
use Prim.Native.Nat.{ℕ}
use Rattle.rules.specs.declared.Last.TheVariants.{String}
use Rattle.rules.specs.Answers.{kept}
use Rattle.std.specs.Prelude.{Option, Some, None}
use Rattle.identities.specs.Numbers.{holds}
use Rattle.identify.specs.Words.{fits_in, behind_filter, spelled_in, spelled_by, way_in}
use Rattle.identify.proofs.DirectTags.{Opened, opened_is}
use Rattle.identify.proofs.direct.held.Goals as goal
use Rattle.identify.proofs.direct.held.Goals.{After-spelled, In_ok-s}

-- what was opened, from the place where it is known
opened : (c : In_ok-s) → Opened c.args.text.now c.in_ok-s.s c.in_ok-s.at
opened c = opened_is c.args.text.now _ _ (sym c.opened.ensures ∙ c.in_ok-s.was)

pub slice_bounds-spelled-count : goal.slice_bounds-spelled-count
slice_bounds-spelled-count c = (opened (goal.at.slice_bounds-spelled-count c).In_ok-s).within

pub slice_bounds-spelled-start : goal.slice_bounds-spelled-start
slice_bounds-spelled-start c = (opened (goal.at.slice_bounds-spelled-start c).In_ok-s).within

-- the way, by what stands there
by_text : (c : After-spelled) (b : Bool) → c.spelled.result ≡ b → way_in c.args.text.now ≡ cond b (Some (c.in_ok-s.s, c.in_ok-s.at)) None
by_text c b e =
    let x = c.args.text.now in
    let n = c.in_ok-s.at in
    let w : Option (Scheme × ℕ) = Some (c.in_ok-s.s, n) in
    ap (kept (spelled_by x)) (sym c.opened.ensures ∙ c.in_ok-s.was)
    ∙ ap (λ q. cond (holds (spelled_in (drop n x)) q) w None) (sym c.string_of.ensures ∙ c.in_ok-t.was)
    ∙ ap (λ b. cond b w None) (sym (ap (fits_in (behind_filter (Then c.in_ok-t.t (String c.in_ok-t.bits)))) (take_rest x n)) ∙ sym c.spelled.ensures ∙ e)

pub returns-then-spelled : goal.returns-then-spelled
returns-then-spelled c = sym (by_text (goal.at.returns-then-spelled c).After-spelled _ c.if-spelled.true)

pub returns : goal.returns
returns c = sym (by_text (goal.at.returns c).After-spelled _ c.if-spelled.false)
