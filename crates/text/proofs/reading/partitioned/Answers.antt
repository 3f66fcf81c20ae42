-- `partitioned` meets its contract: the filter and the company prefix stand before their dots, and the rest is `behind_prefix`.
use Prim.Native.Nat.{◌≤◌}
use mathlib.Core.Path.{sym, ◌∙◌}
use lib.Dec.{leb, leb→le}
use lib.ListN.{length}
use Rattle.std.proofs.lemmas.Result.{err_from_is_err_and}
use Rattle.rules.proofs.Tests.{both}
use Rattle.scheme.proofs.Widths.{parts_narrow}
use Rattle.parts.specs.declared.parts.Form.TheVariants.{Prefix, Integer}
use Rattle.text.proofs.Found.{Standing, stands}
use Rattle.text.proofs.Whole.{no_prefix, with_prefix}
use Rattle.text.proofs.reading.partitioned.Goals as goal
use Rattle.text.proofs.reading.partitioned.Goals.{In_ok-filter, In_ok-prefix}

-- the filter and the company prefix, from the places where they are read
filter : (c : In_ok-filter) → Standing 4 (Integer 3) c.args.rest.text.now c.args.rest.at c.in_ok-filter.filter
filter c = let x = c.args in stands 4 (Integer 3) x.rest.text.now x.rest.at x.rest.inside c.in_ok-filter.filter (sym c.in_ok-filter.was ∙ c.part_at.ensures)

prefix : (c : In_ok-prefix) → Standing 5 Prefix c.args.rest.text.now c.in_ok-filter.filter.next c.in_ok-prefix.prefix
prefix c =
    let f = filter (goal.at.In_ok-prefix c).In_ok-filter in
    stands 5 Prefix c.args.rest.text.now c.in_ok-filter.filter.next f.within c.in_ok-prefix.prefix (sym c.in_ok-prefix.was ∙ (rw (c.behind.ensures.text, c.behind.ensures.at) at c.part_at-2.ensures))

pub behind-requires : goal.behind-requires
behind-requires c = (filter (goal.at.behind-requires c).In_ok-filter).within

pub returns-in_err-prefix : goal.returns-in_err-prefix
returns-in_err-prefix c =
    let x = c.args in
    let p = err_from_is_err_and c.from_residual-in_err-prefix.result c.from_residual-in_err-prefix.ensures.1 in
    rw (p.1, p.2) (no_prefix x.control x.s x.body c.requires x.rest.text.now x.rest.at _ (filter (goal.at.returns-in_err-prefix c).In_ok-filter) _ (sym c.in_err-prefix.was ∙ (rw (c.behind.ensures.text, c.behind.ensures.at) at c.part_at-2.ensures)))

-- six to twelve digits
picked : (c : In_ok-prefix) → (6 ≤ c.in_ok-prefix.prefix.digits) × (c.in_ok-prefix.prefix.digits ≤ 12)
picked c =
    let q = prefix c in
    let n = length q.part in
    let (l, u) = both (leb 6 n) (leb n 12) q.shape in
    rw q.digits_are (leb→le 6 n l, leb→le n 12 u)

pub behind-requires-2 : goal.behind-requires-2
behind-requires-2 c = (prefix c).within

pub behind_prefix-requires : goal.behind_prefix-requires
behind_prefix-requires c =
    let v = (goal.at.behind_prefix-requires c).In_ok-prefix in
    (rw c.requires at (parts_narrow c.args.s), (picked v).0, (picked v).1)

pub returns : goal.returns
returns c =
    let x = c.args in
    rw (c.behind-2.ensures.text, c.behind-2.ensures.at) at c.behind_prefix.ensures ∙ with_prefix x.control x.s x.body c.requires x.rest.text.now x.rest.at _ (filter (goal.at.returns c).In_ok-filter) _ (prefix (goal.at.returns c).In_ok-prefix)
