-- `read` meets its contract: the start, the control fields, then the name and the parts.
use Prim.Native.Nat.{◌≤◌}
use mathlib.Core.Path.{◌≡◌, sym, ap, ◌∙◌}
use Rattle.std.specs.Prelude.{Some, Err}
use lib.ListN.{length, drop}
use Rattle.rules.specs.Grammar.{start}
use Rattle.rules.specs.TextNumbers.{after, control_fields_in, named_tag, tag_of_text}
use Rattle.scheme.specs.Records.{reading_of}
use Rattle.parts.specs.Controls.{controlled_by}
use Rattle.digits.proofs.Starts.{begun_is, begun_not}
use Rattle.text.proofs.Starts.{twelve, no_start, wrong_fields, by_control_fields, behind_fields, with_fields}
use Rattle.text.proofs.reading.read.Goals as goal
use Rattle.text.proofs.reading.read.Goals.{Else-not-begins, After-control_at, In-Ok}

pub returns-then-not-begins : goal.returns-then-not-begins
returns-then-not-begins c =
    let t = c.args.text.now in
    ap Err c.at.ensures ∙ no_start t (begun_not start t (sym c.begins.ensures ∙ c.if-not-begins.true))

-- the start, from the place where it is seen
begins : (c : Else-not-begins) → let t = c.args.text.now in (12 ≤ length t) × (after start t ≡ Some (drop 12 t))
begins c = begun_is start c.args.text.now 12 twelve (sym c.begins.ensures ∙ c.if-not-begins.false)

-- the control fields, from the place where they are read
fields : (c : After-control_at) → c.control_at.result ≡ controlled_by (control_fields_in 12 (drop 12 c.args.text.now))
fields c = rw (c.behind-rest.ensures.text, c.behind-rest.ensures.at, c.start.ensures.text) at c.control_at.ensures

pub behind-rest-requires : goal.behind-rest-requires
behind-rest-requires c = rw c.start.ensures.text (begins (goal.at.behind-rest-requires c).Else-not-begins).0

pub returns-in-Err : goal.returns-in-Err
returns-in-Err c =
    let e = sym c.in-Err.is ∙ fields (goal.at.returns-in-Err c).After-control_at in
    let begun = (begins (goal.at.returns-in-Err c).Else-not-begins).1 in
    ap Err (c.at-in-Err.ensures ∙ sym (by_control_fields c.args.text.now begun c.in-Err.wrong e)) ∙ wrong_fields c.args.text.now begun c.in-Err.wrong e

-- what stands behind them
found : (c : In-Ok) → let f = c.in-Ok.fields in let t = c.args.text.now in
    (f.next ≤ length t) × (reading_of (named_tag (behind_fields t f)) ≡ reading_of (tag_of_text t))
found c = with_fields c.args.text.now (begins (goal.at.In-Ok c).Else-not-begins).1 _ (sym c.in-Ok.is ∙ fields (goal.at.In-Ok c).After-control_at)

pub behind-requires : goal.behind-requires
behind-requires c = rw (c.behind-rest.ensures.text, c.start.ensures.text) (found (goal.at.behind-requires c).In-Ok).0

pub returns-in-Ok : goal.returns-in-Ok
returns-in-Ok c =
    rw (c.behind.ensures.text, c.behind.ensures.at, c.behind-rest.ensures.text, c.start.ensures.text) at c.named_at.ensures
    ∙ (found (goal.at.returns-in-Ok c).In-Ok).1
