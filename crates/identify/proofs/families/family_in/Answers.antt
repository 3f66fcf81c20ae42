-- Behind `urn:epc:id:` the family is found in the rest of the text.
use mathlib.Core.Path.{◌≡◌, sym, ap, ◌∙◌}
use mathlib.Core.Bool.{true}
use Rattle.std.specs.Prelude.{option_map}
use lib.ListN.{drop}
use Rattle.rules.specs.TextNumbers.{after}
use Rattle.digits.specs.Starts.{begun}
use Rattle.identities.specs.Families.{families}
use Rattle.identities.specs.Grammar.{start}
use Rattle.std.proofs.lemmas.List.{take_rest}
use Rattle.identify.proofs.Names.{family_named, from_start, no_start, start_within, behind_start}
use Rattle.identify.proofs.families.family_in.Goals as goal
use Rattle.identify.proofs.families.family_in.Goals.{After-name, Else-not-begins}

pub returns-then-not-begins : goal.returns-then-not-begins
unfolding start
returns-then-not-begins c = no_start c.args.text.now (sym c.begins.ensures ∙ c.if-not-begins.true)

begins : (c : Else-not-begins) → begun (after start c.args.text.now) ≡ true
unfolding start
begins c = sym c.begins.ensures ∙ c.if-not-begins.false

pub slice_bounds-name-count : goal.slice_bounds-name-count
slice_bounds-name-count c = start_within c.args.text.now (begins c)

pub slice_bounds-name-start : goal.slice_bounds-name-start
slice_bounds-name-start c = start_within c.args.text.now (begins c)

-- the family in the rest of the text
rest : (c : After-name) → c.name.result ≡ family_named families (drop 11 c.args.text.now)
rest c =
    let e = (goal.at.After-name c).Else-not-begins in
    let t = c.args.text.now in
    c.name.ensures ∙ ap (family_named families) (take_rest t 11)

pub returns-in_err-f : goal.returns-in_err-f
returns-in_err-f c =
    let called = (goal.at.returns-in_err-f c).After-name in
    let e = (goal.at.returns-in_err-f c).Else-not-begins in
    c.from_residual.ensures ∙ sym (behind_start c.args.text.now (begins e) ∙ ap (option_map from_start) (sym (rest called) ∙ c.in_err-f.was))

pub returns : goal.returns
returns c =
    let called = (goal.at.returns c).After-name in
    let e = (goal.at.returns c).Else-not-begins in
    rw c.label.ensures (sym (behind_start c.args.text.now (begins e) ∙ ap (option_map from_start) (sym (rest called) ∙ c.in_ok-f.was)))
