-- The room, the family, and what follows its name.
use Prim.Native.Nat.{◌≤◌}
use mathlib.Core.Path.{◌≡◌, sym, ap, ◌∙◌}
use lib.ListN.{length, drop}
use Rattle.rules.specs.Answers.{taken, ◌>>=◌}
use Rattle.rules.specs.Grammar.{text_of}
use Rattle.rules.specs.Calls.{text_room}
use Rattle.codec.proofs.Ends.{short}
use Rattle.std.proofs.lemmas.List.{take_rest}
use Rattle.identities.specs.Numbers.{identified, identity_in, tag_of_identity}
use Rattle.identities.specs.Calls.{identity_to_tag}
use Rattle.identify.specs.Words.{of_family}
use Rattle.identify.proofs.Answered.{no_family, family_found, to_tag, not_named}
use Rattle.identify.proofs.identity_to_tag.Goals as goal
use Rattle.identify.proofs.identity_to_tag.Goals.{In-Some}

pub returns-then-out-lt-TEXT_ROOM : goal.returns-then-out-lt-TEXT_ROOM
unfolding identity_to_tag
returns-then-out-lt-TEXT_ROOM c =
    let a = c.args in
    rw c.at.ensures (short text_room a.out.now (tag_of_identity a.filter a.text.now >>= λ τ. taken (0, text_of τ)) c.if-out-lt-TEXT_ROOM.true)

-- the family, from the place where it is known
found : (c : In-Some) → let t = c.args.text.now in
    let n = c.in-Some.at in
    (n ≤ length t) × (identity_in t ≡ identified (record { family = c.in-Some.family; rest = drop n t }))
found c =
    family_found c.args.text.now _ _ (sym c.family_in.ensures ∙ c.in-Some.is)

pub slice_bounds-of_family-count : goal.slice_bounds-of_family-count
slice_bounds-of_family-count c = (found c).0

pub slice_bounds-of_family-start : goal.slice_bounds-of_family-start
slice_bounds-of_family-start c = (found c).0

pub returns-in_default : goal.returns-in_default
returns-in_default c =
    let a = c.args in
    rw c.at-in_default.ensures (not_named a.filter a.text.now a.out.now c.if-out-lt-TEXT_ROOM.false (no_family a.text.now (sym c.family_in.ensures ∙ c.in_default.is)))

pub returns : goal.returns
returns c =
    let a = c.args in
    let g = c.in-Some.family in
    let n = c.in-Some.at in
    let (l, e) = found (goal.at.returns c).In-Some in
    c.of_family.ensures ∙ ap (λ x. of_family g a.filter x a.out.now) (take_rest a.text.now n) ∙ to_tag a.filter a.text.now a.out.now g (drop n a.text.now) c.if-out-lt-TEXT_ROOM.false e
