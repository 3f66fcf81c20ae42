-- The room, and either way to the identity.
use mathlib.Core.Path.{sym, ◌∙◌}
use Rattle.rules.specs.Answers.{taken, ◌>>=◌}
use Rattle.rules.specs.TextNumbers.{tag_of_text}
use Rattle.rules.specs.Calls.{text_room}
use Rattle.codec.proofs.Ends.{short}
use Rattle.identities.specs.Grammar.{identity_text}
use Rattle.identities.specs.OfTags.{identity_of}
use Rattle.identities.specs.Calls.{tag_to_identity}
use Rattle.identify.proofs.DirectTags.{Straight, straight, parts_short, identity_put}
use Rattle.identify.proofs.tag_to_identity.Goals as goal
use Rattle.identify.proofs.tag_to_identity.Goals.{In-Some}

pub returns-then-out-lt-TEXT_ROOM : goal.returns-then-out-lt-TEXT_ROOM
unfolding tag_to_identity
returns-then-out-lt-TEXT_ROOM c =
    let a = c.args in
    rw c.at.ensures (short text_room a.out.now (tag_of_text a.text.now >>= λ τ. taken (0, identity_text (identity_of τ))) c.if-out-lt-TEXT_ROOM.true)

-- the tag, from the place where its scheme is known
found : (c : In-Some) → Straight c.args.text.now c.in-Some.s c.in-Some.at
found c =
    straight c.args.text.now _ _ (sym c.direct.ensures ∙ c.in-Some.is)

pub put_identity-length-requires : goal.put_identity-length-requires
put_identity-length-requires c = (parts_short (found (goal.at.put_identity-length-requires c).In-Some), c.if-out-lt-TEXT_ROOM.false)

pub slice_bounds-put_identity-count : goal.slice_bounds-put_identity-count
slice_bounds-put_identity-count c = (found (goal.at.slice_bounds-put_identity-count c).In-Some).within

pub slice_bounds-put_identity-start : goal.slice_bounds-put_identity-start
slice_bounds-put_identity-start c = (found (goal.at.slice_bounds-put_identity-start c).In-Some).within

pub returns : goal.returns
returns c =
    let k = (goal.at.returns c).In-Some in
    let a = c.args in
    identity_put a.text.now a.out.now c.if-out-lt-TEXT_ROOM.false _ _ (found k) _ _ c.put_identity-length.ensures
