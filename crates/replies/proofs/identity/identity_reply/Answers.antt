-- The tag text stands behind the place of its letter.
use native.Mathlib.Omega.{arith}
use Rattle.replies.proofs.IdentityReplies.{tag_shown}
use Rattle.replies.proofs.identity.identity_reply.Goals as goal

pub shown-requires : goal.shown-requires
shown-requires c =
    let call = c.identity_to_tag-answer in
    (omega arith, omega (arith, (tag_shown c.args.out.now call.new.out c.args.text.now c.requires c.args.filter call.result call.ensures).0))

pub returns : goal.returns
returns c =
    let call = c.identity_to_tag-answer in
    (tag_shown c.args.out.now call.new.out c.args.text.now c.requires c.args.filter call.result call.ensures).1 c.shown.result c.shown.new.out c.shown.ensures
