-- The identity stands behind the place of its letter.
use native.Mathlib.Omega.{arith}
use Rattle.replies.proofs.IdentityReplies.{identity_shown}
use Rattle.replies.proofs.identity.tag_reply.Goals as goal

pub shown-requires : goal.shown-requires
shown-requires c =
    let call = c.tag_to_identity-answer in
    (omega arith, omega (arith, (identity_shown c.args.out.now call.new.out c.args.line.now c.requires call.result call.ensures).0))

pub returns : goal.returns
returns c =
    let call = c.tag_to_identity-answer in
    (identity_shown c.args.out.now call.new.out c.args.line.now c.requires call.result call.ensures).1 c.shown.result c.shown.new.out c.shown.ensures
