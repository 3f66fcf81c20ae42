-- The length and the start of the line decide.
use mathlib.Core.Path.{sym, ◌∙◌}
use lib.ListN.{length}
use borrow.Author.Rules.{rules}
use borrow.Author.Tests.{le-leb, lt-leb}
use Rattle.replies.specs.Replies.{most_characters}
use Rattle.replies.specs.Identities.{identity_reply}
use Rattle.replies.proofs.identity.write.Goals as goal

pub returns-then-line-gt-MOST_CHARACTERS : goal.returns-then-line-gt-MOST_CHARACTERS
unfolding identity_reply
returns-then-line-gt-MOST_CHARACTERS c =
    rw (lt-leb (length c.args.line.now) most_characters (search rules)) c.put_neither.ensures

pub returns-then-begins : goal.returns-then-begins
unfolding identity_reply
returns-then-begins c =
    rw (le-leb (length c.args.line.now) most_characters c.if-line-gt-MOST_CHARACTERS.false, sym c.begins.ensures ∙ c.if-begins.true) c.tag_reply.ensures

pub returns : goal.returns
unfolding identity_reply
returns c =
    rw (le-leb (length c.args.line.now) most_characters c.if-line-gt-MOST_CHARACTERS.false, sym c.begins.ensures ∙ c.if-begins.false) c.filter_reply.ensures
