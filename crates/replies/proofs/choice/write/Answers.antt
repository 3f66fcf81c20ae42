-- The start of the line decides.
use mathlib.Core.Path.{sym, ◌∙◌}
use Rattle.replies.specs.Replies.{tagline_reply}
use Rattle.replies.proofs.choice.write.Goals as goal

pub returns-then-begins : goal.returns-then-begins
unfolding tagline_reply
returns-then-begins c =
    rw (sym c.begins.ensures ∙ c.if-begins.true) c.text_reply.ensures

pub returns : goal.returns
unfolding tagline_reply
returns c =
    rw (sym c.begins.ensures ∙ c.if-begins.false) c.hex_reply.ensures
