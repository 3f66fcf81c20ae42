-- The sixteen digits are computed.
use Rattle.replies.proofs.Hexes.{value_is}
use Rattle.replies.proofs.hex.value.Goals as goal

pub returns : goal.returns
returns c = value_is c.args.c c.requires
