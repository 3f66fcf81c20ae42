-- Each program's reply is its own function's.
use Rattle.replies.proofs.write.Goals as goal

pub returns-in-Tagline : goal.returns-in-Tagline
returns-in-Tagline c = rw c.in-Tagline.is c.write.ensures

pub returns-in-Identity : goal.returns-in-Identity
returns-in-Identity c = rw c.in-Identity.is c.write-in-Identity.ensures
