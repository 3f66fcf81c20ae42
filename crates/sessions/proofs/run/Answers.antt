-- The search finds this too; written out, it refuses the wrong edits of the room by their numbers, and not at a limit of the search.
use Rattle.std.proofs.Common.{arith}
use Rattle.sessions.proofs.run.Goals as goal

pub all_turns-stopped-requires : goal.all_turns-stopped-requires
all_turns-stopped-requires g c = (omega arith, omega arith)
