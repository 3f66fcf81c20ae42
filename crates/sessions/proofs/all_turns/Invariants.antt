-- The invariant: the reads so far were turns of a session that has not ended.
use Rattle.sessions.proofs.Runs.{Going}
use Rattle.sessions.proofs.all_turns.Given as goal

abbrev pub invariant-loop-reads : goal.invariant-loop-reads
invariant-loop-reads g l =
    Going l.program l.input l.out l.kept l.reads (g.R.Read.remaining l.fn.from) (g.R.Read.remaining l.from) (g.W.Write.contents l.fn.to) (g.W.Write.contents l.to)
