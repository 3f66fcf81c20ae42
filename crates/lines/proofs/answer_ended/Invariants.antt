-- The invariant: the lines before `rest` are answered.
use lib.ListN.{length}
use Rattle.lines.proofs.Passes.{Passed}
use Rattle.lines.proofs.answer_ended.Given as goal

abbrev pub invariant-loop-n : goal.invariant-loop-n
invariant-loop-n l = Passed l.program l.input l.rest l.initial.out l.out l.written

abbrev pub decreases-loop-n : goal.decreases-loop-n
decreases-loop-n l = length l.rest
