-- The invariant: the first i groups are n characters and then zeros.
use Rattle.alphabet.proofs.Counts.{Counted}
use Rattle.alphabet.proofs.count.Given as goal

abbrev pub invariant-loop-i : goal.invariant-loop-i
invariant-loop-i l = Counted l.groups l.i l.n
