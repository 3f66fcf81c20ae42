-- The two readers that call each other. Each one's measure is what is left of the text.
-- The loop's invariant: what is counted and kept behind the first i bytes is what is counted and kept of the whole text.
use Rattle.std.proofs.Common.{length, ◌+◌, ◌≡◌, drop, ℕ, List}
use Rattle.rules.specs.TextNumbers.{characters_in}
use Rattle.alphabet.specs.Readers.{counted, Kept}
use Rattle.alphabet.proofs.+escape_plain_run.Given as goal

abbrev pub decreases-escape : goal.decreases-escape
decreases-escape l = length l.text.now

abbrev pub decreases-plain_run : goal.decreases-plain_run
decreases-plain_run l = length l.text.now

abbrev pub invariant-plain_run-loop-i : goal.invariant-plain_run-loop-i
invariant-plain_run-loop-i l = record {
  counts : counted (l.n + l.i) (characters_in (drop l.i l.text)) ≡ counted l.n (characters_in l.text);
  keeps : (z : List ℕ) → Kept (characters_in (drop l.i l.text)) (l.n + l.i) l.kept z → Kept (characters_in l.text) l.n l.initial.kept z;
}
