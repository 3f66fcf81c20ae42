-- The invariant: what is counted of the text that is left, with m counted already, is what is counted of the whole text with n.
use mathlib.Core.Path.{◌≡◌}
use Prim.Native.Nat.{◌+◌, ◌≤◌}
use lib.ListN.{length}
use Rattle.rules.specs.TextNumbers.{characters_in}
use Rattle.alphabet.specs.Readers.{counted}
use Rattle.alphabet.proofs.rest.Given as goal

abbrev pub invariant-loop-left : goal.invariant-loop-left
invariant-loop-left l = (l.m + length l.left ≤ l.n + length l.text) × (counted l.m (characters_in l.left) ≡ counted l.n (characters_in l.text))

abbrev pub decreases-loop-left : goal.decreases-loop-left
decreases-loop-left l = length l.left
