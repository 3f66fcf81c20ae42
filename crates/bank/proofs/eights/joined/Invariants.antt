-- The invariant: v is the number of the characters so far.
use mathlib.Core.Path.{◌≡◌}
use lib.ListN.{take}
use Rattle.numeral.specs.Numeral.{value}
use Rattle.bank.proofs.eights.joined.Given as goal

abbrev pub invariant-loop-c : goal.invariant-loop-c
invariant-loop-c l = l.v ≡ value 128 (take l.c-index l.characters)
