-- The invariant: the text of the characters so far is written, each in three bytes at most.
use Rattle.std.proofs.Common.{◌+◌, ◌*◌, ◌≤◌, take}
use Rattle.digits.specs.Pieces.{Adds}
use Rattle.rules.specs.Characters.{string_text}
use Rattle.alphabet.proofs.write.Given as goal

abbrev pub invariant-loop-c : goal.invariant-loop-c
invariant-loop-c l = record {
  room : l.w.at ≤ l.initial.w.at + 3 * l.c-index;
  adds : Adds l.initial.w (string_text (take l.c-index l.characters)) l.w;
}
