-- `tail_of` meets its contract. The loop's invariant: n bytes are passed, none of them a colon, and v is the number that they are.
use mathlib.Core.Path.{◌≡◌}
use Prim.Native.Nat.{◌≤◌}
use lib.Dec.{T}
use lib.ListN.{take}
use Rattle.numeral.specs.Numeral.{value}
use Rattle.rules.specs.Bytes.{colon}
use Rattle.rules.proofs.Runs.{without}
use Rattle.parts.proofs.names.tail_of.Given as goal

abbrev pub invariant-loop-n : goal.invariant-loop-n
invariant-loop-n l = record {
  short : l.n ≤ 8;
  value : l.value ≡ value 256 (take l.n l.text);
  clear : T (without colon (take l.n l.text));
}
