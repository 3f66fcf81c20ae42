-- The invariant: v is the number in the bits up to the end of the first byte and in the whole bytes that are done.
use mathlib.Core.Path.{◌≡◌}
use Prim.Native.Nat.{◌+◌, ◌*◌}
use Rattle.bits.specs.Bits.{field_at}
use Rattle.bits.proofs.field.Given as goal

abbrev pub invariant-loop-b : goal.invariant-loop-b
invariant-loop-b l = l.v ≡ field_at l.bank l.at (l.first + 8 * l.b-index)
