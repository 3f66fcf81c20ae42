-- The invariant: the first i bytes are written.
use Prim.Native.Nat.{◌-◌, ◌*◌, ◌≤◌}
use mathlib.Core.Path.{◌≡◌}
use lib.ListN.{length, take}
use Rattle.numeral.specs.Numeral.{splice}
use Rattle.replies.specs.Hex.{bytes_in}
use Rattle.replies.proofs.hex.read.Given as goal

abbrev pub invariant-loop-i : goal.invariant-loop-i
invariant-loop-i l = (l.i ≤ l.n) × (l.n ≤ length l.initial.bank) × (2 * l.n ≤ length l.line) × (length l.bank ≡ length l.initial.bank) × (l.bank ≡ splice l.initial.bank 0 (bytes_in (take (2 * l.i) l.line)))

abbrev pub decreases-loop-i : goal.decreases-loop-i
decreases-loop-i l = l.n - l.i
