-- The number goes in two pieces that are its whole.
use Prim.Native.Nat.{◌-◌}
use native.Mathlib.Omega.{arith}
use native.Mathlib.Nat.{mod-lt}
use lib.Dec.{lit<, lit≤}
use Rattle.numeral.proofs.Values.{length_numeral}
use Rattle.bank.proofs.PackedRows.{piece_lt, pieces_are}
use Rattle.bank.proofs.Rooms.{takes, left, same_bits, then}
use Rattle.bank.proofs.writing.put_wide.Goals as goal

pub push-requires : goal.push-requires
push-requires c =
    let w = c.requires.1 in
    takes c.requires.0 (c.args.width - 32) _ (omega (arith, w)) (omega (arith, w)) (piece_lt c.args.width 32 c.args.v w.least w.small)

pub push-requires-2 : goal.push-requires-2
push-requires-2 c =
    takes (left c.push.ensures {m = 32} c.requires.0 (rw length_numeral (omega (arith, c.requires.1)))) 32 _ (lit≤ tt) (lit≤ tt) (mod-lt c.args.v (lit< tt))

pub returns : goal.returns
returns c = same_bits (then c.push.ensures c.push-2.ensures) (pieces_are c.args.width 32 c.args.v c.requires.1.least)
