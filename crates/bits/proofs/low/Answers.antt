-- The mask is one less than 2 ^ n.
use mathlib.Core.Path.{◌≡◌, ◌∙◌}
use Prim.Native.Nat.{◌*◌, ◌%◌, ◌^◌}
use native.Mathlib.Omega.{arith}
use lib.Dec.{lit<}
use lib.Pow.{shl_exact}
use lib.Bits.{and_mask}
use native.Mathlib.Nat.{one-mul}
use Rattle.bits.proofs.low.Goals as goal

power : (c : goal.Start) → 1 * 2 ^ c.args.n % 2 ^ 64 ≡ 2 ^ c.args.n
power c = shl_exact 1 c.args.n 64 (lit< tt) (omega arith) ∙ one-mul _

pub returns : goal.returns
returns c = rw (power c) (and_mask c.args.v c.args.n)
