-- Each of the 18 entries of the table is the power of its place, which the checker computes.
use Prim.Native.Nat.{◌^◌}
use native.Mathlib.Omega.{arith}
use lib.Dec.{eqb, eqb→eq}
use lib.ListN.{get_or}
use Rattle.rules.proofs.Tests.{below_is}
use Rattle.tens.specs.declared.TheConstants.{POWERS}
use Rattle.tens.proofs.power.Goals as goal

pub returns : goal.returns
returns c = let d = c.args.digits in eqb→eq _ _ (below_is (λ k. eqb (get_or POWERS k 0) (10 ^ k)) 18 tt d (omega arith))
