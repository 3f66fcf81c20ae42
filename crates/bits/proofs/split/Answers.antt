use mathlib.Core.Path.{◌≡◌, sym, ◌∙◌}
use Prim.Native.Nat.{ℕ, ◌+◌, ◌-◌, ◌/◌, ◌%◌, ◌≤◌, ◌<◌}
use native.Mathlib.Omega.{arith}
use mathlib.Core.List.{List}
use lib.ListN.{length, set}
use Rattle.numeral.specs.Numeral.{numeral, splice}
use Rattle.numeral.proofs.Values.{numeral_nil, numeral_snoc, length_numeral}
use Rattle.numeral.proofs.Splices.{splice_nil, splice_behind}
use Rattle.bits.proofs.split.Goals as goal

-- the last digit first, and those before it afterwards
last_first : (b : ℕ) (l : List ℕ) (p i v : ℕ) → p ≤ i → i < length l → splice (set l i (v % b)) p (numeral b (i - p) (v / b)) ≡ splice l p (numeral b (i - p + 1) v)
last_first b l p i v h w = splice_behind l p (numeral b (i - p) (v / b)) (v % b) i (rw length_numeral (omega arith)) w ∙ rw (numeral_snoc b (i - p) v)

pub loop-i-preserved : goal.loop-i-preserved
loop-i-preserved c =
    let a = c.loop-i in
    let s = c.args in
    let one : a.i - 1 - s.from + 1 ≡ a.i - s.from = omega arith in
    (omega arith, last_first s.base a.out s.from (a.i - 1) a.rest (omega arith) (omega arith) ∙ rw one a.invariant.1)

pub returns : goal.returns
returns c =
    let a = c.loop-i in
    let none : a.i - c.args.from ≡ 0 = omega arith in
    sym (splice_nil a.out c.args.from) ∙ rw (none, numeral_nil) at a.invariant.1
