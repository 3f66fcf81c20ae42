use Rattle.std.proofs.Common.{◌≡◌, ◌∙◌, ap, arith, length, not}
use Rattle.alphabet.proofs.Classes.{outside_test}
use Rattle.alphabet.proofs.Counts.{counted_end, next_zero, next_character, wrong_group, after_zero}
use Rattle.alphabet.proofs.count.Goals as goal
use Rattle.alphabet.proofs.count.Goals.{then-n-i-via-then-n-i, then-n-i-via-else-n-i+then-eq, then-g-ne0+else-n-i+else-eq, else-g-ne0}

pub returns-then-n-i : goal.returns-then-n-i
returns-then-n-i c =
    let v = c.loop-i in
    elim c.then-n-i.branch [
      | then-n-i-via-then-n-i w ↦ after_zero _ v.i c.loop-i-test.true c.if-g-ne0.true v.n v.invariant w.if-n-i.true
      | then-n-i-via-else-n-i+then-eq w ↦ wrong_group _ v.i c.loop-i-test.true c.if-g-ne0.true (outside_test _ _ _ w.class.ensures w.eq.ensures ∙ ap not w.if-eq.true)
    ]

pub loop-i-preserved : goal.loop-i-preserved
loop-i-preserved c =
    let v = c.loop-i in
    elim c.if-g-ne0.branch [
      | then-g-ne0+else-n-i+else-eq w ↦ rw w.n-is (next_character _ v.i v.n c.loop-i-test.true v.invariant w.if-n-i.false (rw (outside_test _ _ _ w.class.ensures w.eq.ensures ∙ ap not w.if-eq.false) tt))
      | else-g-ne0 w ↦ rw w.n-is (next_zero _ v.i v.n c.loop-i-test.true v.invariant w.if-g-ne0.false)
    ]

pub returns : goal.returns
returns c =
    let v = c.loop-i in
    let e : v.i ≡ length c.args.groups.now = omega arith in
    counted_end c.args.groups.now v.n (rw e at v.invariant) c.if-n-eq0.false
