use Prim.Native.Nat.{◌^◌, ◌<◌}
use mathlib.Core.Path.{sym}
use native.Mathlib.Omega.{arith}
use lib.ListN.{get_or}
use Rattle.numeral.proofs.Values.{value_nil, digits_of_lem}
use Rattle.parts.proofs.Runs.{value_more}
use Rattle.parts.proofs.Tails.{seven_fit, found, at_the_end, more, too_long}
use Rattle.parts.proofs.names.tail_of.Goals as goal
use Rattle.parts.proofs.names.tail_of.Goals.{Else-n-eq-MOST_BYTES}

pub loop-n-init : goal.loop-n-init
loop-n-init c = record { short = omega arith; value = sym (value_nil 256); clear = tt }

pub returns-then-b-eq58 : goal.returns-then-b-eq58
returns-then-b-eq58 c =
    let l = c.loop-n in
    let t = c.args.text.now in
    record { tail = found t l.n l.invariant.clear l.value l.invariant.short c.loop-n-test.true c.if-b-eq58.true l.invariant.value; bytes = digits_of_lem 256 t (λ i h. (c.type_inv.text i).fits) }

pub returns-then-n-eq-MOST_BYTES : goal.returns-then-n-eq-MOST_BYTES
returns-then-n-eq-MOST_BYTES c =
    let l = c.loop-n in
    let t = c.args.text.now in
    record { tail = too_long t l.n l.invariant.clear c.if-n-eq-MOST_BYTES.true c.loop-n-test.true c.if-b-eq58.false; bytes = digits_of_lem 256 t (λ i h. (c.type_inv.text i).fits) }

-- the value so far is below 256 ^ 7, since fewer than eight bytes are passed
small : (c : Else-n-eq-MOST_BYTES) → (c.loop-n.value < 256 ^ 7) × (get_or c.args.text.now c.loop-n.n 0 < 256)
small c =
    let l = c.loop-n in
    let t = c.args.text.now in
    (rw l.invariant.value (seven_fit l.n t (digits_of_lem 256 t (λ i h. (c.type_inv.text i).fits)) (omega (arith, l.invariant.short, c.if-n-eq-MOST_BYTES.false))), (c.type_inv.text _).fits)

pub overflow_mul-value : goal.overflow_mul-value
overflow_mul-value c = omega (arith, (small c).0)

pub overflow_add-value : goal.overflow_add-value
overflow_add-value c = omega (arith, (small c).0, (small c).1)

pub loop-n-preserved : goal.loop-n-preserved
loop-n-preserved c =
    let l = c.loop-n in
    let t = c.args.text.now in
    record {
      short = omega (arith, l.invariant.short, c.if-n-eq-MOST_BYTES.false);
      value = rw l.invariant.value (sym (value_more 256 l.n t c.loop-n-test.true));
      clear = more t l.n l.invariant.clear c.loop-n-test.true c.if-b-eq58.false;
    }

pub returns : goal.returns
returns c =
    let l = c.loop-n in
    let t = c.args.text.now in
    record { tail = at_the_end t l.n l.invariant.clear c.loop-n-test.false; bytes = digits_of_lem 256 t (λ i h. (c.type_inv.text i).fits) }
