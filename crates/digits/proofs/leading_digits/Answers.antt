use native.Mathlib.Omega.{arith}
use mathlib.Core.Path.{sym, ◌∙◌}
use Prim.Native.Nat.{◌^◌, ◌<◌}
use lib.Seq.{get_or-take, length-take-le}
use Rattle.digits.proofs.Runs.{leading, run_most, run_within, run_stops, passed_none, passed_more, passed_lt, passed_all}
use Rattle.digits.proofs.leading_digits.Goals as goal

pub loop-n-init : goal.loop-n-init
loop-n-init c = passed_none 19 c.args.text.now

-- one more digit fits 64 bits
small : (c : goal.Else-not-is_digit) → c.loop-n.value < 10 ^ 18
small c =
    let l = length-take-le c.min-most.result c.args.text.now (omega arith) in
    passed_lt 19 c.args.text.now c.loop-n.n c.loop-n.value 18 c.loop-n.invariant (omega (arith, l))

pub overflow_mul-value : goal.overflow_mul-value
overflow_mul-value c = omega (arith, small c)

pub overflow_add-value : goal.overflow_add-value
overflow_add-value c =
    let text = c.args.text.now in
    let l = length-take-le c.min-most.result text (omega arith) in
    let h = passed_lt 19 text c.loop-n.n c.loop-n.value 18 c.loop-n.invariant (omega (arith, l)) in
    omega (arith, h)

pub loop-n-preserved : goal.loop-n-preserved
loop-n-preserved c =
    let text = c.args.text.now in
    let most = c.min-most.result in
    let l = length-take-le most text (omega arith) in
    let here = sym (get_or-take most text c.loop-n.n 0 (omega (arith, l))) in
    passed_more 19 text c.loop-n.n c.loop-n.value _ c.loop-n.invariant (omega (arith, l)) (omega (arith, l)) here (sym c.is_digit.ensures ∙ c.if-not-is_digit.false)

pub returns-then-not-is_digit : goal.returns-then-not-is_digit
returns-then-not-is_digit c =
    let text = c.args.text.now in
    let most = c.min-most.result in
    let r = leading 19 text in
    let l = length-take-le most text (omega arith) in
    let stops = run_stops r c.loop-n.n c.loop-n.invariant.within (rw (sym (get_or-take most text c.loop-n.n 0 (omega (arith, l)))) (sym c.is_digit.ensures ∙ c.if-not-is_digit.true)) in
    let (e, v) = passed_all 19 text c.loop-n.n c.loop-n.value c.loop-n.invariant (omega arith) in
    record { length_value = e; value_value = v; length_in_bounds = (omega (arith, l), omega (arith, l)) }

pub returns : goal.returns
returns c =
    let text = c.args.text.now in
    let most = c.min-most.result in
    let r = leading 19 text in
    let m = run_most r in
    let within = run_within r in
    let l = length-take-le most text (omega arith) in
    let (e, v) = passed_all 19 text c.loop-n.n c.loop-n.value c.loop-n.invariant (omega (arith, l)) in
    record { length_value = omega (arith, l); value_value = v; length_in_bounds = (omega arith, omega arith) }
