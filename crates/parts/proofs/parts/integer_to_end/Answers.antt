-- `integer_to_end` meets its contract: a run that ends before the text's end is judged by all that is left.
use Prim.Native.Nat.{◌<◌}
use mathlib.Core.Path.{◌∙◌}
use native.Mathlib.Omega.{arith}
use Rattle.parts.proofs.Ends.{integer_none, integer_behind, integer_end}
use Rattle.parts.proofs.parts.integer_to_end.Goals as goal

pub returns-then-run-eq0 : goal.returns-then-run-eq0
returns-then-run-eq0 c =
    let r = c.leading_digits-run in
    rw c.at.ensures (integer_none c.args.rest.text.now c.args.rest.at r.result.length r.result.value r.ensures.length_value r.ensures.value_value c.args.bits c.if-run-eq0.true)

pub returns-then-end-rest : goal.returns-then-end-rest
returns-then-end-rest c =
    let r = c.leading_digits-run in
    let some : 0 < r.result.length = omega (arith, c.if-run-eq0.false) in
    rw (c.at-then-end-rest.ensures, c.longer.ensures, c.behind.ensures.text, c.behind.ensures.at) (integer_behind c.args.rest.text.now c.args.rest.at r.result.length r.result.value r.ensures.length_value r.ensures.value_value c.args.bits c.requires some c.if-end-rest.true)

pub returns : goal.returns
returns c =
    let r = c.leading_digits-run in
    let some : 0 < r.result.length = omega (arith, c.if-run-eq0.false) in
    c.shorter.ensures ∙ integer_end c.args.rest.text.now c.args.rest.at r.result.length r.result.value r.ensures.length_value r.ensures.value_value c.args.bits some c.if-end-rest.false
