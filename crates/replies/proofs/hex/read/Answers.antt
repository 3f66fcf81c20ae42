use Prim.Native.Nat.{ℕ, ◌<◌, ◌+◌, ◌*◌}
use mathlib.Core.Path.{sym, ap, ◌∙◌}
use native.Mathlib.Omega.{arith}
use lib.ListN.{length, get_or, length-set}
use lib.Dec.{T}
use borrow.Author.Rules.{rules}
use Rattle.numeral.specs.Numeral.{splice}
use Rattle.numeral.proofs.Splices.{splice_nil}
use Rattle.rules.proofs.Tests.{all_at}
use Rattle.replies.specs.Hex.{is_hex}
use Rattle.replies.proofs.Hexes.{value_lt, read_more, read_whole}
use Rattle.replies.proofs.hex.read.Goals as goal
use Rattle.replies.proofs.hex.read.Goals.{At-loop-i}

pub loop-i-init : goal.loop-i-init
loop-i-init c = (search rules, search rules, search rules, search rules, sym (splice_nil c.args.bank.now 0))

digit : (a : At-loop-i) (i : ℕ) → i < length a.args.line.now → T (is_hex (get_or a.args.line.now i 0))
digit a i h = all_at is_hex a.args.line.now i a.requires.0 h

pub value-requires : goal.value-requires
value-requires c = let a = (goal.at.value-requires c).At-loop-i in digit a (2 * c.loop-i.i) (omega arith)

pub overflow_mul-bank : goal.overflow_mul-bank
overflow_mul-bank c =
    let a = (goal.at.overflow_mul-bank c).At-loop-i in
    omega (arith, c.value.ensures, value_lt _ (digit a (2 * c.loop-i.i) (omega arith)))

pub value-requires-in-loop-i : goal.value-requires-in-loop-i
value-requires-in-loop-i c = let a = (goal.at.value-requires-in-loop-i c).At-loop-i in digit a (2 * c.loop-i.i + 1) (omega arith)

pub overflow_add-bank : goal.overflow_add-bank
overflow_add-bank c =
    let a = (goal.at.overflow_add-bank c).At-loop-i in
    omega (arith, c.value.ensures, c.value-in-loop-i.ensures, value_lt _ (digit a (2 * c.loop-i.i) (omega arith)), value_lt _ (digit a (2 * c.loop-i.i + 1) (omega arith)))

pub loop-i-preserved : goal.loop-i-preserved
loop-i-preserved c = (
  search rules,
  search rules,
  search rules,
  simp length-set (omega arith),
  rw (c.value.ensures, c.value-in-loop-i.ensures, c.loop-i.invariant.4) (read_more c.args.bank.now c.args.line.now c.loop-i.i (omega arith) (omega arith)),
)

pub returns : goal.returns
returns c =
    let v = c.loop-i in
    v.invariant.4 ∙ ap (splice c.args.bank.now 0) (read_whole c.args.line.now v.i (omega arith))
