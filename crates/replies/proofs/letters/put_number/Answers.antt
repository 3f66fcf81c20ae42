-- The digits, three at most, stand behind the letter and its space.
use mathlib.Core.Path.{◌∙◌}
use native.Mathlib.Omega.{arith}
use lib.ListN.{length-set}
use borrow.Author.Rules.{rules}
use Rattle.replies.specs.Replies.{decimal}
use Rattle.replies.proofs.Pieces.{lettered, decimal_long, few_digits}
use Rattle.replies.proofs.letters.put_number.Goals as goal

pub put_decimal-requires : goal.put_decimal-requires
put_decimal-requires c = simp length-set (omega (arith, few_digits c.args.number (search rules)))

pub shape_of-out : goal.shape_of-out
shape_of-out c = simp length-set at c.put_decimal.auto.out

pub returns : goal.returns
returns c =
    let put = c.put_decimal in
    let n = c.args.number in
    record {
      end = omega (arith, decimal_long n, put.ensures.value);
      bytes = put.ensures.out_after ∙ lettered c.args.out.now c.args.letter 32 (decimal n) (omega arith);
    }

pub bounds-out-1 : goal.bounds-out-1
bounds-out-1 c = simp length-set (omega arith)
