-- The digits stand behind the letter and its space.
use mathlib.Core.Path.{◌∙◌}
use native.Mathlib.Omega.{arith}
use lib.ListN.{length-set}
use Rattle.rules.specs.Bytes.{hex_text}
use Rattle.digits.proofs.Texts.{length_hex}
use Rattle.replies.proofs.Pieces.{lettered}
use Rattle.replies.proofs.letters.put_bank.Goals as goal

pub shape_of-out : goal.shape_of-out
shape_of-out c = simp length-set at c.put_hex.auto.out

pub returns : goal.returns
returns c =
    let put = c.put_hex in
    let b = c.args.bank.now in
    record { end = omega (arith, length_hex b); bytes = put.ensures ∙ lettered c.args.out.now 66 32 (hex_text b) (omega arith) }

pub bounds-out-1 : goal.bounds-out-1
bounds-out-1 c = simp length-set (omega arith)

pub put_hex-requires : goal.put_hex-requires
put_hex-requires c = simp length-set (omega arith)
