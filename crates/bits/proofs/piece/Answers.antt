-- No bits are the number 0; n bits of one byte are as `piece_is` says.
use mathlib.Core.Path.{sym, ◌∙◌}
use native.Mathlib.Omega.{arith}
use Rattle.bits.proofs.Pieces.{field_none, piece_is}
use Rattle.bits.proofs.piece.Goals as goal

pub returns-then-n-eq0 : goal.returns-then-n-eq0
returns-then-n-eq0 c = rw c.if-n-eq0.true (sym (field_none c.args.bank.now c.args.at))

pub returns : goal.returns
returns c =
    let s = c.before.before.before.before in
    c.low.ensures ∙ sym (piece_is s.args.bank.now s.args.at s.args.n s.requires.0 (omega arith))
