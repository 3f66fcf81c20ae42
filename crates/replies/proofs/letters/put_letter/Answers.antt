-- Two bytes are stored, before what stands behind them.
use native.Mathlib.Omega.{arith}
use lib.ListN.{drop, length-take, length-drop}
use Rattle.replies.proofs.Pieces.{before_behind}
use Rattle.replies.proofs.letters.put_letter.Goals as goal

pub returns : goal.returns
returns c =
    let l = c.args.out.now in
    record { end = omega (arith, length-take c.args.n (drop 2 l), length-drop 2 l); bytes = before_behind l c.args.letter c.args.n c.requires }
