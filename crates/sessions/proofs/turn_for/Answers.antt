-- The call is on the buffer's first bytes, which are all that were kept and read.
use Rattle.std.proofs.Common.{arith}
use Rattle.lines.proofs.Turns.{on_buffer}
use Rattle.sessions.proofs.turn_for.Goals as goal

pub returns : goal.returns
returns c =
    on_buffer c.args.program c.args.kept c.args.n c.args.input.now c.args.out.now c.turn.result c.turn.new.input c.turn.new.out (omega arith) (omega arith) (omega arith)
    c.turn.ensures
