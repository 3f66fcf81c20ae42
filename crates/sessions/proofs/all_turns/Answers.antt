-- Where a turn does not end the session, it was one more of it.
use Rattle.sessions.proofs.Runs.{reads_on, stops}
use Rattle.sessions.proofs.all_turns.Goals as goal

pub returns-in-Err : goal.returns-in-Err
returns-in-Err g c =
    let v = c.loop-reads in
    stops c.args.program v.input v.out c.one_turn.new.input c.one_turn.new.out v.kept v.reads _ _ _ _ _ _ v.invariant c.in-Err.how c.in-Err.ensures

pub loop-reads-preserved : goal.loop-reads-preserved
loop-reads-preserved g c =
    let v = c.loop-reads in
    reads_on c.args.program v.input v.out c.one_turn.new.input c.one_turn.new.out v.kept v.reads _ _ _ _ _ _ v.invariant c.in-Ok.n c.in-Ok.ensures
