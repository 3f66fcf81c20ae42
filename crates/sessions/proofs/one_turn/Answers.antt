-- Whatever the read put into the buffer, the kept bytes before it stay.
use Rattle.std.proofs.Common.{◌≡◌, length, sym, ap, ◌∙◌, arith}
use Rattle.std.specs.Prelude.{is_ok}
use Rattle.std.proofs.Math.Seq.{length-take-le}
use borrow.Rule.Slice.PartMut.{mid_len}
use Rattle.std.specs.IoError.{error_kind}
use Rattle.std.specs.declared.io.ErrorKind.{ErrorKind}
use Rattle.std.specs.declared.io.ErrorKind.TheVariants.{BrokenPipe}
use Rattle.replies.proofs.Pieces.{wrote_within}
use Rattle.sessions.proofs.Runs.{all_sent, not_sent}
use Rattle.sessions.proofs.one_turn.Goals as goal

pub slice_bounds-write_all-end : goal.slice_bounds-write_all-end
slice_bounds-write_all-end g c = omega (arith, wrote_within _ _ _ _ c.turn_for-turned.ensures.printed c.turn_for-turned.auto.out)

pub slice_bounds-write_all-end-2 : goal.slice_bounds-write_all-end-2
slice_bounds-write_all-end-2 g c = sym (length-take-le _ _ (slice_bounds-write_all-end g c))

pub returns-in-Err : goal.returns-in-Err
returns-in-Err g c =
    not_sent c.args.program c.args.input.now c.read.new.buf c.args.out.now c.args.kept c.in_ok-n.n c.read.result c.write_all.result
    c.turn_for-turned.result c.turn_for-turned.new.input c.turn_for-turned.new.out _ _ _ _ (omega arith)
    (c.read.auto.buf ∙ mid_len c.args.kept (length c.args.input.now) c.args.input.now (omega arith)) c.in_ok-n.ensures c.read.ensures.bytes
    c.turn_for-turned.ensures c.write_all.ensures.bytes (◌≡◌ {A = ErrorKind} (error_kind c.in-Err.e) BrokenPipe) c.unwritten.result c.is_none.result c.is_none.ensures
    c.unwritten.ensures.closed c.unwritten.ensures.other

pub returns : goal.returns
returns g c =
    rw c.ok_or.ensures.value
    (all_sent c.args.program c.args.input.now c.read.new.buf c.args.out.now c.args.kept c.in_ok-n.n c.read.result c.write_all.result
    c.turn_for-turned.result c.turn_for-turned.new.input c.turn_for-turned.new.out _ _ _ _ (omega arith)
    (c.read.auto.buf ∙ mid_len c.args.kept (length c.args.input.now) c.args.input.now (omega arith)) c.in_ok-n.ensures c.read.ensures.bytes
    c.turn_for-turned.ensures c.write_all.ensures.bytes (ap is_ok c.in_default.is))
