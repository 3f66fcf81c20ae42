-- An output that is too short gets nothing. A reply has at most 150 bytes, so the line feed has room behind it.
use mathlib.Core.Path.{◌∙◌, ap}
use native.Mathlib.Omega.{arith}
use lib.ListN.{length, set, length-append}
use borrow.Author.Tests.{le-leb, lt-leb}
use Rattle.numeral.proofs.Splices.{splice_snoc}
use Rattle.replies.specs.Programs.{reply_of}
use Rattle.replies.specs.Writing.{reply_room}
use Rattle.lines.specs.Lines.{feed}
use Rattle.replies.proofs.Programs.{reply_long}
use Rattle.replies.proofs.Pieces.{wrote_nothing}
use Rattle.lines.proofs.reply.Goals as goal

pub returns-then-out-lt-REPLY_ROOM : goal.returns-then-out-lt-REPLY_ROOM
returns-then-out-lt-REPLY_ROOM c = let l = c.args.out.now in rw (lt-leb reply_room (length l) c.if-out-lt-REPLY_ROOM.true) (wrote_nothing l)

pub bounds-out-n : goal.bounds-out-n
bounds-out-n c =
    let w = c.write-n in
    omega (arith, w.ensures.end, w.auto.out, reply_long c.args.program c.args.line.now, c.if-out-lt-REPLY_ROOM.false)

pub overflow_add-result : goal.overflow_add-result
overflow_add-result c =
    let w = c.write-n in
    omega (arith, w.ensures.end, reply_long c.args.program c.args.line.now)

pub returns : goal.returns
returns c =
    let w = c.write-n in
    let r = reply_of c.args.program c.args.line.now in
    let k = reply_long c.args.program c.args.line.now in
    rw (le-leb reply_room (length c.args.out.now) c.if-out-lt-REPLY_ROOM.false) (record {
      end = simp length-append (omega (arith, w.ensures.end));
      bytes = ap (λ l. set l w.result feed) w.ensures.bytes ∙ splice_snoc c.args.out.now 0 r feed w.result (omega (arith, w.ensures.end)) (omega (arith, w.ensures.end));
    })
