-- In each arm the parts are known, and so the limits of the record's fields; the start leaves room for all of them.
use lib.Dec.{lit≤}
use Rattle.bank.proofs.PackedBanks.{start_leaves}
use Rattle.bank.proofs.Rooms.{fewer, then}
use Rattle.bank.proofs.writing.put_parts.Goals as goal

pub put_body-requires : goal.put_body-requires
put_body-requires c =
    (start_leaves c.args.words c.args.outline.header c.args.tag.control c.requires.0 c.put_start.ensures, rw c.in-F.is at c.requires.3)

pub put_integers-requires : goal.put_integers-requires
put_integers-requires c =
    let leaves = start_leaves c.args.words c.args.outline.header c.args.tag.control c.requires.0 c.put_start-in-Integers.ensures in
    (fewer leaves _ (lit≤ tt), rw c.in-Integers.is at c.requires.3)

pub returns-in-F : goal.returns-in-F
returns-in-F c = rw c.in-F.is (then c.put_start.ensures c.put_body.ensures)

pub returns-in-Integers : goal.returns-in-Integers
returns-in-Integers c = rw c.in-Integers.is (then c.put_start-in-Integers.ensures c.put_integers.ensures)
