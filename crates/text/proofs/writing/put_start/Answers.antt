-- Three pieces: the literal is the start, control fields have at most 17 bytes, and a label ten.
use native.Mathlib.Omega.{arith}
use Rattle.rules.specs.Grammar.{start}
use Rattle.digits.proofs.Joins.{then}
use Rattle.text.proofs.Rooms.{label_short}
use Rattle.text.proofs.writing.put_start.Goals as goal

pub put-requires-2 : goal.put-requires-2
put-requires-2 c =
    rw c.label.ensures
    (omega (arith, label_short c.args.s, c.put.ensures.puts.end, c.put.ensures.size, c.put_control.ensures.upper_bound, c.put_control.ensures.adds.size, c.requires.1))

pub returns : goal.returns
unfolding start
returns c =
    let name = rw c.label.ensures at c.put-2.ensures in
    record {
      adds = then c.put.ensures (then c.put_control.ensures.adds name);
      upper_bound = omega (arith, name.puts.end, c.put_control.ensures.upper_bound, c.put.ensures.puts.end, label_short c.args.s);
    }
