-- Each integer goes on where the one before it ends.
use native.Mathlib.Omega.{arith}
use Rattle.numeral.proofs.Values.{length_numeral}
use Rattle.bank.proofs.Rooms.{takes, left, then}
use Rattle.bank.proofs.writing.put_integers.Goals as goal

pub push-requires-2 : goal.push-requires-2
push-requires-2 c =
    let (a, b, _) = c.requires.1 in
    takes (left c.push.ensures {m = 114} c.requires.0 (rw length_numeral (omega (arith, a.narrow)))) _ _ b.narrow (omega (arith, b.narrow)) b.small

pub push-requires-3 : goal.push-requires-3
push-requires-3 c =
    let (a, b, d) = c.requires.1 in
    let room = left c.push.ensures {m = 114} c.requires.0 (rw length_numeral (omega (arith, a.narrow))) in
    takes (left c.push-2.ensures {m = 57} room (rw length_numeral (omega (arith, b.narrow)))) _ _ d.narrow d.narrow d.small

pub returns : goal.returns
returns c = then c.push.ensures (then c.push-2.ensures c.push-3.ensures)
