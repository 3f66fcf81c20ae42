use Rattle.std.proofs.Common.{◌≡◌, sym, arith, length, get_or}
use Rattle.std.proofs.Math.Seq.{take-length}
use Rattle.digits.proofs.Joins.{nothing, then, same_bytes}
use Rattle.alphabet.proofs.Writes.{spelled_length, text_more}
use Rattle.alphabet.proofs.write.Goals as goal

pub loop-c-init : goal.loop-c-init
loop-c-init c = record { room = omega arith; adds = nothing c.args.w.now }

pub put-requires : goal.put-requires
put-requires c = let i = c.loop-c.invariant in omega (arith, i.room, i.adds.size, c.loop-c-test.true, c.requires)

pub loop-c-preserved : goal.loop-c-preserved
loop-c-preserved c =
    let v = c.loop-c in
    let x = c.args.characters.now in record {
      room = omega (arith, c.put.ensures.puts.end, spelled_length (get_or x v.c-index 0), v.invariant.room);
      adds = same_bytes (then v.invariant.adds c.put.ensures) (sym (text_more x v.c-index c.loop-c-test.true));
    }

pub returns : goal.returns
returns c =
    let v = c.loop-c in
    let x = c.args.characters.now in
    let e : v.c-index ≡ length x = omega arith in
    rw (← take-length x, ← e) v.invariant.adds
