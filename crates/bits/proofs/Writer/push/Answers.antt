-- The bits that wait and the new ones are one number (`join`), whose whole bytes are stored and whose last bits wait (`pushed`).
use mathlib.Core.Path.{refl}
use Prim.Native.Nat.{◌+◌}
use native.Mathlib.Omega.{arith}
use Rattle.bits.proofs.Pushes.{join, join_lt, pushed}
use Rattle.bits.proofs.Writer.push.Goals as goal

pub joined-all-requires : goal.joined-all-requires
joined-all-requires c =
    let s = c.args.self.now.stream in
    let t = c.requires in
    (omega arith, join_lt s.count c.args.width s.bits c.args.v t.small (omega arith) t.sound.clear)

pub returns : goal.returns
returns c =
    let s = c.args.self.now.stream in
    record {
      output = refl;
      written =
          rw (c.low.ensures, c.split.ensures, join s.count c.args.width s.bits c.args.v c.requires.small, ← c.joined-all.ensures)
          (pushed c.args.self.now.out.now s.at c.joined-all.result (s.count + c.args.width) c.requires.room);
    }
