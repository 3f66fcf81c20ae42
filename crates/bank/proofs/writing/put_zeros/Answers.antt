-- None (`none_left`); or those behind the bits that wait, up to seven bytes of them (`takes_some`), and the bytes that are left (`all_there`).
use Prim.Native.Nat.{◌+◌, ◌-◌, ◌≤◌}
use lib.ListN.{length}
use lib.Dec.{lit<, lit≤}
use Rattle.numeral.specs.Numeral.{numeral}
use Rattle.bits.specs.Streams.{Adds}
use Rattle.bank.proofs.PackedZeros.{none_left, width, before_end, inside, all_there}
use Rattle.bank.proofs.writing.put_zeros.Goals as goal
use Rattle.bank.proofs.writing.put_zeros.Goals.{After-push}

module _ (c : After-push) where
  some : Adds c.args.w.now (numeral 2 (width c.args.w.now c.args.n c.requires) 0) c.push.new.self
  some = rw c.min.ensures at c.push.ensures

  -- it stands before byte n, with room up to there
  stands : c.push.new.self.stream.at ≤ c.args.n
  stands = before_end c.args.w.now c.args.n c.requires some

  room : c.push.new.self.stream.at + (c.args.n - c.push.new.self.stream.at) ≤ length c.push.new.self.out.now
  room = inside c.args.w.now c.args.n c.requires some

pub overflow_sub-n-2 : goal.overflow_sub-n-2
overflow_sub-n-2 c = stands (goal.at.overflow_sub-n-2 c).After-push

pub split-requires : goal.split-requires
split-requires c = (room (goal.at.split-requires c).After-push, lit< tt, lit≤ tt)

pub returns : goal.returns
returns c =
    let zeros = some (goal.at.returns c).After-push in
    record { output = c.push.ensures.output; written = all_there c.args.w.now c.args.n c.requires zeros c.split.ensures }

pub returns-then-s-n : goal.returns-then-s-n
returns-then-s-n c = none_left c.args.w.now c.args.n c.requires c.if-s-n.true
