-- Sixteen bits and eight more are the control word and the header.
use mathlib.Core.List.{◌++◌, append_assoc}
use lib.Dec.{lit≤}
use borrow.Author.Rules.{rules}
use Rattle.numeral.proofs.Values.{length_numeral}
use Rattle.rules.specs.Coding.{binary, control_bits}
use Rattle.bits.specs.Streams.{Adds}
use Rattle.bank.proofs.PackedBanks.{control_is}
use Rattle.bank.proofs.Rooms.{takes, left, same_bits, then}
use Rattle.bank.proofs.writing.put_start.Goals as goal
use Rattle.bank.proofs.writing.put_start.Goals.{After-push}

-- the control word, from where the stream begins
control : (c : After-push) → Adds c.args.w.now (binary 5 c.args.words ++ control_bits c.args.control) c.push.new.self
control c = same_bits c.push.ensures (control_is c.args.words c.args.control c.requires.2)

pub push-requires : goal.push-requires
push-requires c = takes c.requires.0 16 _ (lit≤ tt) (lit≤ tt) (search rules)

pub push-requires-2 : goal.push-requires-2
push-requires-2 c =
    takes (left c.push.ensures {m = 8} c.requires.0 (rw length_numeral (lit≤ tt))) 8 _ (lit≤ tt) (lit≤ tt) (search rules)

pub returns : goal.returns
returns c = rw append_assoc at (then (control (goal.at.returns c).After-push) c.push-2.ensures)
