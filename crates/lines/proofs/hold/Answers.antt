use Rattle.lines.specs.Turns.{most_kept}
use Rattle.lines.proofs.Holds.{moved}
use Rattle.lines.proofs.hold.Goals as goal

pub returns : goal.returns
returns c = moved c.args.input.now c.copy_within.new.self c.args.from most_kept c.min-n.result c.min-n.ensures c.copy_within.ensures.after
