-- The entry at the byte's place.
use Rattle.std.proofs.Common.{arith}
use Rattle.alphabet.proofs.Classes.{class_at}
use Rattle.alphabet.proofs.class.Goals as goal

pub returns : goal.returns
returns c = class_at c.args.c (omega arith)
