-- One byte is stored.
use mathlib.Core.Path.{refl, sym}
use Rattle.numeral.proofs.Splices.{splice_one}
use Rattle.replies.proofs.letters.put_neither.Goals as goal

pub returns : goal.returns
returns c = record { end = refl; bytes = sym (splice_one c.args.out.now 0 88 c.requires) }
