-- The class of the character tells which of its two texts is written: itself, or its escape.
use Rattle.std.proofs.Common.{◌∙◌}
use Rattle.alphabet.proofs.Classes.{plain_test}
use Rattle.alphabet.proofs.put.Goals as goal

pub returns-then-eq : goal.returns-then-eq
returns-then-eq c = rw (plain_test _ _ _ c.class.ensures c.eq.ensures ∙ c.if-eq.true) c.byte.ensures

pub returns : goal.returns
returns c =
    rw (plain_test _ _ _ c.class.ensures c.eq.ensures ∙ c.if-eq.false, ← c.hex.ensures, ← c.hex-2.ensures) c.put.ensures
