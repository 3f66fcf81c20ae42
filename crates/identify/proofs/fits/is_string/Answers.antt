-- The number of the characters tells whether they are a string, and a short enough one.
use Prim.Native.Nat.{◌/◌}
use mathlib.Core.Path.{sym, ap, ◌∙◌}
use lib.Dec.{leb}
use Rattle.identities.specs.Numbers.{holds}
use Rattle.identify.proofs.Pieces.{string_fits}
use Rattle.identify.proofs.fits.is_string.Goals as goal

pub returns-in_default : goal.returns-in_default
returns-in_default c =
    let a = c.args in
    ap (holds λ n. leb n (a.bits / 7)) (sym c.in_default.is ∙ c.characters_in.ensures) ∙ string_fits a.bits a.x.now

pub returns : goal.returns
returns c =
    let a = c.args in
    ap (holds λ n. leb n (a.bits / 7)) (sym c.in-Some.is ∙ c.characters_in.ensures) ∙ string_fits a.bits a.x.now
