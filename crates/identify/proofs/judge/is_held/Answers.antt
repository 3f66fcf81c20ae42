-- The three families by their own functions; the others have a total.
use Prim.Native.Nat.{ℕ}
use mathlib.Core.Path.{◌≡◌, sym, ap, ◌∙◌}
use mathlib.Core.Bool.{Bool}
use mathlib.Core.List.{List}
use Rattle.identities.specs.declared.Family.{Family}
use Rattle.identities.specs.declared.Family.TheVariants.{Giai, Cpi, Gid}
use Rattle.identities.specs.Families.{short}
use Rattle.identify.specs.Words.{held}
use Rattle.identify.proofs.judge.is_held.Goals as goal

arm : (g : Family) (x : List ℕ) {f : Family} {b : Bool} → f ≡ g → b ≡ held x (short g) → b ≡ held x (short f)
arm g x e h = h ∙ sym (ap (λ y. held x (short y)) e)

pub returns-in-Giai : goal.returns-in-Giai
returns-in-Giai c = arm Giai _ c.in-Giai.is c.asset.ensures

pub returns-in-Cpi : goal.returns-in-Cpi
returns-in-Cpi c = arm Cpi _ c.in-Cpi.is c.component.ensures

pub returns-in-Gid : goal.returns-in-Gid
returns-in-Gid c = arm Gid _ c.in-Gid.is c.general.ensures
