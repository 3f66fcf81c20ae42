-- The invariant: the families before this one are not named.
use Rattle.std.proofs.Common.{◌≡◌, drop}
use Rattle.identities.specs.Families.{families}
use Rattle.identities.specs.Numbers.{named}
use Rattle.identify.proofs.families.name.Given as goal

abbrev pub invariant-loop-f : goal.invariant-loop-f
invariant-loop-f l = named families l.text ≡ named (drop l.f-index families) l.text
