-- Each component by its own function.
use mathlib.Core.Path.{◌≡◌, sym, ap, ◌∙◌}
use mathlib.Core.Bool.{Bool}
use mathlib.Core.List.{List}
use Prim.Native.Nat.{ℕ}
use Rattle.identities.specs.declared.Component.{Component}
use Rattle.identities.specs.declared.Component.TheVariants.{Padded, PaddedOrEmpty, UpTo, Number, Characters, PartReference}
use Rattle.identities.specs.Numbers.{is}
use Rattle.identify.proofs.Components.{padded_or_empty}
use Rattle.identify.proofs.form.is.Goals as goal

arm : (d : Component) (x : List ℕ) {c : Component} {b : Bool} → c ≡ d → b ≡ is d x → b ≡ is c x
arm d x e h = h ∙ sym (ap (λ y. is y x) e)

pub returns-in-Padded : goal.returns-in-Padded
returns-in-Padded c = arm Padded _ c.in-Padded.is c.is_padded.ensures

pub returns-in-PaddedOrEmpty : goal.returns-in-PaddedOrEmpty
returns-in-PaddedOrEmpty c = let a = c.args in arm PaddedOrEmpty a.x.now c.in-PaddedOrEmpty.is (c.all_digits.ensures ∙ padded_or_empty a.x.now)

pub returns-in-UpTo : goal.returns-in-UpTo
returns-in-UpTo c = arm (UpTo c.in-UpTo.n) _ c.in-UpTo.is c.is_up_to.ensures

pub returns-in-Number : goal.returns-in-Number
returns-in-Number c = arm Number _ c.in-Number.is c.is_number.ensures

pub returns-in-Characters : goal.returns-in-Characters
returns-in-Characters c = arm Characters _ c.in-Characters.is c.is_characters.ensures

pub returns-in-PartReference : goal.returns-in-PartReference
returns-in-PartReference c = arm PartReference _ c.in-PartReference.is c.is_part_reference.ensures
