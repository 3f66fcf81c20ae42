-- A serial of one of two schemes, or what the one scheme has.
use mathlib.Core.Path.{◌≡◌, sym, ap, ◌∙◌}
use Rattle.std.specs.Prelude.{None}
use Rattle.identities.specs.Families.{short, long}
use Rattle.identify.specs.Words.{by_row, by_serial, by_last}
use Rattle.identify.proofs.counted.by_last.Goals as goal
use Rattle.identify.proofs.counted.by_last.Goals.{In-None}

pub by_serial-requires : goal.by_serial-requires
by_serial-requires c = rw c.short.ensures c.requires

pub returns-in-Some : goal.returns-in-Some
returns-in-Some c =
    let a = c.args in
    let e = sym c.long.ensures ∙ c.in-Some.is in
    c.by_serial.ensures ∙ ap (λ s. by_serial a.n s c.in-Some.l a.x.now) c.short.ensures ∙ sym (ap (λ g. by_last a.n (short a.f) g a.c a.x.now) e)

-- the one scheme, from the place where it is known that there is no other
one : (c : In-None) → long c.args.f ≡ None
one c = sym c.long.ensures ∙ c.in-None.is

pub returns-then-is : goal.returns-then-is
returns-then-is c =
    let e = (goal.at.returns-then-is c).In-None in
    let a = c.args in
    c.by_row.ensures ∙ ap (by_row a.n) c.short-then-is.ensures ∙ sym (ap (λ g. by_last a.n (short a.f) g a.c a.x.now) (one e) ∙ rw (sym c.is.ensures ∙ c.if-is.true))

pub returns-else-is : goal.returns-else-is
returns-else-is c =
    let e = (goal.at.returns-else-is c).In-None in
    let a = c.args in
    sym (ap (λ g. by_last a.n (short a.f) g a.c a.x.now) (one e) ∙ rw (sym c.is.ensures ∙ c.if-is.false))
