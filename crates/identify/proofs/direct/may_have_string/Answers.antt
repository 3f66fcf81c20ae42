-- The two bytes, case by case.
use Prim.Native.Char.{code}
use borrow.Author.Tests.{eq-eqb, ne_eqb, le-leb, lt-leb}
use Rattle.identify.proofs.direct.may_have_string.Goals as goal

pub returns-then-text-lt19 : goal.returns-then-text-lt19
returns-then-text-lt19 c = rw (lt-leb 19 _ c.if-text-lt19.true)

pub returns-then-text-eq45 : goal.returns-then-text-eq45
returns-then-text-eq45 c =
    rw (le-leb 19 _ c.if-text-lt19.false, eq-eqb _ (code "-") c.if-text-eq45.true)

pub returns-then-text-eq49 : goal.returns-then-text-eq49
returns-then-text-eq49 c =
    rw (le-leb 19 _ c.if-text-lt19.false, ne_eqb _ (code "-") c.if-text-eq45.false, eq-eqb _ (code "1") c.if-text-eq49.true)

pub returns-else-text-eq49 : goal.returns-else-text-eq49
returns-else-text-eq49 c =
    rw (le-leb 19 _ c.if-text-lt19.false, ne_eqb _ (code "-") c.if-text-eq45.false, ne_eqb _ (code "1") c.if-text-eq49.false)
