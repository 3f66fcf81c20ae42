-- The toggle says whether the AFI is written.
use mathlib.Core.Path.{sym, ◌∙◌}
use native.Mathlib.Omega.{arith}
use Rattle.digits.proofs.Joins.{nothing}
use Rattle.rules.proofs.BankReads.{at_lt}
use Rattle.bank.proofs.RawTexts.{no_afi, some_afi}
use Rattle.bank.proofs.raw.put_afi.Goals as goal

pub returns-then-field_at-eq0 : goal.returns-then-field_at-eq0
returns-then-field_at-eq0 c =
    rw (no_afi c.args.bank.now (sym c.field_at.ensures ∙ c.if-field_at-eq0.true)) (nothing c.args.w.now)

pub overflow_cast-afi : goal.overflow_cast-afi
overflow_cast-afi c = omega (arith, c.field_at-2.ensures, at_lt c.args.bank.now 0x18 8)

pub returns : goal.returns
returns c =
    let b = c.args.bank.now in
    rw (some_afi b (λ e. c.if-field_at-eq0.false (c.field_at.ensures ∙ e)), ← c.field_at-2.ensures) c.put_field.ensures
