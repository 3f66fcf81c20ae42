-- Fewer than two bytes are left, or the two are looked at.
use mathlib.Core.Path.{sym, ◌∙◌}
use Prim.Native.Char.{code}
use borrow.Author.Tests.{eq-eqb, ne_eqb, le-leb, lt-leb}
use Rattle.rules.specs.Bytes.{dot}
use Rattle.identify.proofs.DirectTags.{no_filter, two_bytes}
use Rattle.identify.proofs.direct.is_filter.Goals as goal

pub returns-then-text-lt-FILTER : goal.returns-then-text-lt-FILTER
returns-then-text-lt-FILTER c = no_filter c.args.text.now c.if-text-lt-FILTER.true

pub returns-then-text-ne46 : goal.returns-then-text-ne46
returns-then-text-ne46 c =
    sym (two_bytes c.args.text.now c.if-text-lt-FILTER.false ∙ rw (ne_eqb _ dot c.if-text-ne46.true))

pub returns-then-filter-ge48 : goal.returns-then-filter-ge48
returns-then-filter-ge48 c =
    sym (two_bytes c.args.text.now c.if-text-lt-FILTER.false ∙ rw (eq-eqb _ dot c.if-text-ne46.false, le-leb (code "0") _ c.if-filter-ge48.true))

pub returns-else-filter-ge48 : goal.returns-else-filter-ge48
returns-else-filter-ge48 c =
    sym (two_bytes c.args.text.now c.if-text-lt-FILTER.false ∙ rw (eq-eqb _ dot c.if-text-ne46.false, lt-leb (code "0") _ c.if-filter-ge48.false))
