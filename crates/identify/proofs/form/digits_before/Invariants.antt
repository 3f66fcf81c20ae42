-- The invariant: the answer is that of the bytes from i on, i further.
use mathlib.Core.Path.{◌≡◌}
use lib.ListN.{drop}
use Rattle.identities.specs.declared.Component.TheVariants.{PaddedOrEmpty}
use Rattle.identify.specs.Words.{split_by}
use Rattle.identify.proofs.Verdicts.{further}
use Rattle.identify.proofs.form.digits_before.Given as goal

abbrev pub invariant-loop-i : goal.invariant-loop-i
invariant-loop-i l = split_by PaddedOrEmpty l.x ≡ further l.i (split_by PaddedOrEmpty (drop l.i l.x))
