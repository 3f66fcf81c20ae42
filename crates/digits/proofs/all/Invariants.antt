-- The invariant: the bytes so far pass, and the whole text passes exactly if the rest does, or the answer is no.
use Rattle.std.proofs.Common.{ℕ, Bool, ◌≡◌, drop}
use mathlib.Core.Bool.{◌&&◌}
use Rattle.rules.specs.Bytes.{all}
use Rattle.digits.specs.Digits.{TestsAs}
use Rattle.digits.proofs.all.Given as goal

abbrev pub invariant-loop-c : goal.invariant-loop-c
invariant-loop-c g l = (p : ℕ → Bool) → TestsAs (λ x r. goal.F-post g l.test x r) p → all p l.text ≡ l.right && all p (drop l.c-index l.text)
