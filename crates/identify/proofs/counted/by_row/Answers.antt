-- Six to twelve digits.
use mathlib.Core.Path.{◌≡◌}
use Prim.Native.Nat.{ℕ, ◌≤◌, ◌<◌}
use borrow.Author.Tests.{le-leb, lt-leb}
use Rattle.rules.specs.declared.Scheme.{Scheme}
use Rattle.std.specs.Prelude.{Err, Ok}
use Rattle.identify.specs.declared.counted.Fault.TheVariants.{Unheld}
use Rattle.identify.specs.Words.{by_row}
use Rattle.identify.proofs.counted.by_row.Goals as goal

few : (n : ℕ) (s : Scheme) → n < 6 → (Err Unheld) ≡ by_row n s
few n s h = rw (lt-leb 6 n h)

many : (n : ℕ) (s : Scheme) → 6 ≤ n → 12 < n → (Err Unheld) ≡ by_row n s
many n s h k = rw (le-leb 6 n h, lt-leb n 12 k)

right : (n : ℕ) (s : Scheme) → 6 ≤ n → n ≤ 12 → Ok s ≡ by_row n s
right n s h k = rw (le-leb 6 n h, le-leb n 12 k)

pub returns-then-n-lt6 : goal.returns-then-n-lt6
returns-then-n-lt6 c = few c.args.n c.args.s c.if-n-lt6.true

pub returns-then-n-gt12 : goal.returns-then-n-gt12
returns-then-n-gt12 c = many c.args.n c.args.s c.if-n-lt6.false c.if-n-gt12.true

pub returns : goal.returns
returns c = right c.args.n c.args.s c.if-n-lt6.false c.if-n-gt12.false
