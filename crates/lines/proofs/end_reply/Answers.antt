-- No bytes are no line.
use Prim.Native.Nat.{ℕ}
use mathlib.Core.Path.{◌≡◌, refl}
use mathlib.Core.List.{List, [], ◌∷◌}
use native.Mathlib.Omega.{arith}
use lib.ListN.{length}
use borrow.Author.Tests.{le-leb}
use Rattle.replies.specs.Writing.{reply_room}
use Rattle.replies.specs.declared.Program.{Program}
use Rattle.lines.specs.Lines.{printed}
use Rattle.lines.specs.Turns.{end_reply}
use Rattle.replies.proofs.Pieces.{wrote_nothing}
use Rattle.lines.proofs.end_reply.Goals as goal

no_line : (π : Program) (l : List ℕ) → length l ≡ 0 → end_reply π l ≡ []
no_line π [] e = refl
no_line π (x ∷ l) e = absurd (omega arith)

a_line : (π : Program) (l : List ℕ) → ¬ (length l ≡ 0) → end_reply π l ≡ printed π l
a_line π [] n = absurd (n refl)
a_line π (x ∷ l) n = refl

pub returns-then-rest-eq0 : goal.returns-then-rest-eq0
returns-then-rest-eq0 c =
    rw (no_line c.args.program c.args.rest.now c.if-rest-eq0.true) (wrote_nothing c.args.out.now)

pub returns : goal.returns
returns c =
    rw (a_line c.args.program c.args.rest.now c.if-rest-eq0.false) (rw (le-leb reply_room (length c.args.out.now) c.requires) at c.reply.ensures)
