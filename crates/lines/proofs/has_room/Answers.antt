-- The division rounds down, which loses nothing: the input's length is whole.
use Prim.Native.Nat.{ℕ, ◌+◌, ◌-◌, ◌*◌, ◌/◌, ◌≤◌, ◌<◌}
use mathlib.Core.Path.{◌≡◌, sym, ◌∙◌}
use mathlib.Core.Logic.{⊎_elim}
use native.Mathlib.Omega.{arith}
use lib.Dec.{leb}
use borrow.Author.Tests.{le-leb, lt-leb}
use Rattle.numeral.proofs.Arithmetic.{lt_or_ge}
use Rattle.replies.specs.Writing.{reply_room}
use Rattle.lines.specs.Lines.{growth}
use Rattle.lines.proofs.has_room.Goals as goal

same_test : (n m : ℕ) → reply_room ≤ m → leb n ((m - reply_room) / growth) ≡ leb (growth * n + reply_room) m
same_test n m h =
    ⊎_elim
    (λ (l : (m - reply_room) / growth < n). lt-leb n ((m - reply_room) / growth) l ∙ sym (lt-leb (growth * n + reply_room) m (omega arith)))
    (λ (l : n ≤ (m - reply_room) / growth). le-leb n ((m - reply_room) / growth) l ∙ sym (le-leb (growth * n + reply_room) m (omega arith)))
    (lt_or_ge ((m - reply_room) / growth) n)

pub returns-then-out-lt-REPLY_ROOM : goal.returns-then-out-lt-REPLY_ROOM
returns-then-out-lt-REPLY_ROOM c = let a = c.args in sym (lt-leb (growth * a.input + reply_room) a.out (omega arith))

pub returns : goal.returns
returns c = let a = c.args in same_test a.input a.out c.if-out-lt-REPLY_ROOM.false
