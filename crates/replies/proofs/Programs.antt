-- Every program's reply: how long it is, and that a line which is too long is of neither kind.
use Prim.Native.Nat.{ℕ, ◌+◌, ◌*◌, ◌≤◌, ◌<◌}
use mathlib.Core.Path.{◌≡◌, refl}
use mathlib.Core.List.{List}
use mathlib.Core.Bool.{Bool, true, false, cond}
use native.Mathlib.Omega.{arith}
use lib.ListN.{length}
use borrow.Author.Tests.{lt-leb}
use Rattle.rules.specs.Bytes.{bytes}
use Rattle.rules.specs.TextNumbers.{after}
use Rattle.digits.specs.Starts.{begun}
use Rattle.replies.specs.Hex.{most_digits, is_bank}
use Rattle.replies.specs.Replies.{most_characters, reply_x, tagline_reply}
use Rattle.replies.specs.Identities.{identity_reply}
use Rattle.replies.specs.Programs.{reply_of}
use Rattle.replies.specs.declared.Program.{Program}
use Rattle.replies.specs.declared.Program.TheVariants.{Tagline, Identity}
use Rattle.replies.proofs.Sizes.{Short, tagline_line}
use Rattle.replies.proofs.IdentitySizes.{identity_line}

reply_short : (π : Program) (l : List ℕ) → Short (length l) (reply_of π l)
reply_short Tagline l = tagline_line l
reply_short Identity l = identity_line l

pub reply_long : (π : Program) (l : List ℕ) → length (reply_of π l) ≤ 150
reply_long π l = (reply_short π l).0

-- and with a line feed behind it, at most four times its line with one
pub reply_grows : (π : Program) (l : List ℕ) → length (reply_of π l) + 1 ≤ 4 * (length l + 1)
reply_grows π l = omega (arith, (reply_short π l).1)

pub neither_kind : (π : Program) (l : List ℕ) → most_characters < length l → reply_of π l ≡ reply_x
unfolding tagline_reply is_bank identity_reply
neither_kind Tagline l h = rw (lt-leb (length l) most_characters h, lt-leb (length l) most_digits (omega arith)) (go (begun (after (bytes "urn:") l)))
  where
    go : (b : Bool) → cond b reply_x reply_x ≡ reply_x
    go true = refl
    go false = refl
neither_kind Identity l h = rw (lt-leb (length l) most_characters h)
