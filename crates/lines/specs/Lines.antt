-- The lines of an input, all that is printed for it, and how it is written.
use Rattle.std.specs.Prelude.{ℕ, ◌*◌, ◌+◌, List, [], ◌∷◌, ◌++◌, cond, leb, eqb, length}
use Rattle.replies.specs.Programs.{reply_of}
use Rattle.replies.specs.Writing.{reply_room}
use Rattle.replies.specs.declared.Program.{Program}

abbrev pub feed : ℕ
feed = 0x0A

-- one more byte at the start of the first line; a line by itself, where there is none
abbrev pub before : ℕ → List (List ℕ) → List (List ℕ)
before x [] = (x ∷ []) ∷ []
before x (l ∷ ls) = (x ∷ l) ∷ ls

-- a line ends at a line feed; bytes after the last line feed, if any, are a line too
abbrev pub lines_of : List ℕ → List (List ℕ)
lines_of [] = []
lines_of (x ∷ xs) = let r = lines_of xs in cond (eqb feed x) ([] ∷ r) (before x r)

-- a program's reply to a line, with a line feed
abbrev pub printed : Program → List ℕ → List ℕ
printed π l = reply_of π l ++ (feed ∷ [])

-- the replies to lines, one after the other
abbrev pub each : Program → List (List ℕ) → List ℕ
each π [] = []
each π (l ∷ ls) = printed π l ++ each π ls

-- the replies to all lines of an input
unfoldable pub output_of : Program → List ℕ → List ℕ
output_of π input = each π (lines_of input)

-- WRITING

-- w, if the output has room; nothing, if it is shorter
abbrev pub if_room : ℕ → List ℕ → List ℕ → List ℕ
if_room room out w = cond (leb room (length out)) w []

-- a reply with its line feed is at most so many times as long as its line with its own
abbrev pub growth : ℕ
growth = 4

-- the room for the replies to an input
abbrev pub input_room : List ℕ → ℕ
input_room input = growth * length input + reply_room
