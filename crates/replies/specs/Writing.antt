-- How a reply is written, and the room for it.
use Rattle.std.specs.Prelude.{ℕ, ◌+◌, List}
use Rattle.rules.specs.Calls.{text_room}
use Rattle.digits.specs.Pieces.{Puts}

-- w was written at the start of `out`, which is `after` then; n is its length
abbrev pub Wrote : List ℕ → List ℕ → ℕ → List ℕ → Type 0
Wrote w out n after = Puts w 0 out n after

-- so many bytes stand before a raw line: a letter, a number of two digits, and a space behind each
abbrev pub after_number : ℕ
after_number = 5

-- the room for any reply: the codec's for a raw line, and what stands before it
abbrev pub reply_room : ℕ
reply_room = after_number + text_room
