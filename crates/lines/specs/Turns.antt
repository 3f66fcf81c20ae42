-- An input that is read in pieces. After each read the lines that have ended are answered, and the bytes behind them are kept.
use Rattle.std.specs.Prelude.{ℕ, zero, suc, ◌+◌, ◌≡◌, List, [], ◌∷◌, ◌++◌, Bool, true, false, None, Some, cond, length, take, drop}
use Rattle.rules.specs.Bytes.{among}
use Rattle.replies.specs.Replies.{most_characters}
use Rattle.replies.specs.Writing.{Wrote}
use Rattle.replies.specs.declared.Program.{Program}
use Rattle.lines.specs.Lines.{feed, printed, output_of, if_room, input_room}
use Rattle.lines.specs.declared.Turned.{Turned}

-- how many bytes stand up to the last line feed, it included
abbrev pub finished : List ℕ → ℕ
finished [] = zero
finished (x ∷ xs) = let r = suc (finished xs) in cond (among feed (x ∷ xs)) r zero

-- the bytes of the lines that have ended
unfoldable pub whole : List ℕ → List ℕ
whole input = take (finished input) input

-- at most so many bytes are kept of a line that has not ended: one more than a line may have, since one that long is answered X whatever follows
abbrev pub most_kept : ℕ
most_kept = most_characters + 1

-- what is kept of the bytes from an index on
abbrev pub kept : ℕ → List ℕ → List ℕ
kept from input = take most_kept (drop from input)

-- at the end of the input the bytes behind its last line feed, if any, are a line too
abbrev pub end_reply : Program → List ℕ → List ℕ
end_reply π [] = []
end_reply π (x ∷ xs) = printed π (x ∷ xs)

-- One turn of a program: what it prints, what it keeps for the next one, and whether the input has ended.
pub record Turn : Type 0 where
  pub prints : List ℕ
  pub keeps : List ℕ
  pub ends : Bool

-- the turn for the bytes that were kept and those then read; a read that gives nothing is the end of the input
abbrev pub turn_of : Program → List ℕ → List ℕ → Turn
turn_of π rest [] = record { prints = end_reply π rest; keeps = []; ends = true }
turn_of π rest (x ∷ read) =
    let input = rest ++ x ∷ read in
    record { prints = output_of π (whole input); keeps = kept (length (whole input)) input; ends = false }

-- turn after turn, a read for each, up to the end of the input: all that is printed, and what is kept in the end
abbrev pub session : Program → List ℕ → List (List ℕ) → Turn
session π rest [] = record { prints = []; keeps = rest; ends = false }
session π rest (read ∷ reads) =
    let t = turn_of π rest read in
    let s = session π t.keeps reads in
    cond t.ends t (record { prints = t.prints ++ s.prints; keeps = s.keeps; ends = s.ends })

-- the input: what the reads give, up to the first that gives nothing
abbrev pub input_of : List (List ℕ) → List ℕ
input_of [] = []
input_of ([] ∷ reads) = []
input_of ((x ∷ read) ∷ reads) = (x ∷ read) ++ input_of reads

-- A CALL

-- the turn for an input of which the first n bytes were kept, and the others read
abbrev pub turn_at : Program → ℕ → List ℕ → Turn
turn_at π n input = turn_of π (take n input) (drop n input)

-- what a call looks at: the input, if the output has the room for its replies; no bytes, if it is shorter
abbrev pub seen : List ℕ → List ℕ → List ℕ
seen input out = if_room (input_room input) out input

-- The turn was taken: what it prints stands at the output's start, what it keeps at the input's, and both are otherwise unchanged. How many bytes
-- are kept is told unless the input has ended.
pub record Took (t : Turn) (input out : List ℕ) (r : Turned) (input' out' : List ℕ) : Type 0 where
  pub printed : Wrote t.prints out r.written out'
  pub kept : Wrote t.keeps input (length t.keeps) input'
  pub told : r.kept ≡ cond t.ends None (Some (length t.keeps))
