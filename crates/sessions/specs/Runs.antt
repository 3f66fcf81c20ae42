-- The turns of a program. Of `read` the toolchain promises that it answers an error, or a number of bytes that the buffer holds; which bytes a
-- reader has left, and which a writer holds, it knows of readers and writers in memory, and not of the standard streams. So what is said here
-- of a read holds for some bytes: those that it gave. Where they are known, they are the reader's next.
use Rattle.std.specs.Prelude.{ℕ, suc, ◌-◌, ◌^◌, ◌≡◌, ◌≢◌, List, [], ◌∷◌, ◌++◌, Bool, true, false, Option, IfSome, Result, Ok, Err, length, take}
use Rattle.std.specs.Io.KnownBytes.{Consumes, Appends, IsAtEnd}
use Rattle.replies.specs.declared.Program.{Program}
use Rattle.lines.specs.Lines.{output_of}
use Rattle.lines.specs.Turns.{Turn, turn_of, session}
use Rattle.sessions.specs.declared.Ending.{Ending}
use Rattle.sessions.specs.declared.Ending.TheVariants.{Answered, Unread, Unwritten, Closed, Limit}
use Rattle.sessions.specs.declared.Stopped.{Stopped}

-- l begins with w
abbrev pub Begins : List ℕ → List ℕ → Type 0
Begins l w = take (length w) l ≡ w

-- The program has taken the session's turn t: the output begins with what it prints, the input with what it keeps.
pub record Taken (t : Turn) (input out : List ℕ) : Type 0 where
  pub printed : Begins out t.prints
  pub kept : Begins input t.keeps

-- What an ending says of the input is true: whether it has ended. Of a read that failed nothing is said.
abbrev pub Tells : Ending → Bool → Type 0
Tells Answered ended = ended ≡ true
Tells Unread ended = Unit
Tells (Unwritten e) ended = e ≡ ended
Tells (Closed e) ended = e ≡ ended
Tells Limit ended = ended ≡ false

-- a write failed because nobody reads the replies
abbrev pub IsClosed : Ending → Type 0
IsClosed Answered = ⊥
IsClosed Unread = ⊥
IsClosed (Unwritten e) = ⊥
IsClosed (Closed e) = Unit
IsClosed Limit = ⊥

-- What is answered of the turn t is true: how many bytes it keeps, if the session goes on, or how the session ends, which is not for the number
-- of reads.
abbrev pub Says : Turn → Result ℕ Ending → Type 0
Says t (Ok n) = (n ≡ length t.keeps) × (t.ends ≡ false)
Says t (Err e) = (e ≢ Limit) × Tells e t.ends

-- all that the turn prints was written
abbrev pub IsSent : Result ℕ Ending → Type 0
IsSent (Ok n) = Unit
IsSent (Err e) = e ≡ Answered

-- One turn of the program is the session's turn for some bytes that were read, unless the read failed. `left` is what is known of the bytes that
-- the reader had left before, and `left'` after; `held` and `held'` what is known of those that the writer held. The reader loses what was
-- read, and is at its end where that is nothing; the writer gains what the turn prints, where all was written.
pub record OneTurn (π : Program) (rest : List ℕ) (r : Result ℕ Ending) (input out : List ℕ) (left left' held held' : Option (List ℕ)) : Type 0 where
  pub read : List ℕ
  pub taken : r ≢ Err Unread → Taken (turn_of π rest read) input out
  pub says : Says (turn_of π rest read) r
  pub took : r ≢ Err Unread → Consumes left left' read
  pub last : r ≢ Err Unread → read ≡ [] → IsAtEnd left'
  pub put : IsSent r → Appends held held' (turn_of π rest read).prints

-- the most reads that are made
abbrev pub most_reads : ℕ
most_reads = 2 ^ 64 - 1

-- The program has made a session's turns, and has stopped: `before` is what its reads gave, and `last` what the last one gave, unless it
-- failed. The session had not ended before the last read. If that was good, the output begins with what the last turn prints, and what is
-- told of the input is true. Where the program says that all is answered, the session has ended, and the writer has gained the replies to all
-- lines of what the reader had left, if these bytes are known. Where it stops for the number of reads, it has made the most.
pub record Ran (π : Program) (r : Stopped) (out : List ℕ) (left held held' : Option (List ℕ)) : Type 0 where
  pub before : List (List ℕ)
  pub last : List ℕ
  pub count : r.reads ≡ suc (length before)
  pub going : (session π [] before).ends ≡ false
  pub printed : r.how ≢ Unread → Begins out (turn_of π (session π [] before).keeps last).prints
  pub ended : Tells r.how (session π [] (before ++ (last ∷ []))).ends
  pub answered : r.how ≡ Answered → IfSome left (λ xs. Appends held held' (output_of π xs))
  pub limit : r.how ≡ Limit → r.reads ≡ most_reads

-- the same, of an output that is nobody else's
abbrev pub HasRun : Program → Stopped → Option (List ℕ) → Option (List ℕ) → Option (List ℕ) → Type 0
HasRun π r left held held' = (out : List ℕ) × Ran π r out left held held'
