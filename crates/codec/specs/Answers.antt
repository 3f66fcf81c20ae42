-- What an answer says: the number, the place, W and the length, and with the output the call of the written rules.
use Rattle.std.specs.Prelude.{ℕ, List, cond, eqb, Result, Ok, Err}
use Rattle.rules.specs.Calls.{Call}
use Rattle.scheme.specs.declared.refusal.Refusal.{Refusal}
use Rattle.scheme.specs.Refusals.{number}
use Rattle.codec.specs.declared.Written.{Written}

-- what a call gives
abbrev pub Answer : Type 0
Answer = Result Written Refusal

abbrev pub number_of : Answer → ℕ
number_of (Ok w) = 0
number_of (Err e) = number e.rule

abbrev pub place_of : Answer → ℕ
place_of (Ok w) = 0
place_of (Err e) = e.place

abbrev pub length_of : Answer → ℕ
length_of (Ok w) = w.length
length_of (Err e) = 0

abbrev pub words_of : Answer → ℕ
words_of (Ok w) = w.words
words_of (Err e) = 0

abbrev pub answered : Answer → List ℕ → Call
answered r out = record { number = number_of r; place = place_of r; words = words_of r; written = length_of r; output = out }

-- which of the two lent texts the line on the screen is a part of, from its start
abbrev pub chosen : {A : Type 0} → ℕ → A → A → A
chosen n tag raw = cond (eqb n 0) tag raw
