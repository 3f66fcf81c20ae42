-- What an answer to another language says: with the output the call of the written rules; of the screen, which bytes of which text.
use Rattle.std.specs.Prelude.{ℕ, ◌^◌, ◌<◌, ◌≡◌, List, length, take}
use Rattle.rules.specs.Calls.{Call}
use Rattle.rules.specs.Screen.{screen}
use Rattle.codec.specs.Answers.{chosen}
use Rattle.capi.specs.declared.Reply.{Reply}
use Rattle.capi.specs.declared.Shown.{Shown}

-- a place and a W that 16 bits hold
abbrev pub Narrow : ℕ → ℕ → Type 0
Narrow place words = (place < 2 ^ 16) × (words < 2 ^ 16)

abbrev pub replied : Reply → List ℕ → Call
replied r out = record { number = r.number; place = r.place; words = r.words; written = r.length; output = out }

-- The line is the first bytes of the text that it names: those and no fewer of the right text (document 01, "Screen").
pub record Shows (tag raw : List ℕ) (number : ℕ) (r : Shown) : Type 0 where
  pub text : r.text ≡ chosen number 0 1
  pub whole : r.length ≡ length (screen tag raw number)
  pub shown : take r.length (chosen r.text tag raw) ≡ screen tag raw number
