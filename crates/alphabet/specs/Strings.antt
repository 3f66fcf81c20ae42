-- The class of a byte; what a text spells.
use Rattle.std.specs.Prelude.{ℕ, cond, ltb, List, ◌++◌, length, take, replicate}
use Rattle.std.specs.Prelude.{Option}
use Rattle.rules.specs.Answers.{kept}
use Rattle.rules.specs.Bytes.{among}
use Rattle.rules.specs.Characters.{escaped, character}
use Rattle.rules.specs.TextNumbers.{characters_in}
use Rattle.alphabet.specs.declared.table.Class.{Class}
use Rattle.alphabet.specs.declared.table.Class.TheVariants.{Outside, Plain, Escaped}
use Rattle.alphabet.specs.declared.Spelled.{Spelled}

-- outside table A-1, a character that stands for itself, or one of the seven escaped
unfoldable pub class_of : ℕ → Class
class_of c = cond (character c) (cond (among c escaped) Escaped Plain) Outside

-- the characters of a string part; none where it is empty or its form is wrong
abbrev pub string_part : List ℕ → Option (List ℕ)
string_part t = kept (λ cs. ltb 0 (length cs)) (characters_in t)

-- what `read` says of them: their number, and the first twenty with zeros behind
abbrev pub spelled_of : List ℕ → Spelled
spelled_of cs = record { count = length cs; characters = take 20 (cs ++ replicate 20 0) }
