-- How a text begins.
use Rattle.std.specs.Prelude.{ℕ, List, Bool, true, false}
use Rattle.std.specs.Prelude.{Option, None, Some}

-- whether a text begins so: `after` of the written rules gives the text behind the start, or none
abbrev pub begun : Option (List ℕ) → Bool
begun None = false
begun (Some rest) = true
