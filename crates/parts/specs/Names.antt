-- What a text names: a scheme and where the text goes on, or none.
use Rattle.std.specs.Prelude.{ℕ, ◌+◌, ◌&&◌, cond, List, [], ◌∷◌, leb, eqb, length, get_or, drop}
use Rattle.std.specs.Prelude.{Option, None, Some, option_map}
use Rattle.numeral.specs.Numeral.{value}
use Rattle.rules.specs.declared.Scheme.{Scheme}
use Rattle.rules.specs.Bytes.{bytes, among, upto, colon}
use Rattle.rules.specs.Schemes.{schemes, about}
use Rattle.rules.specs.Grammar.{label}
use Rattle.rules.specs.TextNumbers.{named}
use Rattle.rules.specs.TextNumbers.{Named as RulesNamed}
use Rattle.parts.specs.declared.names.Named.{Named}
use Rattle.parts.specs.declared.names.Tail.{Tail}
use Rattle.parts.specs.declared.names.Keyed.{Keyed}

-- a scheme whose name stands at an index
abbrev pub is_at : ℕ → Scheme → Named
is_at at s = record { scheme = s; next = at + length (label s) }

-- the name that u, which stands at an index, begins with
unfoldable pub named_at : ℕ → List ℕ → Option Named
named_at at u = option_map (λ (c : RulesNamed). is_at at c.scheme) (named schemes u)

-- a name's first letter, and the rest of it as one number
abbrev pub name_of : Scheme → List ℕ
name_of s = bytes (about s).name

abbrev pub first_of : Scheme → ℕ
first_of s = get_or (name_of s) 0 0

abbrev pub rest_of : Scheme → List ℕ
rest_of s = drop 1 (name_of s)

abbrev pub key_of : Scheme → ℕ
key_of s = value 256 (rest_of s)

-- the scheme that the rest of a name is the key of
abbrev pub keyed_as : Scheme → Keyed
keyed_as s = record { 0 = s; 1 = first_of s; 2 = length (rest_of s) }

abbrev pub keyed : ℕ → List Scheme → Option Keyed
keyed k [] = None
keyed k (s ∷ ss) = let r = keyed k ss in cond (eqb k (key_of s)) (Some (keyed_as s)) r

unfoldable pub keyed_by : ℕ → Option Keyed
keyed_by k = keyed k schemes

-- the run of u up to its colon as one number, if there is a colon and the run has at most eight bytes
abbrev pub tail : List ℕ → Tail
tail run = record { value = value 256 run; length = length run }

unfoldable pub tail_of : List ℕ → Option Tail
tail_of u = cond (among colon u && leb (length (upto colon u)) 8) (Some (tail (upto colon u))) None
