-- The digits of a numeric string as the code holds them, and its integer.
use Rattle.std.specs.Prelude.{List, ◌∷◌, ℕ, length, Option, option_map}
use Rattle.numeral.specs.Numeral.{value, numeral}
use Rattle.tens.specs.declared.Digits.{Digits}

-- a numeric string as the code holds it
abbrev pub numeric_of : Option (List ℕ) → Option Digits
numeric_of = option_map λ ds. record { value = value 10 ds; count = length ds }

-- the k digits of v, and a 1 put before them
abbrev pub one_before : ℕ → ℕ → ℕ
one_before k v = value 10 (1 ∷ numeral 10 k v)
