-- A bank in hex: an even number, at most 128, of upper-case hex digits (document 01).
use Rattle.std.specs.Prelude.{ℕ, ◌+◌, ◌*◌, ◌%◌, List, [], ◌∷◌, Bool, ◌&&◌, cond, leb, eqb, length}
use Rattle.std.specs.Prelude.{Option, None, Some}
use Rattle.rules.specs.Bytes.{all, among, hex_digits}
use Rattle.digits.specs.Digits.{hex_place}

-- an upper-case hex digit
unfoldable pub is_hex : ℕ → Bool
is_hex c = among c hex_digits

-- two digits to a byte
abbrev pub bytes_in : List ℕ → List ℕ
bytes_in [] = []
bytes_in (h ∷ []) = []
bytes_in (h ∷ l ∷ t) = (16 * hex_place h + hex_place l) ∷ bytes_in t

-- a line has at most so many digits
abbrev pub most_digits : ℕ
most_digits = 128

unfoldable pub is_bank : List ℕ → Bool
is_bank l = leb (length l) most_digits && eqb (length l % 2) 0 && all is_hex l

-- the bank of a line that is one
abbrev pub bank_in : List ℕ → Option (List ℕ)
bank_in l = cond (is_bank l) (Some (bytes_in l)) None
