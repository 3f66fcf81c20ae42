-- The run of digits that a text begins with, the value of a hex digit, and tests of bytes.
use Rattle.std.specs.Prelude.{ℕ, zero, suc, ◌-◌, List, [], ◌∷◌, ◌<◌, ◌≡◌, Bool, cond, length, Option, None, Some}
use Prim.Native.Char.{code}
use Rattle.rules.specs.Bytes.{among, upto, hex_digits}
use Rattle.rules.specs.TextNumbers.{is_digit}

-- the digits, 0 to 9, that stand at the start of a text, at most n of them
unfoldable pub leading_digits : ℕ → List ℕ → List ℕ
leading_digits zero t = []
leading_digits (suc n) [] = []
leading_digits (suc n) (x ∷ t) = let r = (x - code "0") ∷ leading_digits n t in cond (is_digit x) r []

-- how many hex digits stand before it
unfoldable pub hex_place : ℕ → ℕ
hex_place c = length (upto c hex_digits)

-- the value of a hex digit: how many stand before it; none for any other byte
unfoldable pub hex_value : ℕ → Option ℕ
hex_value c = cond (among c hex_digits) (Some (hex_place c)) None

-- a test of bytes in code, whose answers are `post`, answers as p does
abbrev pub TestsAs : (ℕ → Bool → Type 0) → (ℕ → Bool) → Type 0
TestsAs post p = (x : ℕ) (r : Bool) → x < 256 → post x r → r ≡ p x
