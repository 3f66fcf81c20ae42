-- A text is the list of its bytes.
use Rattle.std.specs.Prelude.{ℕ, zero, ◌+◌, ◌/◌, ◌%◌, List, [], ◌∷◌, map, Bool, true, false, ◌&&◌, ◌||◌, cond, eqb, get_or}
use Prim.Native.Char.{code}
use Prim.Native.String.{String, [] as empty, ◌∷◌ as ◌then◌}

-- the bytes of a quoted text
abbrev pub bytes : String → List ℕ
bytes empty = []
bytes (c then s) = code c ∷ bytes s

-- the test holds of each entry
abbrev pub all : (ℕ → Bool) → List ℕ → Bool
all test [] = true
all test (x ∷ xs) = test x && all test xs

-- x is one of the entries
abbrev pub among : ℕ → List ℕ → Bool
among x [] = false
among x (y ∷ ys) = eqb x y || among x ys

-- the run up to the first x, and the text behind that x
abbrev pub upto : ℕ → List ℕ → List ℕ
upto x [] = []
upto x (y ∷ ys) = let r = y ∷ upto x ys in cond (eqb x y) [] r

abbrev pub behind : ℕ → List ℕ → List ℕ
behind x [] = []
behind x (y ∷ ys) = let r = behind x ys in cond (eqb x y) ys r

abbrev pub dot : ℕ
dot = code "."

abbrev pub colon : ℕ
colon = code ":"

abbrev pub percent : ℕ
percent = code "%"

-- digits in decimal
abbrev pub digits_text : List ℕ → List ℕ
digits_text = map (code "0" +◌)

-- two upper-case hex digits for each byte
abbrev pub hex_digits : List ℕ
hex_digits = bytes "0123456789ABCDEF"

abbrev pub hex_digit : ℕ → ℕ
hex_digit n = get_or hex_digits n zero

abbrev pub hex_text : List ℕ → List ℕ
hex_text [] = []
hex_text (x ∷ xs) = hex_digit (x / 16) ∷ hex_digit (x % 16) ∷ hex_text xs
