-- The characters of a string (document 01, "The text of a tag": String).
use Rattle.std.specs.Prelude.{ℕ, List, [], ◌∷◌, ◌++◌, Bool, true, false, ◌&&◌, not}
use Rattle.rules.specs.Bytes.{bytes, among, percent, hex_text}

-- table A-1
unfoldable pub table_a1 : List ℕ
table_a1 = bytes "!\"%&'()*+,-./0123456789:;<=>?ABCDEFGHIJKLMNOPQRSTUVWXYZ_abcdefghijklmnopqrstuvwxyz"

-- the seven that are escaped; the rest stand for themselves
unfoldable pub escaped : List ℕ
escaped = bytes "\"%&/<>?"

abbrev pub character : ℕ → Bool
character c = among c table_a1

abbrev pub plain : ℕ → Bool
plain c = character c && not (among c escaped)

-- a character, as itself or as its escape
abbrev pub spelling : Bool → ℕ → List ℕ
spelling true c = c ∷ []
spelling false c = percent ∷ hex_text (c ∷ [])

abbrev pub string_text : List ℕ → List ℕ
string_text [] = []
string_text (c ∷ cs) = spelling (plain c) c ++ string_text cs
