-- The line on the screen (document 01, "The bank": Screen).
use Rattle.std.specs.Prelude.{ℕ, List, [], ◌&&◌, cond, leb, eqb}

-- all of the tag text for 0, all of the raw text for 11 to 19, the empty start of the raw text for every other number
unfoldable pub screen : List ℕ → List ℕ → ℕ → List ℕ
screen tag raw n = cond (eqb n 0) tag (cond (leb 11 n && leb n 19) raw [])
