-- The identity of a tag, and its filter (document 02, C-16): control fields and filter are dropped, prefix, reference and serial stay as they
-- are written.
use Rattle.std.specs.Prelude.{ℕ, List, [], ◌∷◌}
use Rattle.numeral.specs.Numeral.{value}
use Rattle.rules.specs.Grammar.{Role, filter, prefix, reference, last, Layout, part, end, layout, spelled, Tag}
use Rattle.identities.specs.Families.{family_of}
use Rattle.identities.specs.Grammar.{Identity}

-- a written part before others, unless it is the filter
abbrev pub keep : Role → List ℕ → List (List ℕ) → List (List ℕ)
keep filter x xs = xs
keep prefix x xs = x ∷ xs
keep reference x xs = x ∷ xs
keep last x xs = x ∷ xs

-- the parts of a layout but the filter, as they are written
abbrev pub as_written : Layout → List (List ℕ) → List (List ℕ)
as_written (part r f k) [] = []
as_written (part r f k) (p ∷ ps) = keep r (spelled f p) (as_written (k p) ps)
as_written (end r f) [] = []
as_written (end r f) (p ∷ ps) = keep r (spelled f p) []

unfoldable pub identity_of : Tag → Identity
identity_of τ = record { family = family_of τ.scheme; parts = as_written (layout τ.scheme) τ.parts }

-- the filter's value; 0 where there is none
abbrev pub filter_at : Role → ℕ → ℕ
filter_at filter v = v
filter_at prefix v = 0
filter_at reference v = 0
filter_at last v = 0

abbrev pub filter_in : Layout → List (List ℕ) → ℕ
filter_in (part r f k) [] = 0
filter_in (part r f k) (p ∷ ps) = filter_at r (value 10 p)
filter_in (end r f) ps = 0

unfoldable pub filter_of : Tag → ℕ
filter_of τ = filter_in (layout τ.scheme) τ.parts
