-- The text of an identity (001, section 6.3, with the components of section 5; document 02, C-16: our escapes). No reader is mentioned: an
-- identity is its family and its parts as they are written, and has one text.
use Rattle.std.specs.Prelude.{ℕ, ◌+◌, ◌<◌, ◌≤◌, ◌≡◌, List, [], ◌∷◌, ◌++◌, Bool, true, false, T, eqb, length}
use Rattle.std.specs.Prelude.{Option, None, Some}
use Rattle.rules.specs.Bytes.{bytes, among, dot, colon}
use Rattle.rules.specs.Conditions.{Decimal, Whole, Spelled}
use Rattle.identities.specs.declared.Family.{Family}
use Rattle.identities.specs.declared.Component.{Component}
use Rattle.identities.specs.declared.Component.TheVariants.{Padded, PaddedOrEmpty, UpTo, Number, Characters, PartReference}
use Rattle.identities.specs.Families.{about}

-- a character of a part reference that stands for itself (001, section 5: CPRefChar)
unfoldable pub part_characters : List ℕ
part_characters = bytes "0123456789ABCDEFGHIJKLMNOPQRSTUVWXYZ-"

-- zero or more of them, and of the escapes of `/` and `#`
pub data PartText : List ℕ → Type 0 where
  done : PartText []
  itself : {c : ℕ} {t : List ℕ} → T (among c part_characters) → PartText t → PartText (c ∷ t)
  slash : {t : List ℕ} → PartText t → PartText (bytes "%2F" ++ t)
  hash : {t : List ℕ} → PartText t → PartText (bytes "%23" ++ t)

-- the text x is such a component
abbrev pub Is : Component → List ℕ → Type 0
Is Padded x = (ds : List ℕ) × Decimal x ds × (0 < length ds)
Is PaddedOrEmpty x = (ds : List ℕ) × Decimal x ds
Is (UpTo n) x = (ds : List ℕ) × Decimal x ds × (0 < length ds) × (length ds ≤ n)
Is Number x = (ds : List ℕ) × Decimal x ds × Whole ds
Is Characters x = (cs : List ℕ) × Spelled x cs × (0 < length cs)
Is PartReference x = PartText x × (0 < length x)

-- the parts are the components, one by one
pub data Made : List Component → List (List ℕ) → Type 0 where
  none_left : Made [] []
  next : {c : Component} {cs : List Component} {x : List ℕ} {xs : List (List ℕ)} → Is c x → Made cs xs → Made (c ∷ cs) (x ∷ xs)

-- the first two have so many digits together
abbrev pub totals : Option ℕ → List (List ℕ) → Bool
totals None xs = true
totals (Some n) [] = false
totals (Some n) (x ∷ []) = false
totals (Some n) (x ∷ y ∷ xs) = eqb (length x + length y) n

pub record Identity : Type 0 where
  pub family : Family
  pub parts : List (List ℕ)

pub record IdentityFits (ι : Identity) : Type 0 where
  pub parts : Made (about ι.family).components ι.parts
  pub total : T (totals (about ι.family).total ι.parts)

-- the parts, joined by dots
abbrev pub joined : List (List ℕ) → List ℕ
joined [] = []
joined (x ∷ []) = x
joined (x ∷ y ∷ xs) = x ++ dot ∷ joined (y ∷ xs)

unfoldable pub start : List ℕ
start = bytes "urn:epc:id:"

-- a family's name and the colon
abbrev pub label : Family → List ℕ
label f = bytes (about f).name ++ colon ∷ []

unfoldable pub identity_text : Identity → List ℕ
identity_text ι = start ++ (label ι.family ++ joined ι.parts)

-- t is the text of the identity ι, which is of the grammar
pub record IdentityText (t : List ℕ) (ι : Identity) : Type 0 where
  pub fits : IdentityFits ι
  pub text : t ≡ identity_text ι
