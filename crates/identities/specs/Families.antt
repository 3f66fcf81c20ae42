-- The families' table (001, section 6.3; document 02, C-16).
use Rattle.std.specs.Prelude.{ℕ, List, [], ◌∷◌}
use Prim.Native.String.{String as Quoted}
use Rattle.std.specs.Prelude.{Option, None, Some}
use Rattle.rules.specs.declared.Scheme.{Scheme}
use Rattle.rules.specs.declared.Scheme.TheVariants.{Sgtin96, Sgtin198, Sscc96, Sgln96, Sgln195, Grai96, Grai170, Giai96, Gsrn96, Gsrnp96, Gdti96, Gdti174, Gid96, Gdti113, Sgcn96, Cpi96}
use Rattle.identities.specs.declared.Family.{Family}
use Rattle.identities.specs.declared.Family.TheVariants.{Sgtin, Sscc, Sgln, Grai, Giai, Gsrn, Gsrnp, Gdti, Gid, Sgcn, Cpi}
use Rattle.identities.specs.declared.Component.{Component}
use Rattle.identities.specs.declared.Component.TheVariants.{Padded, PaddedOrEmpty, UpTo, Number, Characters, PartReference}

-- a family's name, its components in their order, and the digits that the first two have together, where section 6.3 counts them
pub record Line : Type 0 where
  pub name : Quoted
  pub components : List Component
  pub total : Option ℕ

abbrev pub line : Quoted → List Component → Option ℕ → Line
line n cs t = record { name = n; components = cs; total = t }

abbrev pub about : Family → Line
about Sgtin = line "sgtin" (Padded ∷ Padded ∷ Characters ∷ []) (Some 13)
about Sscc = line "sscc" (Padded ∷ Padded ∷ []) (Some 17)
about Sgln = line "sgln" (Padded ∷ PaddedOrEmpty ∷ Characters ∷ []) (Some 12)
about Grai = line "grai" (Padded ∷ PaddedOrEmpty ∷ Characters ∷ []) (Some 12)
about Giai = line "giai" (Padded ∷ Characters ∷ []) None
about Gsrn = line "gsrn" (Padded ∷ Padded ∷ []) (Some 17)
about Gsrnp = line "gsrnp" (Padded ∷ Padded ∷ []) (Some 17)
about Gdti = line "gdti" (Padded ∷ PaddedOrEmpty ∷ Characters ∷ []) (Some 12)
about Gid = line "gid" (Number ∷ Number ∷ Number ∷ []) None
about Sgcn = line "sgcn" (Padded ∷ PaddedOrEmpty ∷ UpTo 12 ∷ []) (Some 12)
about Cpi = line "cpi" (Padded ∷ PartReference ∷ Number ∷ []) None

unfoldable pub families : List Family
families = Sgtin ∷ Sscc ∷ Sgln ∷ Grai ∷ Giai ∷ Gsrn ∷ Gsrnp ∷ Gdti ∷ Gid ∷ Sgcn ∷ Cpi ∷ []

-- the family whose identities a scheme's tags have
abbrev pub family_of : Scheme → Family
family_of Sgtin96 = Sgtin
family_of Sgtin198 = Sgtin
family_of Sscc96 = Sscc
family_of Sgln96 = Sgln
family_of Sgln195 = Sgln
family_of Grai96 = Grai
family_of Grai170 = Grai
family_of Giai96 = Giai
family_of Gsrn96 = Gsrn
family_of Gsrnp96 = Gsrnp
family_of Gdti96 = Gdti
family_of Gdti174 = Gdti
family_of Gid96 = Gid
family_of Gdti113 = Gdti
family_of Sgcn96 = Sgcn
family_of Cpi96 = Cpi

-- the 96-bit scheme of a family, and the long one, where there is one; gdti-113 is never chosen
abbrev pub short : Family → Scheme
short Sgtin = Sgtin96
short Sscc = Sscc96
short Sgln = Sgln96
short Grai = Grai96
short Giai = Giai96
short Gsrn = Gsrn96
short Gsrnp = Gsrnp96
short Gdti = Gdti96
short Gid = Gid96
short Sgcn = Sgcn96
short Cpi = Cpi96

abbrev pub long : Family → Option Scheme
long Sgtin = Some Sgtin198
long Sscc = None
long Sgln = Some Sgln195
long Grai = Some Grai170
long Giai = None
long Gsrn = None
long Gsrnp = None
long Gdti = Some Gdti174
long Gid = None
long Sgcn = None
long Cpi = None

-- the largest filter: 7, and 0 for gid, whose tags have none
abbrev pub most_filter : Family → ℕ
most_filter Sgtin = 7
most_filter Sscc = 7
most_filter Sgln = 7
most_filter Grai = 7
most_filter Giai = 7
most_filter Gsrn = 7
most_filter Gsrnp = 7
most_filter Gdti = 7
most_filter Gid = 0
most_filter Sgcn = 7
most_filter Cpi = 7
