-- The parts of a tag, one by one, as the shape of its scheme says.
use Prim.Native.Nat.{ℕ}
use mathlib.Core.Path.{◌≡◌, refl, ap, ◌∙◌}
use mathlib.Core.List.{List, [], ◌∷◌}
use lib.ListN.{length}
use Rattle.rules.specs.declared.Table.{Table}
use Rattle.rules.specs.declared.Last.{Last}
use Rattle.rules.specs.declared.Body.{Body}
use Rattle.rules.specs.declared.Body.TheVariants.{Then, Zeros, E}
use Rattle.rules.specs.declared.Parts.TheVariants.{F, Integers}
use Rattle.rules.specs.Schemes.{Form, company, integer, row_digits, asset_bits, last_form, row_of}
use Rattle.rules.specs.Grammar.{Role, Layout, part, end, Fit, Fits, more, one, body_layout, laid}

-- the first part of a layout, and the rest; and the last
abbrev First : Form → (List ℕ → Layout) → List (List ℕ) → Type 0
First f k ps = (p : List ℕ) × (qs : List (List ℕ)) × (ps ≡ p ∷ qs) × Fit f p × Fits (k p) qs

first_of : {r : Role} {f : Form} {k : List ℕ → Layout} {ps : List (List ℕ)} → Fits (part r f k) ps → First f k ps
first_of (more {p = p} {ps = qs} h i) = (p, qs, refl, h, i)

abbrev Only : Form → List (List ℕ) → Type 0
Only f ps = (p : List ℕ) × (ps ≡ p ∷ []) × Fit f p

only_of : {r : Role} {f : Form} {ps : List (List ℕ)} → Fits (end r f) ps → Only f ps
only_of (one {p = p} h) = (p, refl, h)

-- a filter, a company prefix, and what its digits lead to
pub record Partitioned (body : Body) (ps : List (List ℕ)) : Type 0 where
  pub filter : List ℕ
  pub prefix : List ℕ
  pub rest : List (List ℕ)
  pub parts : ps ≡ filter ∷ prefix ∷ rest
  pub filter_fits : Fit (integer 3) filter
  pub prefix_fits : Fit company prefix
  pub rest_fits : Fits (body_layout body (length prefix)) rest

pub partitioned : (body : Body) {ps : List (List ℕ)} → Fits (laid (F body)) ps → Partitioned body ps
partitioned body h =
    let (p, qs, e, i, j) = first_of h in
    let (q, rs, f, k, l) = first_of j in
    record { filter = p; prefix = q; rest = rs; parts = e ∙ ap (p ∷◌) f; filter_fits = i; prefix_fits = k; rest_fits = l }

-- what follows a company prefix of n digits: a reference of A to D and a last part; a reference of A to D; a reference of E
pub reference_and_last : (t : Table) (l : Last) (n : ℕ) {ps : List (List ℕ)} → Fits (body_layout (Then t l) n) ps
    → (r : List ℕ) × (x : List ℕ) × (ps ≡ r ∷ x ∷ []) × Fit (row_digits t (row_of n)) r × Fit (last_form l) x
reference_and_last t l n h =
    let (r, qs, e, i, j) = first_of h in
    let (x, g, k) = only_of j in
    (r, x, e ∙ ap (r ∷◌) g, i, k)

pub reference_alone_lem : (t : Table) (z n : ℕ) {ps : List (List ℕ)} → Fits (body_layout (Zeros t z) n) ps → (r : List ℕ) × (ps ≡ r ∷ []) × Fit (row_digits t (row_of n)) r
reference_alone_lem t z n h = only_of h

pub asset_alone_lem : (n : ℕ) {ps : List (List ℕ)} → Fits (body_layout E n) ps → (r : List ℕ) × (ps ≡ r ∷ []) × Fit (integer (asset_bits (row_of n))) r
asset_alone_lem n h = only_of h

-- gid-96's three integers
pub general : (a b c : ℕ) {ps : List (List ℕ)} → Fits (laid (Integers a b c)) ps
    → (p : List ℕ) × (q : List ℕ) × (r : List ℕ) × (ps ≡ p ∷ q ∷ r ∷ []) × Fit (integer a) p × Fit (integer b) q × Fit (integer c) r
general a b c h =
    let (p, qs, e, i, j) = first_of h in
    let (q, rs, f, k, l) = first_of j in
    let (r, g, m) = only_of l in
    (p, q, r, e ∙ ap (p ∷◌) (f ∙ ap (q ∷◌) g), i, k, m)
