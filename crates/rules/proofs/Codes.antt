-- The code of a scheme: its parts take the bits that they should, and the bits that are read are refused by the first rule or are right.
use Prim.Native.Nat.{ℕ, ◌+◌, ◌-◌, ◌*◌, ◌/◌, ◌^◌, ◌≤◌, ◌<◌}
use mathlib.Core.Path.{◌≡◌, refl, ◌∙◌}
use mathlib.Core.List.{List, ◌++◌, append_assoc}
use Rattle.std.specs.Prelude.{Some}
use native.Mathlib.Omega.{arith}
use lib.Dec.{leb, leb→le}
use lib.ListN.{length, length-append}
use Rattle.numeral.specs.Numeral.{Digits}
use Rattle.numeral.proofs.Values.{digits_append}
use Rattle.rules.specs.Answers.{taken}
use Rattle.rules.specs.declared.Scheme.{Scheme}
use Rattle.rules.specs.declared.Scheme.TheVariants.{Sgtin96, Sgtin198, Sscc96, Sgln96, Sgln195, Grai96, Grai170, Giai96, Gsrn96, Gsrnp96, Gdti96, Gdti174, Gid96, Gdti113, Sgcn96, Cpi96}
use Rattle.rules.specs.declared.Last.{Last}
use Rattle.rules.specs.declared.Last.TheVariants.{Integer, String, Numeric}
use Rattle.rules.specs.declared.Body.{Body}
use Rattle.rules.specs.declared.Body.TheVariants.{Then, Zeros, E}
use Rattle.rules.specs.declared.Parts.{Parts}
use Rattle.rules.specs.declared.Parts.TheVariants.{F, Integers}
use Rattle.rules.specs.Schemes.{company, Row, rows, row_of, cell, row_digits, asset_bits, prefix_bits, prefix_digits, partition, last_form, schemes, about, words, zero_bits}
use Rattle.rules.specs.Grammar.{last, Layout, part, end, laid, body_layout, layout, Fit, Fits, more, one}
use Rattle.rules.specs.Coding.{part_bits, coded}
use Rattle.rules.specs.BankNumbers.{headed, fields_in}
use Rattle.rules.proofs.Tests.{both}
use Rattle.rules.proofs.Rows.{AllRows, by_row_lem, row_fair, row_picked}
use Rattle.rules.proofs.Fields.{width, row_width, Roomy, part_length, part_bits_lem, field_of}

-- A last part takes exactly w bits.
abbrev pub Ends : Last → ℕ → Type 0
Ends (Integer b) w = b ≡ w
Ends (String b) w = (b ≡ w) × (b ≡ 7 * (b / 7)) × (0 < b / 7)
Ends (Numeric b n) w = (b ≡ w) × (2 * 10 ^ n ≤ 2 ^ b)

-- The filter, the company prefix, the reference and what follows take n bits, whatever the row.
abbrev pub RowSizes : Body → ℕ → Row → Type 0
RowSizes (Then t l) n r = Roomy (row_digits t r) × (6 + prefix_bits r + (cell t r).0 ≤ n) × Ends l (n - (6 + prefix_bits r + (cell t r).0))
RowSizes (Zeros t z) n r = Roomy (row_digits t r) × (6 + prefix_bits r + (cell t r).0 ≡ n)
RowSizes E n r = 6 + prefix_bits r + asset_bits r ≡ n

abbrev pub PartSizes : Parts → ℕ → Type 0
PartSizes (F body) n = (46 ≤ n) × AllRows (λ P r. RowSizes body n r) 0 rows
PartSizes (Integers a b c) n = a + b + c ≡ n

-- the bits of a scheme's parts
abbrev pub content : Scheme → ℕ
content s = (about s).bits - zero_bits (about s).parts - 8

-- what is seen scheme by scheme: the parts' bits and the numbers are within their bounds, and the header is the scheme's own
pub record Sizes (s : Scheme) : Type 0 where
  pub parts : PartSizes (about s).parts (content s)
  pub whole : (about s).bits - zero_bits (about s).parts ≡ 8 + content s
  pub inside : (about s).bits ≤ 16 * words s
  pub some_words : 0 < words s
  pub few_words : words s < 2 ^ 5
  pub byte : (about s).header < 2 ^ 8

sound : (s : Scheme) → (headed (about s).header schemes ≡ Some s) × Sizes s
unfolding schemes rows
sound Sgtin96 = (refl, omega arith)
sound Sgtin198 = (refl, omega arith)
sound Sscc96 = (refl, omega arith)
sound Sgln96 = (refl, omega arith)
sound Sgln195 = (refl, omega arith)
sound Grai96 = (refl, omega arith)
sound Grai170 = (refl, omega arith)
sound Giai96 = (refl, omega arith)
sound Gsrn96 = (refl, omega arith)
sound Gsrnp96 = (refl, omega arith)
sound Gdti96 = (refl, omega arith)
sound Gdti174 = (refl, omega arith)
sound Gid96 = (refl, omega arith)
sound Gdti113 = (refl, omega arith)
sound Sgcn96 = (refl, omega arith)
sound Cpi96 = (refl, omega arith)

pub headed_of : (s : Scheme) → headed (about s).header schemes ≡ Some s
headed_of s = (sound s).0

pub sizes : (s : Scheme) → Sizes s
sizes s = (sound s).1

-- What fits a layout takes w bits.
abbrev Takes : Layout → ℕ → Type 0
Takes (part r f k) w = Roomy f × ((p : List ℕ) → Fit f p → (width f p ≤ w) × Takes (k p) (w - width f p))
Takes (end r f) w = Roomy f × ((p : List ℕ) → Fit f p → width f p ≡ w)

coded_length : {l : Layout} {ps : List (List ℕ)} → Fits l ps → (w : ℕ) → Takes l w → length (coded l ps) ≡ w
coded_length (one {f = f} {p = p} h) w t = part_length f p t.0 h ∙ t.1 p h
coded_length (more {f = f} {k = k} {p = p} {ps = ps} h i) w t =
    let (l, r) = t.1 p h in
    rw (length-append (part_bits f p) (coded (k p) ps), part_length f p t.0 h, coded_length i (w - width f p) r) (omega arith)

pub coded_bits : {l : Layout} {ps : List (List ℕ)} → Fits l ps → Digits 2 (coded l ps)
coded_bits (one {f = f} {p = p} h) = part_bits_lem f p
coded_bits (more {f = f} {k = k} {p = p} {ps = ps} h i) = digits_append 2 (part_bits f p) (coded (k p) ps) (part_bits_lem f p) (coded_bits i)

fields_of : {l : Layout} {ps : List (List ℕ)} → Fits l ps → (w : ℕ) → Takes l w → (a : ℕ) (z : List ℕ) → fields_in a l (coded l ps ++ z) ≡ taken ps
fields_of (one {f = f} {p = p} h) w t a z = rw (field_of a f p z t.0 h)
fields_of (more {f = f} {k = k} {p = p} {ps = ps} h i) w t a z =
    rw (append_assoc (part_bits f p) (coded (k p) ps) z, field_of a f p (coded (k p) ps ++ z) t.0 h, fields_of i (w - width f p) (t.1 p h).1 (a + width f p) z)

-- The parts of a scheme.
end_takes : (l : Last) (w : ℕ) → Ends l w → Takes (end last (last_form l)) w
end_takes (Integer b) w h = (tt, λ p f. h)
end_takes (String b) w h = ((h.1, h.2), λ p f. h.0)
end_takes (Numeric b n) w h = (h.1, λ p f. h.0)

body_takes : (body : Body) (m n : ℕ) → RowSizes body n (row_of m) → Takes (body_layout body m) (n - 3 - (3 + prefix_bits (row_of m)))
body_takes (Then t l) m n h =
    let r = row_of m in
    let e : n - 3 - (3 + prefix_bits r) - (cell t r).0 ≡ n - (6 + prefix_bits r + (cell t r).0) = omega arith in
    (h.0, λ p q. rw (row_width t (cell t r).0 (cell t r).1 p) (omega arith, rw e (end_takes l _ h.2)))
body_takes (Zeros t z) m n h = let c = cell t (row_of m) in (h.0, λ p q. rw (row_width t c.0 c.1 p) (omega arith))
body_takes E m n h = (tt, λ p q. omega arith)

-- a company prefix that fits picks a row
pub has_row : (ds : List ℕ) → Fit company ds → (partition (length ds) < 7) × (prefix_digits (row_of (length ds)) ≡ length ds)
has_row ds q =
    let (x, y) = both (leb 6 (length ds)) (leb (length ds) 12) q.shape in
    row_picked (length ds) (leb→le 6 (length ds) x) (leb→le (length ds) 12 y)

pub row_sizes : (body : Body) (n : ℕ) → PartSizes (F body) n → (ds : List ℕ) → Fit company ds → RowSizes body n (row_of (length ds))
row_sizes body n h ds q = by_row_lem (λ P r. RowSizes body n r) h.1 (partition (length ds)) (has_row ds q).0

takes : (p : Parts) (n : ℕ) → PartSizes p n → Takes (laid p) n
takes (F body) n h = (
  tt,
  λ p f. (
    omega arith,
    (tt, λ ds q. (omega (arith, (row_fair (partition (length ds)) (has_row ds q).0).narrow), body_takes body (length ds) n (row_sizes body n h ds q))),
  ),
)
takes (Integers a b c) n h = (tt, λ p q. (omega arith, (tt, λ p q. (omega arith, (tt, λ p q. omega arith)))))

pub content_length : (s : Scheme) {ps : List (List ℕ)} → Fits (layout s) ps → length (coded (layout s) ps) ≡ content s
content_length s h = coded_length h (content s) (takes (about s).parts (content s) (sizes s).parts)

pub content_of : (s : Scheme) {ps : List (List ℕ)} → Fits (layout s) ps → (a : ℕ) (z : List ℕ) → fields_in a (layout s) (coded (layout s) ps ++ z) ≡ taken ps
content_of s h a z = fields_of h (content s) (takes (about s).parts (content s) (sizes s).parts) a z
