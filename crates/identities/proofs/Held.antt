-- A scheme holds an identity exactly if a tag of it has that identity; the filter plays no part.
use Prim.Native.Nat.{ℕ, ◌+◌, ◌≤◌}
use Prim.Native.Char.{code}
use mathlib.Core.Path.{◌≡◌, refl, sym, ◌∙◌, ap}
use mathlib.Core.Logic.Iff
use mathlib.Core.Logic.{◌↔◌}
use mathlib.Core.List.{List, [], ◌∷◌, ◌++◌}
use Rattle.std.specs.Prelude.{Some}
use mathlib.Core.Bool.{true}
use native.Mathlib.Omega.{arith}
use lib.Dec.{ltb, lt→ltb, ltb→lt}
use lib.ListN.{length}
use Rattle.numeral.specs.Numeral.{value}
use Rattle.rules.specs.declared.Scheme.{Scheme}
use Rattle.rules.specs.declared.Scheme.TheVariants.{Sgtin96, Sgtin198, Sscc96, Sgln96, Sgln195, Grai96, Grai170, Giai96, Gsrn96, Gsrnp96, Gdti96, Gdti174, Gid96, Gdti113, Sgcn96, Cpi96}
use Rattle.rules.specs.declared.Parts.{Parts}
use Rattle.rules.specs.declared.Parts.TheVariants.{F, Integers}
use Rattle.rules.specs.Answers.{Answer, refused, taken, ◌>>=◌}
use Rattle.rules.specs.Schemes.{integer, about}
use Rattle.rules.specs.ControlFields.{no_fields, control_text}
use Rattle.rules.specs.Grammar.{Fit, Fits, more, laid, layout, Tag, TagFits, start, label, text_of}
use Rattle.rules.specs.TextNumbers.{parts_in, tag_of_text}
use Rattle.rules.proofs.Tests.{and}
use Rattle.rules.proofs.Starts.{after_of, same_rest}
use Rattle.rules.proofs.ControlReads.{controlled_of}
use Rattle.rules.proofs.TextReads.{named_of, label_shut, tag_reads, tag_of}
use Rattle.scheme.proofs.Shapes.{partitioned}
use Rattle.identities.specs.Families.{family_of, most_filter}
use Rattle.identities.specs.Grammar.{IdentityFits, joined}
use Rattle.identities.specs.OfTags.{as_written, identity_of, filter_in, filter_of}
use Rattle.identities.specs.Numbers.{filter_text, tag_text, if_taken, held_by}
use Rattle.identities.proofs.TagTexts.{value_one, written_as, identified_by}

-- The identity of a tag is of the grammar.
pub identity_fits : (τ : Tag) → TagFits τ → IdentityFits (identity_of τ)
unfolding identity_of
identity_fits τ h = identified_by τ.scheme τ.parts h.parts

-- The text of a tag, from its control fields, its filter and its identity; and without control fields.
pub text_parts : (τ : Tag) → TagFits τ → text_of τ ≡ start ++ (control_text τ.control ++ (label τ.scheme ++ (filter_text (about τ.scheme).parts (filter_of τ) ++ joined (identity_of τ).parts)))
unfolding text_of identity_of filter_of
text_parts τ h = ap (λ x. start ++ (control_text τ.control ++ (label τ.scheme ++ x))) (written_as (about τ.scheme).parts τ.parts h.parts)

pub tag_text_lem : (τ : Tag) → TagFits τ → τ.control ≡ no_fields → text_of τ ≡ tag_text (filter_of τ) (joined (identity_of τ).parts) τ.scheme
tag_text_lem τ h c = text_parts τ h ∙ ap (λ x. start ++ (control_text x ++ (label τ.scheme ++ (filter_text (about τ.scheme).parts (filter_of τ) ++ joined (identity_of τ).parts)))) c

-- What a text with a name and no control fields is read as.
no_fields_fit : (no_fields.umi ≤ 1) × (no_fields.att ≤ 255)
no_fields_fit = omega arith

pub read_named : (s : Scheme) (v : List ℕ)
    → tag_of_text (start ++ (label s ++ v)) ≡ (parts_in (length start + length (control_text no_fields) + length (label s)) (layout s) v >>= λ ps. taken (record { scheme = s; control = no_fields; parts = ps }))
unfolding tag_of_text
read_named s v = rw (after_of start (label s ++ v), controlled_of (length start) no_fields (label s ++ v) no_fields_fit (λ _. label_shut s v), named_of s v)

pub record Held (f : ℕ) (body : List ℕ) (s : Scheme) (τ : Tag) : Type 0 where
  pub fits : TagFits τ
  pub scheme : τ.scheme ≡ s
  pub control : τ.control ≡ no_fields
  pub text : tag_text f body s ≡ text_of τ

taken_as : (s : Scheme) (a : Answer (List (List ℕ))) (τ : Tag) → (a >>= λ ps. taken (record { scheme = s; control = no_fields; parts = ps })) ≡ taken τ
    → (τ.scheme ≡ s) × (τ.control ≡ no_fields)
taken_as s (refused n p) τ e = let z : ◌≡◌ {A = ℕ} 0 1 = cc in absurd (omega arith)
taken_as s (taken ps) τ e =
    let q : ◌≡◌ {A = Tag} (record { scheme = s; control = no_fields; parts = ps }) τ = cc in
    (ap (λ σ. σ.scheme) (sym q), ap (λ σ. σ.control) (sym q))

pub taken_held : (f : ℕ) (body : List ℕ) (s : Scheme) (τ : Tag) → tag_of_text (tag_text f body s) ≡ taken τ → Held f body s τ
taken_held f body s τ e =
    let r = rw e at (tag_reads (tag_text f body s)) in
    let (n, c) = taken_as s (parts_in (length start + length (control_text no_fields) + length (label s)) (layout s) (filter_text (about s).parts f ++ body)) τ (sym (read_named s (filter_text (about s).parts f ++ body)) ∙ e) in
    record { fits = r.1.fits; scheme = n; control = c; text = r.1.text }

pub if_taken_lem : {X : Type 0} (a : Answer X) (x : X) → if_taken a ≡ Some x → a ≡ taken x
if_taken_lem (refused n p) x e = let z : ◌≡◌ {A = ℕ} 0 1 = cc in absurd (omega arith)
if_taken_lem (taken y) x e = cc

pub held_is : (f : ℕ) (body : List ℕ) (s : Scheme) (τ : Tag) → held_by f body s ≡ Some τ → Held f body s τ
unfolding held_by
held_is f body s τ e = taken_held f body s τ (if_taken_lem (tag_of_text (tag_text f body s)) τ e)

-- the filter that a tag with these parts may have
abbrev FilterFits : Parts → ℕ → Type 0
FilterFits (F body) f = f ≤ 7
FilterFits (Integers a b c) f = f ≡ 0

filter_limit : (s : Scheme) (f : ℕ) → (f ≤ most_filter (family_of s)) ↔ FilterFits (about s).parts f
filter_limit Sgtin96 f = Iff.rfl
filter_limit Sgtin198 f = Iff.rfl
filter_limit Sscc96 f = Iff.rfl
filter_limit Sgln96 f = Iff.rfl
filter_limit Sgln195 f = Iff.rfl
filter_limit Grai96 f = Iff.rfl
filter_limit Grai170 f = Iff.rfl
filter_limit Giai96 f = Iff.rfl
filter_limit Gsrn96 f = Iff.rfl
filter_limit Gsrnp96 f = Iff.rfl
filter_limit Gdti96 f = Iff.rfl
filter_limit Gdti174 f = Iff.rfl
filter_limit Gid96 f = (λ h. omega arith, λ h. omega arith)
filter_limit Gdti113 f = Iff.rfl
filter_limit Sgcn96 f = Iff.rfl
filter_limit Cpi96 f = Iff.rfl

no_filter : (a b c : ℕ) (ps : List (List ℕ)) → filter_in (laid (Integers a b c)) ps ≡ 0
no_filter a b c [] = refl
no_filter a b c (p ∷ ps) = refl

fits_filter : (q : Parts) (ps : List (List ℕ)) → Fits (laid q) ps → FilterFits q (filter_in (laid q) ps)
fits_filter (F body) ps h =
    let v = partitioned body h in
    let e : filter_in (laid (F body)) ps ≡ value 10 v.filter = ap (filter_in (laid (F body))) v.parts in
    omega (arith, e, ltb→lt (value 10 v.filter) 8 v.filter_fits.size)
fits_filter (Integers a b c) ps h = no_filter a b c ps

-- the filter of a tag keeps its family's limit
pub filter_most : (τ : Tag) → TagFits τ → filter_of τ ≤ most_filter (family_of τ.scheme)
unfolding filter_of
filter_most τ h = (filter_limit τ.scheme (filter_of τ)).1 (fits_filter (about τ.scheme).parts τ.parts h.parts)

-- What a scheme holds: the body is that of the tag's identity, and the filter is the tag's.
split_filter : (q : Parts) (f : ℕ) (ps : List (List ℕ)) (body : List ℕ) → Fits (laid q) ps → FilterFits q f
    → filter_text q f ++ body ≡ filter_text q (filter_in (laid q) ps) ++ joined (as_written (laid q) ps) → (filter_in (laid q) ps ≡ f) × (joined (as_written (laid q) ps) ≡ body)
split_filter (F rest) f ps body h k e =
    let n : code "0" + f ≡ code "0" + filter_in (laid (F rest)) ps = cc in
    (omega arith, cc)
split_filter (Integers a b c) f ps body h k e = (no_filter a b c ps ∙ sym k, sym e)

pub held_split : (f : ℕ) (body : List ℕ) (s : Scheme) (τ : Tag) → f ≤ most_filter (family_of s) → Held f body s τ → (filter_of τ ≡ f) × (joined (identity_of τ).parts ≡ body)
unfolding identity_of filter_of
held_split f body s τ k h =
    let q : tag_text f body τ.scheme ≡ tag_text (filter_of τ) (joined (identity_of τ).parts) τ.scheme = ap (tag_text f body) h.scheme ∙ h.text ∙ tag_text_lem τ h.fits h.control in
    let v = filter_text (about τ.scheme).parts f ++ body in
    let w = filter_text (about τ.scheme).parts (filter_of τ) ++ joined (identity_of τ).parts in
    split_filter (about τ.scheme).parts f τ.parts body h.fits.parts ((filter_limit τ.scheme f).0 (rw h.scheme k)) (same_rest (label τ.scheme) v w (same_rest start (label τ.scheme ++ v) (label τ.scheme ++ w) q))

-- The same parts behind another filter.
digit_fits : (f : ℕ) → f ≤ 7 → Fit (integer 3) (f ∷ [])
digit_fits f h = record { symbols = and (ltb f 10) true (lt→ltb f 10 (omega arith)) tt; shape = tt; size = lt→ltb (value 10 (f ∷ [])) 8 (omega (arith, value_one f)) }

pub record Refiltered (q : Parts) (f : ℕ) (ps : List (List ℕ)) : Type 0 where
  pub parts : List (List ℕ)
  pub fits : Fits (laid q) parts
  pub same : as_written (laid q) parts ≡ as_written (laid q) ps
  pub filter : filter_in (laid q) parts ≡ f

refiltered : (q : Parts) (f : ℕ) (ps : List (List ℕ)) → Fits (laid q) ps → FilterFits q f → Refiltered q f ps
refiltered (F body) f ps h k =
    let v = partitioned body h in
    record { parts = (f ∷ []) ∷ v.prefix ∷ v.rest; fits = more (digit_fits f k) (more v.prefix_fits v.rest_fits); same = sym (ap (as_written (laid (F body))) v.parts); filter = value_one f }
refiltered (Integers a b c) f ps h k = record { parts = ps; fits = h; same = refl; filter = no_filter a b c ps ∙ sym k }

-- What a tag has is held by its scheme, whatever the filter.
pub held_of : (σ : Tag) (f : ℕ) → TagFits σ → f ≤ most_filter (family_of σ.scheme) → (τ : Tag) × (held_by f (joined (identity_of σ).parts) σ.scheme ≡ Some τ)
unfolding identity_of filter_of held_by
held_of σ f h k =
    let s = σ.scheme in
    let r = refiltered (about s).parts f σ.parts h.parts ((filter_limit s f).0 k) in
    let τ : Tag = record { scheme = s; control = no_fields; parts = r.parts } in
    let fits : TagFits τ = record { parts = r.fits; control = no_fields_fit } in
    let text : tag_text f (joined (identity_of σ).parts) s ≡ text_of τ =
    ap (λ x. tag_text f (joined x) s) (sym r.same) ∙ ap (λ g. tag_text g (joined (as_written (layout s) r.parts)) s) (sym r.filter) ∙ sym (tag_text_lem τ fits refl) in
    (τ, ap if_taken (tag_of (tag_text f (joined (identity_of σ).parts) s) τ (record { fits = fits; text = text })))
