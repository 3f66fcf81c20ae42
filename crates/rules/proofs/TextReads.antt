-- A text is refused by the first rule that applies; taken, it is the text of its tag, and of no other.
use Prim.Native.Nat.{ℕ, ◌+◌}
use mathlib.Core.Path.{◌≡◌, refl, ◌∙◌, ap}
use mathlib.Core.Logic.{◌↔◌}
use mathlib.Core.List.{List, [], ◌∷◌, ◌++◌}
use Rattle.std.specs.Prelude.{Option, None, Some}
use native.Mathlib.Omega.{arith}
use lib.Dec.{T, lit<}
use lib.ListN.{length}
use Rattle.rules.specs.Answers.{taken, given}
use Rattle.rules.specs.Bytes.{dot}
use Rattle.rules.specs.declared.Scheme.{Scheme}
use Rattle.rules.specs.declared.ControlFields.{ControlFields}
use Rattle.rules.specs.declared.Scheme.TheVariants.{Sgtin96, Sgtin198, Sscc96, Sgln96, Sgln195, Grai96, Grai170, Giai96, Gsrn96, Gsrnp96, Gdti96, Gdti174, Gid96, Gdti113, Sgcn96, Cpi96}
use Rattle.rules.specs.declared.Body.{Body}
use Rattle.rules.specs.declared.Body.TheVariants.{Then, Zeros, E}
use Rattle.rules.specs.declared.Parts.{Parts}
use Rattle.rules.specs.declared.Parts.TheVariants.{F, Integers}
use Rattle.rules.specs.Schemes.{Form, company, digits, integer, string, at_most, numeric, row_of, cell, schemes, about}
use Rattle.rules.specs.Grammar.{Layout, part, end, laid, body_layout, layout, Fit, Fits, more, one, sized, spelled, written, Tag, start, label, text_of, TagText}
use Rattle.rules.specs.ControlFields.{control_text, bracket}
use Rattle.rules.specs.TextNumbers.{after, control_fields_in, Named, choose, named, parts_in, tag_of_text}
use Rattle.rules.specs.Conditions.{Rule, rule, Formed, TooLarge, NoFilter, NoPrefix, NoReference, OfLast, OfText, from_filter, from_prefix, from_reference, from_last, Begins, Starts, FaultAt, ControlledBy, NameAt, PartAt, text_rules}
use Rattle.rules.specs.Conditions.{Named as IsNamed}
use Rattle.rules.proofs.Tests.{is_true}
use Rattle.rules.proofs.Answers.{Gives, Decides, decided, Reads, settled_given, settled_where, step, reads_map, Covers, done, same, reads_covers}
use Rattle.rules.proofs.Runs.{without, among_of, upto_of, behind_of_lem}
use Rattle.rules.proofs.Decimals.{no_dots}
use Rattle.rules.proofs.Rows.{by_count_lem}
use Rattle.rules.proofs.Forms.{formed_at}
use Rattle.rules.proofs.Reading.{part_rules, parts_reads}
use Rattle.rules.proofs.Starts.{after_is, after_of, Begun, after_decides, begins_behind}
use Rattle.rules.proofs.ControlReads.{controlled_of}
use Rattle.rules.proofs.ControlFaults.{ControlIs, control_settled, one_control}

-- What is right is given: the parts, if none but the last may hold a dot.
abbrev Dotless : Form → Type 0
Dotless company = Unit
Dotless (digits b n) = Unit
Dotless (integer b) = Unit
Dotless (string b) = ⊥
Dotless (at_most b n) = Unit
Dotless (numeric b n) = Unit

abbrev Separable : Layout → Type 0
Separable (part r f k) = Dotless f × ((p : List ℕ) → Separable (k p))
Separable (end r f) = Unit

clear : (f : Form) (p : List ℕ) → Dotless f → Fit f p → T (without dot (spelled f p))
clear company p d h = no_dots p h.symbols
clear (digits b n) p d h = no_dots p h.symbols
clear (integer b) p d h = no_dots p h.symbols
clear (string b) p d h = absurd d
clear (at_most b n) p d h = no_dots p h.symbols
clear (numeric b n) p d h = no_dots p h.symbols

parts_of_lem : {l : Layout} {ps : List (List ℕ)} → Fits l ps → Separable l → (i : ℕ) → parts_in i l (written l ps) ≡ taken ps
parts_of_lem (one {f = f} {p = p} h) s i = rw (formed_at f p h.symbols h.shape, is_true (sized f p) h.size)
parts_of_lem (more {f = f} {k = k} {p = p} {ps = ps} h r) s i =
    let c = clear f p s.0 h in
    let u = written (k p) ps in
    rw (among_of dot u (spelled f p), upto_of dot u (spelled f p) c, behind_of_lem dot u (spelled f p) c, formed_at f p h.symbols h.shape, is_true (sized f p) h.size, parts_of_lem r (s.1 p) (i + length (spelled f p) + 1))

body_separable : (body : Body) (n : ℕ) → Separable (body_layout body n)
body_separable (Then t l) n = let c = cell t (row_of n) in (by_count_lem Dotless t c.0 c.1 tt tt, λ _. tt)
body_separable (Zeros t z) n = tt
body_separable E n = tt

separable : (p : Parts) → Separable (laid p)
separable (F body) = (tt, λ _. (tt, λ ds. body_separable body (length ds)))
separable (Integers a b c) = (tt, λ _. (tt, λ _. tt))

-- The name.
pub named_is : (ss : List Scheme) (u : List ℕ) → Gives (λ c. u ≡ label c.scheme ++ c.rest) (named ss u)
named_is [] u = tt
named_is (s ∷ ss) u = go (after (label s) u) (after_is (label s) u) (named ss u) (named_is ss u)
  where
    go : (o : Option (List ℕ)) → Gives (λ v. u ≡ label s ++ v) o → (q : Option Named) → Gives (λ c. u ≡ label c.scheme ++ c.rest) q
        → Gives (λ c. u ≡ label c.scheme ++ c.rest) (choose s o q)
    go None h q i = i
    go (Some v) h q i = h

-- each name and colon are the scheme's alone
pub named_of : (s : Scheme) (v : List ℕ) → named schemes (label s ++ v) ≡ Some (record { scheme = s; rest = v })
unfolding schemes
named_of Sgtin96 v = refl
named_of Sgtin198 v = refl
named_of Sscc96 v = refl
named_of Sgln96 v = refl
named_of Sgln195 v = refl
named_of Grai96 v = refl
named_of Grai170 v = refl
named_of Giai96 v = refl
named_of Gsrn96 v = refl
named_of Gsrnp96 v = refl
named_of Gdti96 v = refl
named_of Gdti174 v = refl
named_of Gid96 v = refl
named_of Gdti113 v = refl
named_of Sgcn96 v = refl
named_of Cpi96 v = refl

-- no name begins with a bracket
no_name : (v : List ℕ) → named schemes (bracket ∷ v) ≡ None
unfolding schemes
no_name v = refl

pub label_shut : (s : Scheme) (v : List ℕ) → ¬ (Starts bracket (label s ++ v))
label_shut s v (w, e) = let z : ◌≡◌ {A = ℕ} 0 1 = cc (no_name w, named_of s v, ap (named schemes) e) in omega arith

-- The whole text.
named_controlled : (t : List ℕ) (s : Scheme) (v : List ℕ) (n : IsNamed t s v) → ControlledBy t n.0 (label s ++ v)
named_controlled t s v (c, fits, e) = (fits, e, λ _. label_shut s v)

module _ (t : List ℕ) (s : Scheme) (v : List ℕ) (e : IsNamed t s v) where
  one_name : (s' : Scheme) (v' : List ℕ) → IsNamed t s' v' → (s' ≡ s) × (v' ≡ v)
  one_name s' v' e' =
      let (_, q) = one_control t (label s' ++ v') (label s ++ v) e'.0 e.0 (named_controlled t s' v' e') (named_controlled t s v e) in
      let r : ◌≡◌ {A = Named} (record { scheme = s'; rest = v' }) (record { scheme = s; rest = v }) = cc (named_of s' v', named_of s v, ap (named schemes) q) in
      (ap (λ c. c.scheme) r, ap (λ c. c.rest) r)

  pub of_named : (Q : Scheme → List ℕ → Type 0) → Q s v ↔ ((s : Scheme) × (u : List ℕ) × IsNamed t s u × Q s u)
  of_named Q = (λ q. (s, v, e, q), back)
    where
      back : ((s : Scheme) × (u : List ℕ) × IsNamed t s u × Q s u) → Q s v
      back r = let (x, y) = one_name r.0 r.1 r.2 in rw (x, y) at r.3

  pub of_text_lem : (Q : Parts → List ℕ → Type 0) → Q (about s).parts v ↔ OfText t Q
  of_text_lem Q = of_named λ s. Q (about s).parts

-- the rules behind the name
abbrev name_rules : List ℕ → List Rule
name_rules t =
    rule 4 (OfText t NoFilter) (PartAt t from_filter) ∷
    rule 5 (OfText t NoPrefix) (PartAt t from_prefix) ∷
    rule 6 (OfText t NoReference) (PartAt t from_reference) ∷
    rule 7 (OfText t (OfLast λ f x. ¬ (Formed f x))) (PartAt t from_last) ∷
    rule 8 (OfText t (OfLast TooLarge)) (PartAt t from_last) ∷ []

name_covers : (t : List ℕ) (s : Scheme) (v : List ℕ) → IsNamed t s v → Covers (part_rules t (about s).parts v) (name_rules t)
name_covers t s v e =
    let of = of_text_lem t s v e in
    same refl (of NoFilter) (at from_filter)
    (same refl (of NoPrefix) (at from_prefix)
    (same refl (of NoReference) (at from_reference)
    (same refl (of (OfLast λ f x. ¬ (Formed f x))) (at from_last)
    (same refl (of (OfLast TooLarge)) (at from_last) done))))
  where
    at : (from : Parts → List ℕ → List ℕ) (p : ℕ) → Begins t (from (about s).parts v) p → PartAt t from p
    at from p h = (s, v, e, h)

-- the name
abbrev Listed : List ℕ → Type 0
Listed t = (s : Scheme) × (v : List ℕ) × IsNamed t s v

abbrev NameIs : List ℕ → Named → Type 0
NameIs u c = u ≡ label c.scheme ++ c.rest

-- behind its control fields the text is a name and v
listed : (t : List ℕ) (c : ControlFields) (u : List ℕ) (n : Named) → ControlledBy t c u → NameIs u n → IsNamed t n.scheme n.rest
listed t c u n h r = (c, h.0, h.1 ∙ ap (λ x. start ++ (control_text c ++ x)) r)

name_decided : (t : List ℕ) (c : ControlFields) (u : List ℕ) → ControlledBy t c u → Decides (¬ (Listed t)) (NameIs u) (named schemes u)
name_decided t c u h =
    decided (Listed t) (NameIs u) (named schemes u) (named_is schemes u) (λ n r. (n.scheme, n.rest, listed t c u n h r)) λ r.
    let (_, q) = one_control t u (label r.0 ++ r.1) c r.2.0 h (named_controlled t r.0 r.1 r.2) in
    (record { scheme = r.0; rest = r.1 }, rw q (named_of r.0 r.1))

pub tag_reads : (t : List ℕ) → Reads (text_rules t) (TagText t) (tag_of_text t)
unfolding text_rules tag_of_text text_of
tag_reads t =
    step (rule 20 ((p : ℕ) × FaultAt t p) (FaultAt t) ∷ rule 3 (¬ (Listed t)) (NameAt t) ∷ name_rules t) (TagText t) 2 (¬ (Begun start t)) (◌≡ 0) _ (given (after start t) 2 0) _ (lit< tt) (settled_given 2 0 (¬ (Begun start t)) _ (after start t) (after_decides start t)) λ u e.
    step (rule 3 (¬ (Listed t)) (NameAt t) ∷ name_rules t) (TagText t) 20 ((p : ℕ) × FaultAt t p) (FaultAt t) (ControlIs t u e) (control_fields_in (length start) u) _ (lit< tt) (control_settled t u e) λ k (h, b).
    let a = given (named schemes k.rest) 3 k.next in
    step (name_rules t) (TagText t) 3 (¬ (Listed t)) (NameAt t) (NameIs k.rest) a _ (lit< tt)
    (settled_where 3 k.next (¬ (Listed t)) (NameAt t) (NameIs k.rest) a (k.control, k.rest, h, b) (settled_given 3 k.next (¬ (Listed t)) (NameIs k.rest) (named schemes k.rest) (name_decided t k.control k.rest h))) λ c r.
    let s = c.scheme in
    let v = c.rest in
    let n = listed t k.control k.rest c h r in
    let i = k.next + length (label s) in
    reads_map (name_rules t) _ (TagText t) (λ ps. record { scheme = s; control = k.control; parts = ps }) (parts_in i (layout s) v)
    (reads_covers _ (parts_in i (layout s) v) (name_covers t s v n) (parts_reads t (about s).parts i v (begins_behind t (label s) v k.next (rw (← r) b))).reads) λ ps q.
    record { fits = record { parts = q.0; control = h.0 }; text = h.1 ∙ ap (λ x. start ++ (control_text k.control ++ x)) (r ∙ ap (label s ++◌) q.1) }

pub tag_of : (t : List ℕ) (τ : Tag) → TagText t τ → tag_of_text t ≡ taken τ
unfolding tag_of_text text_of
tag_of t τ r =
    let s = τ.scheme in
    let c = τ.control in
    let u = written (layout s) τ.parts in
    let i = length start in
    rw (
      r.text,
      after_of start (control_text c ++ (label s ++ u)),
      controlled_of i c (label s ++ u) r.fits.control (λ _. label_shut s u),
      named_of s u,
      parts_of_lem r.fits.parts (separable (about s).parts) (i + length (control_text c) + length (label s)),
    )
