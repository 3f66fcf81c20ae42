-- A text that is turned to its identity without a record is the text of a tag, and the identity's parts stand behind its filter.
use Prim.Native.Nat.{ℕ, ◌+◌, ◌-◌, ◌≤◌, ◌<◌}
use Prim.Native.Char.{code}
use mathlib.Core.Path.{◌≡◌, refl, sym, ap, ◌∙◌}
use mathlib.Core.Bool.{Bool, true, false, ◌&&◌, cond}
use mathlib.Core.List.{List, [], ◌∷◌, ◌++◌, append_assoc}
use Rattle.std.specs.Prelude.{Ok, option_map, Option, None, Some, option_map}
use Rattle.std.proofs.lemmas.Option.{same_Some, some_pair_parts}
use native.Mathlib.Omega.{arith}
use lib.Dec.{leb, eqb, leb→le, eqb→eq}
use lib.ListN.{length, take, drop, get_or, length-append, length-drop}
use Rattle.std.proofs.lemmas.List.{take_rest}
use lib.Seq.{drop_at}
use Rattle.rules.specs.declared.Scheme.{Scheme}
use Rattle.rules.specs.declared.Scheme.TheVariants.{Sgtin198, Sgln195, Grai170, Gdti174}
use Rattle.rules.specs.declared.Table.{Table}
use Rattle.rules.specs.declared.Last.TheVariants.{String}
use Rattle.rules.specs.declared.Body.TheVariants.{Then}
use Rattle.rules.specs.declared.Parts.TheVariants.{F}
use Rattle.rules.specs.Answers.{taken, ◌>>=◌, kept}
use Rattle.rules.specs.Bytes.{dot, digits_text}
use Rattle.rules.specs.Schemes.{schemes, exact}
use Rattle.rules.specs.Schemes.{about as aboutScheme}
use Rattle.rules.specs.Grammar.{Tag, start, label}
use Rattle.rules.specs.TextNumbers.{Named, named, after, tag_of_text}
use Rattle.rules.specs.Calls.{text_room}
use Rattle.rules.proofs.Answers.{Gives}
use Rattle.rules.proofs.Starts.{after_is}
use Rattle.rules.proofs.Tests.{both}
use Rattle.rules.proofs.TextReads.{named_is}
use Rattle.rules.proofs.Lengths.{text_length}
use Rattle.digits.specs.Pieces.{Puts}
use Rattle.digits.specs.Starts.{begun}
use Rattle.digits.proofs.Joins.{from_start}
use Rattle.codec.specs.Answers.{answered}
use Rattle.codec.proofs.Ends.{writes}
use Rattle.digits.proofs.Starts.{begun_is, begun_not}
use Rattle.parts.specs.declared.names.Named.{Named as CodeNamed}
use Rattle.parts.specs.Names.{is_at, named_at}
use Rattle.identities.specs.Families.{family_of, most_filter}
use Rattle.identities.specs.Grammar.{joined, identity_text}
use Rattle.identities.specs.Grammar.{start as idStart, label as idLabel}
use Rattle.identities.specs.Calls.{tag_to_identity}
use Rattle.identities.specs.OfTags.{identity_of}
use Rattle.identities.specs.Numbers.{holds, and_then, filter_text, tag_text, held_by}
use Rattle.identities.proofs.Held.{if_taken_lem, held_is, held_split}
use Rattle.identify.specs.Words.{may_have_string, string_in, is_filter, behind_dot, opened_in, spelled_in, spelled_by, way_in, direct_in, start_of}
use Rattle.parts.specs.declared.rest.Rest.{Rest}
use Rattle.text.proofs.Starts.{named_is_at}
use Rattle.identify.proofs.TagLines.{twelve}
use Rattle.identify.proofs.Holders.{holds_it}
use Rattle.identify.proofs.Pieces.{held_body}

-- THE FILTER
pub no_filter : (u : List ℕ) → length u < 2 → false ≡ is_filter u
no_filter [] l = refl
no_filter (d ∷ []) l = refl
no_filter (d ∷ p ∷ u) l = absurd (omega arith)

pub two_bytes : (u : List ℕ) → 2 ≤ length u → is_filter u ≡ eqb (get_or u 1 0) dot && (leb (code "0") (get_or u 0 0) && leb (get_or u 0 0) (code "7"))
two_bytes [] l = absurd (omega arith)
two_bytes (d ∷ []) l = absurd (omega arith)
two_bytes (d ∷ p ∷ u) l = refl

-- the filter, and what stands behind its dot
split : (u : List ℕ) → is_filter u ≡ true → (f : ℕ) × (f ≤ 7) × (2 ≤ length u) × (u ≡ (digits_text (f ∷ []) ++ dot ∷ []) ++ drop 2 u)
split [] e = cc
split (d ∷ []) e = cc
split (d ∷ p ∷ u) e =
    let (a, b) = both (eqb p dot) (leb (code "0") d && leb d (code "7")) (rw e tt) in
    let (l, m) = both (leb (code "0") d) (leb d (code "7")) b in
    let k : code "0" + (d - code "0") ≡ d = omega (arith, leb→le (code "0") d l) in
    (d - code "0", omega (arith, leb→le (code "0") d l, leb→le d (code "7") m), omega arith, ap (λ x. x ∷ p ∷ u) (sym k) ∙ ap (λ y. (code "0" + (d - code "0")) ∷ y ∷ u) (eqb→eq p dot a))

pub filter_within : (t : List ℕ) (n : ℕ) → n ≤ length t → is_filter (drop n t) ≡ true → n + 2 ≤ length t
filter_within t n l e = let (_, _, two, _) = split (drop n t) e in omega (arith, two, length-drop n t, l)

-- THE NAME
module _ (t : List ℕ) where
  pub other_start : begun (after start t) ≡ false → None ≡ opened_in t
  unfolding opened_in
  other_start e = sym (ap (λ o. and_then (and_then o (named schemes)) behind_dot) (begun_not start t e))

  module _ (b : begun (after start t) ≡ true) where
    pub start_within : 12 ≤ length t
    start_within = (begun_is start t 12 twelve b).0

    -- what is left of the text behind them
    abbrev behind_urn : Rest
    behind_urn = record { text = record { ref_ptr = (0, 0); now = t }; at = 12; inside = start_within }

    behind_start : opened_in t ≡ and_then (named schemes (drop 12 t)) behind_dot
    unfolding opened_in
    behind_start = ap (λ o. and_then (and_then o (named schemes)) behind_dot) (begun_is start t 12 twelve b).1

    pub no_name : named_at 12 (drop 12 t) ≡ None → None ≡ opened_in t
    unfolding named_at
    no_name e = sym (behind_start ∙ go (named schemes (drop 12 t)) e)
      where
        go : (o : Option Named) → option_map (λ c. is_at 12 c.scheme) o ≡ None → and_then o behind_dot ≡ None
        go None e = refl
        go (Some c) e = cc

    module _ (n : CodeNamed) (e : named_at 12 (drop 12 t) ≡ Some n) where
      pub name_within : n.next ≤ length t
      name_within = (named_is_at behind_urn n (sym e)).2

      pub with_name : opened_in t ≡ cond (is_filter (drop n.next t)) (Some (n.scheme, n.next + 2)) None
      with_name =
          let (q, k, _) = named_is_at behind_urn n (sym e) in
          behind_start ∙ ap (λ o. and_then o behind_dot) q ∙ ap (λ k. cond (is_filter (drop n.next t)) (Some (n.scheme, k + 2)) None) (sym k)

-- what was opened: a scheme's name, a filter, and what stands behind it
pub record Opened (t : List ℕ) (s : Scheme) (n : ℕ) : Type 0 where
  pub filter : ℕ
  pub small : filter ≤ 7
  pub within : n ≤ length t
  pub text : t ≡ start ++ (label s ++ ((digits_text (filter ∷ []) ++ dot ∷ []) ++ drop n t))

pub opened_is : (t : List ℕ) (s : Scheme) (n : ℕ) → opened_in t ≡ Some (s, n) → Opened t s n
unfolding opened_in
opened_is t s n e = started (after start t) (after_is start t) e
  where
    filtered : (u : List ℕ) (c : Named) → t ≡ start ++ u → u ≡ label c.scheme ++ c.rest → (b : Bool) → is_filter c.rest ≡ b
        → cond {A = Option (Scheme × ℕ)} b (Some (c.scheme, 12 + length (label c.scheme) + 2)) None ≡ Some (s, n) → Opened t s n
    filtered u c q h false hb e = cc
    filtered u c q h true hb e =
        let (k, m) = some_pair_parts _ _ _ _ e in
        let (f, small, two, parts) = split c.rest hb in
        let g = digits_text (f ∷ []) ++ dot ∷ [] in
        let r = drop 2 c.rest in
        let v : t ≡ start ++ (label c.scheme ++ (g ++ r)) = q ∙ ap (start ++◌) (h ∙ ap (label c.scheme ++◌) parts) in
        let w : t ≡ (start ++ (label c.scheme ++ g)) ++ r = v ∙ ap (start ++◌) (sym (append_assoc (label c.scheme) g r)) ∙ sym (append_assoc start (label c.scheme ++ g) r) in
        let z : length (start ++ (label c.scheme ++ g)) ≡ n = omega (arith, m, twelve, length-append start (label c.scheme ++ g), length-append (label c.scheme) g) in
        let d : drop n t ≡ r = ap (drop n) w ∙ drop_at (start ++ (label c.scheme ++ g)) r n z in
        record {
          filter = f;
          small = small;
          within = omega (arith, ap length w, length-append (start ++ (label c.scheme ++ g)) r, z);
          text = v ∙ (λ i. start ++ (label (k i) ++ (g ++ sym d i)));
        }

    called : (u : List ℕ) → t ≡ start ++ u → (o : Option Named) → Gives (λ c. u ≡ label c.scheme ++ c.rest) o → and_then o behind_dot ≡ Some (s, n) → Opened t s n
    called u q None h e = cc
    called u q (Some c) h e = filtered u c q h (is_filter c.rest) refl e

    started : (o : Option (List ℕ)) → Gives (λ u. t ≡ start ++ u) o → and_then (and_then o (named schemes)) behind_dot ≡ Some (s, n) → Opened t s n
    started None q e = cc
    started (Some u) q e = called u q (named schemes u) (named_is schemes u) e

-- A scheme with a string: its table's references have exactly the row's digits, and its tags have a filter.
strung_scheme : (s : Scheme) (t : Table) (b : ℕ) → string_in (aboutScheme s).parts ≡ Some (t, b) → ((aboutScheme s).parts ≡ F (Then t (String b))) × (exact t ≡ true) × (most_filter (family_of s) ≡ 7)
strung_scheme Sgtin198 t b e = let (k, m) = some_pair_parts _ _ _ _ e in rw (← k, ← m) (refl, refl, refl)
strung_scheme Sgln195 t b e = let (k, m) = some_pair_parts _ _ _ _ e in rw (← k, ← m) (refl, refl, refl)
strung_scheme Grai170 t b e = let (k, m) = some_pair_parts _ _ _ _ e in rw (← k, ← m) (refl, refl, refl)
strung_scheme Gdti174 t b e = let (k, m) = some_pair_parts _ _ _ _ e in rw (← k, ← m) (refl, refl, refl)
strung_scheme _ t b e = cc

pub string_exact : (s : Scheme) (t : Table) (b : ℕ) → string_in (aboutScheme s).parts ≡ Some (t, b) → exact t ≡ true
string_exact s t b e = (strung_scheme s t b e).1

-- The tag whose text it is.
pub record Straight (t : List ℕ) (s : Scheme) (n : ℕ) : Type 0 where
  pub within : n ≤ length t
  pub tag : Tag
  pub reads : tag_of_text t ≡ taken tag
  pub scheme : tag.scheme ≡ s
  pub parts : drop n t ≡ joined (identity_of tag).parts
  pub short : length t ≤ 116

pub straight : (t : List ℕ) (s : Scheme) (n : ℕ) → direct_in t ≡ Some (s, n) → Straight t s n
unfolding held_by
straight t s n e = looked_at (may_have_string t) e
  where
    tag : Opened t s n → (q : Option (Table × ℕ)) → string_in (aboutScheme s).parts ≡ q → holds (spelled_in (drop n t)) q ≡ true → Straight t s n
    tag o None k b = cc b
    tag o (Some (table, bits)) k b =
        let x = drop n t in
        let f = o.filter in
        let (parts, _, most) = strung_scheme s table bits k in
        let l : f ≤ most_filter (family_of s) = omega (arith, o.small, most) in
        let (τ, taken_as) = holds_it f x s l (held_body s (Then table (String bits)) x parts ∙ b) in
        let h = held_is f x s τ taken_as in
        let as_text : t ≡ tag_text f x s = o.text ∙ ap (λ q. start ++ (label s ++ (filter_text q f ++ x))) (sym parts) in
        record {
          within = o.within;
          tag = τ;
          reads = ap tag_of_text as_text ∙ if_taken_lem (tag_of_text (tag_text f x s)) τ taken_as;
          scheme = h.scheme;
          parts = sym (held_split f x s τ l h).1;
          short = text_length t τ (record { fits = h.fits; text = as_text ∙ h.text });
        }

    held : (w : Scheme × ℕ) → opened_in t ≡ Some w → (b : Bool) → spelled_by t w ≡ b → cond b (Some w) None ≡ Some (s, n) → Straight t s n
    held w q false b e = cc
    held w q true b e =
        let k = same_Some w (s, n) e in
        tag (opened_is t s n (q ∙ e)) (string_in (aboutScheme s).parts) refl (sym (ap (spelled_by t) k) ∙ b)

    go : (o : Option (Scheme × ℕ)) → opened_in t ≡ o → kept (spelled_by t) o ≡ Some (s, n) → Straight t s n
    go None q e = cc
    go (Some w) q e = held w q (spelled_by t w) refl e

    looked_at : (b : Bool) → cond b (way_in t) None ≡ Some (s, n) → Straight t s n
    looked_at true e = go (opened_in t) refl e
    looked_at false e = cc

-- What stands at that index is no longer than the text.
pub parts_short : {t : List ℕ} {s : Scheme} {n : ℕ} → Straight t s n → length (take (length t - n) (drop n t)) ≤ 116
parts_short {t = t} {n = n} h = omega (arith, ap length (take_rest t n), length-drop n t, h.short)

-- The start of the identity and what stands at that index are the text of the identity.
pub identity_put : (t out : List ℕ) → text_room ≤ length out → (s : Scheme) (n : ℕ) → Straight t s n → (r : ℕ) (exit : List ℕ) → Puts (start_of s ++ take (length t - n) (drop n t)) 0 out r exit → answered (Ok (record { length = r; words = 0 })) exit ≡ tag_to_identity t out
unfolding tag_to_identity identity_text identity_of
identity_put t out l s n h r exit p =
    let τ = h.tag in
    let x : start_of s ++ drop n t ≡ identity_text (identity_of τ) =
    (λ i. start_of (sym h.scheme i) ++ h.parts i) ∙ append_assoc idStart (idLabel (family_of τ.scheme)) (joined (identity_of τ).parts) in
    let (k, o) = from_start (rw (take_rest t n, x) at p) in
    writes text_room out l 0 (identity_text (identity_of τ)) (tag_of_text t >>= λ τ. taken (0, identity_text (identity_of τ))) (ap (◌>>= λ τ. taken (0, identity_text (identity_of τ))) h.reads) _ _ k o
