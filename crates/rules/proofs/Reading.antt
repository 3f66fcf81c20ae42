-- A text is refused by the first rule that applies, and what is taken is its tag.
use Prim.Native.Nat.{ℕ, suc, ◌+◌, ◌*◌, ◌^◌, ◌≤◌, ◌<◌}
use mathlib.Core.Path.{◌≡◌, refl, sym, ◌∙◌, ap}
use mathlib.Core.Logic.Iff
use mathlib.Core.Logic.{◌↔◌, ⊎_elim}
use mathlib.Core.List.{List, [], ◌∷◌, ◌++◌}
use Rattle.std.specs.Prelude.{Option, None, Some}
use mathlib.Core.Bool.{Bool, true, false}
use native.Mathlib.Omega.{arith}
use native.Mathlib.Nat.{one-le-pow, mul-le-mul_right, pow-suc}
use lib.Dec.{T, lit<, lt→ltb}
use lib.ListN.{length, drop, length-map, length-drop, length-append}
use lib.Seq.{drop_at, drop-drop}
use Rattle.numeral.specs.Numeral.{value}
use Rattle.numeral.proofs.Arithmetic.{lt_or_ge}
use Rattle.rules.specs.Answers.{taken, ◌>>=◌, ◌>>◌, demand, given}
use Rattle.rules.specs.Bytes.{among, upto, behind, dot, digits_text}
use Rattle.rules.specs.declared.Body.{Body}
use Rattle.rules.specs.declared.Body.TheVariants.{Then, Zeros, E}
use Rattle.rules.specs.declared.Parts.{Parts}
use Rattle.rules.specs.declared.Parts.TheVariants.{F, Integers}
use Rattle.rules.specs.Schemes.{Form, integer, cell, row_digits, asset_bits, last_form, row_of}
use Rattle.rules.specs.Grammar.{Role, filter, prefix, reference, last, Layout, part, end, laid, body_layout, Fit, Fits, more, one, written, spelled, digit, shaped, sized}
use Rattle.rules.specs.TextNumbers.{formed, number_at, part_in, last_in, parts_in}
use Rattle.rules.specs.Conditions.{Rule, rule, Whole, zero_alone, leading, Formed, TooLarge, Stands, NoFilter, NoPrefix, NoCell, NoReference, OfEnd, OfLast, from_filter, from_prefix, from_reference, from_end, from_last, Begins}
use Rattle.rules.proofs.Answers.{Decides, Settled, Reads, settled_given, settled_at, settled_where, settled_as, step, check, reads_map, Covers, done, extra, alike, stays, reads_covers}
use Rattle.rules.proofs.Tests.{and}
use Rattle.rules.proofs.Runs.{run_is, among_of, upto_of}
use Rattle.rules.proofs.Decimals.{no_dots}
use Rattle.rules.proofs.Forms.{Symbols, formed_of, formed_decides, large_of, not_large, row_not_large}

-- A part up to the next dot.
abbrev pub PartIs : Form → List ℕ → List ℕ → Type 0
PartIs f t p = Fit f p × (t ≡ spelled f p ++ dot ∷ behind dot t) × (upto dot t ≡ spelled f p)

pub part_settled : (n i : ℕ) (f : Form) (t : List ℕ) → Settled n (¬ (Stands f t)) (◌≡ i) (PartIs f t) (part_in n i f t)
part_settled n i f t = dots (among dot t) refl
  where
    x : List ℕ
    x = upto dot t

    sizes : T (among dot t) → (p : List ℕ) → Symbols f x p → T (shaped f p) → (b : Bool) → sized f p ≡ b
        → Settled n (¬ (Stands f t)) (◌≡ i) (PartIs f t) (demand b n i >> taken p)
    sizes d p s h true e = (
      λ no-stand. no-stand (d, formed_of f x p s h, not_large f x p s (rw e tt)),
      (record { symbols = s.0; shape = h; size = rw e tt }, run_is dot t d ∙ ap (◌++ dot ∷ behind dot t) s.1, s.1),
    )
    sizes d p s h false e = (refl, refl, λ stands. stands.2 (large_of f x p s (rw e tt)))

    forms : T (among dot t) → (o : Option (List ℕ)) → Decides (¬ (Formed f x)) (λ p. Symbols f x p × T (shaped f p)) o
        → Settled n (¬ (Stands f t)) (◌≡ i) (PartIs f t) (given o n i >>= λ p. demand (sized f p) n i >> taken p)
    forms d None h = (refl, refl, λ stands. h stands.1)
    forms d (Some p) h = sizes d p h.1.0 h.1.1 (sized f p) refl

    dots : (b : Bool) → among dot t ≡ b → Settled n (¬ (Stands f t)) (◌≡ i) (PartIs f t) (demand b n i >> (given (formed f x) n i >>= λ p. demand (sized f p) n i >> taken p))
    dots true e = forms (rw e tt) (formed f x) (formed_decides f x)
    dots false e = (refl, refl, λ stands. rw e at stands.0)

-- The last part.
abbrev pub LastIs : Form → List ℕ → List ℕ → Type 0
LastIs f t p = Fit f p × (t ≡ spelled f p)

abbrev pub last_rules : ℕ → Form → List ℕ → (ℕ → Type 0) → List Rule
last_rules n f t Place = rule n (¬ (Formed f t)) Place ∷ rule 8 (TooLarge f t) Place ∷ []

pub last_reads : (n i : ℕ) (f : Form) (t : List ℕ) (Place : ℕ → Type 0) → 0 < n → Place i → Reads (last_rules n f t Place) (LastIs f t) (last_in n i f t)
last_reads n i f t Place z k =
    step (rule 8 (TooLarge f t) Place ∷ []) (LastIs f t) n (¬ (Formed f t)) Place R (given (formed f t) n i) _ z
    (settled_where n i (¬ (Formed f t)) Place R (given (formed f t) n i) k (settled_given n i (¬ (Formed f t)) R (formed f t) (formed_decides f t))) λ p s.
    check [] (LastIs f t) 8 (TooLarge f t) Place (T (sized f p)) (demand (sized f p) 8 i) (taken p) (lit< tt)
    (settled_at 8 i (TooLarge f t) Place (sized f p) (λ b. (large_of f t p s.0 b, k)) (not_large f t p s.0)) λ b.
    (tt, (record { symbols = s.0.0; shape = s.1; size = b }, s.0.1))
  where
    R : List ℕ → Type 0
    R p = Symbols f t p × T (shaped f p)

-- The parts of a layout that begin at offset i, and the rules of its text.
pub some_number : (r : Role) → 0 < number_at r
some_number filter = lit< tt
some_number prefix = lit< tt
some_number reference = lit< tt
some_number last = lit< tt

abbrev PartsAre : Layout → List ℕ → List (List ℕ) → Type 0
PartsAre l t ps = Fits l ps × (t ≡ written l ps)

pub record LayoutReads (rs : List Rule) (i : ℕ) (l : Layout) (t : List ℕ) : Type 0 where
  pub reads : Reads rs (PartsAre l t) (parts_in i l t)

covered : {rs qs : List Rule} {i : ℕ} {l : Layout} {t : List ℕ} → Covers rs qs → LayoutReads rs i l t → LayoutReads qs i l t
covered {i = i} {l = l} {t = t} c h = record { reads = reads_covers (PartsAre l t) (parts_in i l t) c h.reads }

-- behind a part and its dot the text goes on
behind_begins : (w t : List ℕ) (i : ℕ) (f : Form) (p : List ℕ) → PartIs f t p → Begins w t i → Begins w (behind dot t) (i + length (upto dot t) + 1)
behind_begins w t i f p h b =
    let x = upto dot t in
    let y = behind dot t in
    let e : t ≡ x ++ dot ∷ y = h.1 ∙ ap (◌++ dot ∷ y) (sym h.2) in
    let d : drop (length x) (drop i w) ≡ dot ∷ y = rw (← b.1) (ap (drop (length x)) e ∙ drop_at x (dot ∷ y) (length x) refl) in
    let s : drop 1 (drop (length x) (drop i w)) ≡ drop (i + length x + 1) w = rw (drop-drop (length x) i w, drop-drop 1 (i + length x) w) in
    (omega (arith, ap length e, length-append x (dot ∷ y), ap length b.1, length-drop i w), sym (ap (drop 1) d) ∙ s)

module _ (w : List ℕ) where
  ends : (r : Role) (f : Form) (i : ℕ) (t : List ℕ) → Begins w t i → LayoutReads (last_rules (number_at r) f t (Begins w t)) i (end r f) t
  ends r f i t k =
      let n = number_at r in
      record { reads = reads_map (last_rules n f t (Begins w t)) (LastIs f t) (PartsAre (end r f) t) (◌∷ []) (last_in n i f t) (last_reads n i f t (Begins w t) (some_number r) k) λ p i. (one i.0, i.1) }

  goes_on : {r : Role} {f : Form} {k : List ℕ → Layout} {i : ℕ} {t : List ℕ} {P : Type 0} {rs : List Rule} → Begins w t i → (¬ (Stands f t)) ↔ P
      → ((p : List ℕ) → PartIs f t p → Begins w (behind dot t) (i + length (upto dot t) + 1) → LayoutReads rs (i + length (upto dot t) + 1) (k p) (behind dot t))
      → LayoutReads (rule (number_at r) P (Begins w t) ∷ rs) i (part r f k) t
  goes_on {r} {f} {k} {i} {t} {P} {rs} b e h = let n = number_at r in let j = i + length (upto dot t) + 1 in record {
    reads = step rs (PartsAre (part r f k) t) n P (Begins w t) (PartIs f t) (part_in n i f t) _ (some_number r)
        (settled_where n i P (Begins w t) (PartIs f t) (part_in n i f t) b (settled_as n (¬ (Stands f t)) P (◌≡ i) (PartIs f t) (part_in n i f t) e (part_settled n i f t))) λ p s.
        reads_map rs (PartsAre (k p) (behind dot t)) (PartsAre (part r f k) t) (p ∷◌) (parts_in j (k p) (behind dot t)) (h p s (behind_begins w t i f p s b)).reads λ ps u.
        (more s.0 u.0, s.1 ∙ ap (λ v. spelled f p ++ dot ∷ v) u.1);
  }

  -- behind a company prefix of n digits
  abbrev body_rules : Body → ℕ → List ℕ → List Rule
  body_rules body n x =
      rule 6 (NoCell body n x) (Begins w x) ∷
      rule 7 (OfEnd (λ f x. ¬ (Formed f x)) body n x) (Begins w (from_end body x)) ∷
      rule 8 (OfEnd TooLarge body n x) (Begins w (from_end body x)) ∷ []

  body_reads : (body : Body) (n i : ℕ) (x : List ℕ) → Begins w x i → LayoutReads (body_rules body n x) i (body_layout body n) x
  body_reads (Then t l) n i x b = goes_on b Iff.rfl λ p s c. ends last (last_form l) _ (behind dot x) c
  body_reads (Zeros t z) n i x b =
      let c = cell t (row_of n) in
      covered (stays (extra (λ e. e) (alike (row_not_large t c.0 c.1 x, λ e. absurd e) done))) (ends reference (row_digits t (row_of n)) i x b)
  body_reads E n i x b = covered (extra (λ e. e) (stays (stays done))) (ends last (integer (asset_bits (row_of n))) i x b)

-- A filter is an integer of three bits.
pub one_digit : {ds : List ℕ} → Whole ds → value 10 ds < 8 → (d : ℕ) × (d < 8) × (ds ≡ d ∷ [])
unfolding value
one_digit zero_alone h = (0, lit< tt, refl)
one_digit (leading {d = d} {ds = []} k) h = (d, omega arith, refl)
one_digit (leading {d = d} {ds = e ∷ ds} k) h =
    let a : 1 ≤ 10 ^ length ds = one-le-pow (length ds) 10 (lit< tt) in
    let b : 1 * 10 ^ suc (length ds) ≤ d * 10 ^ suc (length ds) = mul-le-mul_right (10 ^ suc (length ds)) k in
    absurd (omega (arith, pow-suc 10 (length ds)))

filter_stands : (u : List ℕ) → Stands (integer 3) u ↔ ((d : ℕ) × (v : List ℕ) × (d < 8) × (u ≡ digits_text (d ∷ []) ++ dot ∷ v))
unfolding value
filter_stands u = (digit_of, stands_of)
  where
    digit_of : Stands (integer 3) u → (d : ℕ) × (v : List ℕ) × (d < 8) × (u ≡ digits_text (d ∷ []) ++ dot ∷ v)
    digit_of r =
        let ds = r.1.0 in
        let small : value 10 ds < 8 = ⊎_elim (λ l. l) (λ m. absurd (r.2 (ds, r.1.1, m))) (lt_or_ge (value 10 ds) 8) in
        let (d, l, e) = one_digit r.1.2 small in
        (d, behind dot u, l, run_is dot u r.0 ∙ ap (◌++ dot ∷ behind dot u) (r.1.1.1 ∙ ap digits_text e))

    stands_of : (d : ℕ) × (v : List ℕ) × (d < 8) × (u ≡ digits_text (d ∷ []) ++ dot ∷ v) → Stands (integer 3) u
    stands_of r =
        let (d, v, l, e) = r in
        let ds : List ℕ = d ∷ [] in
        let s = and (digit d) true (lt→ltb d 10 (omega arith)) tt in
        let x = digits_text ds in
        rw (e, among_of dot v x, upto_of dot v x (no_dots ds s))
        (tt, formed_of (integer 3) x ds (s, refl) tt, not_large (integer 3) x ds (s, refl) (lt→ltb (value 10 ds) 8 (omega arith)))

module _ (w : List ℕ) where
  abbrev pub part_rules : Parts → List ℕ → List Rule
  part_rules p u =
      rule 4 (NoFilter p u) (Begins w (from_filter p u)) ∷
      rule 5 (NoPrefix p u) (Begins w (from_prefix p u)) ∷
      rule 6 (NoReference p u) (Begins w (from_reference p u)) ∷
      rule 7 (OfLast (λ f x. ¬ (Formed f x)) p u) (Begins w (from_last p u)) ∷
      rule 8 (OfLast TooLarge p u) (Begins w (from_last p u)) ∷ []

  pub parts_reads : (p : Parts) (i : ℕ) (u : List ℕ) → Begins w u i → LayoutReads (part_rules p u) i (laid p) u
  parts_reads (F body) i u b =
      goes_on w b (Iff.not (filter_stands u)) λ p s b'.
      goes_on w b' Iff.rfl λ ds r b''.
      let v = behind dot u in
      let e : length (upto dot v) ≡ length ds = ap length r.2 ∙ length-map ds _ in
      rw (← e) (body_reads w body (length (upto dot v)) _ (behind dot v) b'')
  parts_reads (Integers x y z) i u b =
      covered (extra (λ e. e) (stays (stays (stays (stays done)))))
      (goes_on w b Iff.rfl λ p s b'.
      goes_on w b' Iff.rfl λ q r b''.
      ends w last (integer z) _ (behind dot (behind dot u)) b'')
