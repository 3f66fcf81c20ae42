-- A last part of digits: when the rules take it, and with which number they refuse it.
use Prim.Native.Nat.{ℕ, ◌+◌, ◌^◌, ◌<◌, ◌≤◌}
use mathlib.Core.Path.{◌≡◌, refl, sym, ap, ◌∙◌}
use mathlib.Core.Logic.{⊎_elim}
use mathlib.Core.Bool.{Bool, true, false, cond}
use mathlib.Core.List.{List, [], ◌∷◌, ◌++◌}
use Rattle.std.specs.Prelude.{None, Some, Ok, Err}
use native.Mathlib.Omega.{arith}
use native.Mathlib.Nat.{pow-le-pow_right}
use lib.Dec.{eqb, ltb, lit<}
use lib.ListN.{length, drop, get_or, length-append, length-drop}
use borrow.Author.Tests.{eq-eqb, ne_eqb, lt-ltb, le-ltb, le-leb, lt-leb}
use Rattle.numeral.specs.Numeral.{value}
use Rattle.numeral.proofs.Arithmetic.{lt_or_ge}
use Rattle.rules.specs.Answers.{refused, taken, given, kept, demand, ◌>>=◌, ◌>>◌}
use Rattle.rules.specs.Bytes.{all}
use Rattle.rules.specs.Schemes.{digits, integer, numeric}
use Rattle.rules.specs.Grammar.{plain_number, shaped, sized}
use Rattle.rules.specs.TextNumbers.{is_digit, digits_in, last_in}
use Rattle.digits.specs.Digits.{leading_digits}
use Rattle.digits.proofs.Runs.{leading, run_most, run_within, run_whole, run_long, run_breaks, digits_none, drop_next}
use Rattle.digits.proofs.Parts.{behind_run, rest_at, long_value}
use Rattle.parts.specs.Parts.{form_of, end_of, longer_of, sized_of, shorter_of}
use Rattle.parts.specs.declared.parts.Form.{Form}
use Rattle.scheme.specs.Refusals.{by, refusal}
use Rattle.parts.specs.declared.parts.Form.TheVariants.{Digits, Integer}
use Rattle.parts.proofs.Fitting.{zero_first, plainly_is}
use Rattle.parts.proofs.Standing.{symbols_digits, zero_of, first_byte, ahead, ahead_is}

-- the last part by its digits, its form and its size
module _ (f : Form) (u : List ℕ) (n i : ℕ) where
  pub last_none : digits_in u ≡ None → last_in n i (form_of f) u ≡ refused n i
  last_none e = rw (symbols_digits f u, e)

  pub last_wrong : (ds : List ℕ) → digits_in u ≡ Some ds → shaped (form_of f) ds ≡ false → last_in n i (form_of f) u ≡ refused n i
  last_wrong ds e s = rw (symbols_digits f u, e, s)

  pub last_taken : (ds : List ℕ) → digits_in u ≡ Some ds → shaped (form_of f) ds ≡ true → sized (form_of f) ds ≡ true → last_in n i (form_of f) u ≡ taken ds
  last_taken ds e s z = rw (symbols_digits f u, e, s, z)

-- an integer by the numbers of its digits
module _ (i b : ℕ) (u ds : List ℕ) (read : digits_in u ≡ Some ds) where
  integer_sized : shorter_of i b (length ds) (zero_first ds) (value 10 ds) ≡ end_of (last_in 7 i (integer b) u)
  integer_sized = rw (sym (plainly_is ds), read) (go (plain_number ds) (ltb (value 10 ds) (2 ^ b)) refl refl)
    where
      go : (p z : Bool) → plain_number ds ≡ p → ltb (value 10 ds) (2 ^ b) ≡ z
          → cond p (sized_of i z (value 10 ds)) (refusal 7 i) ≡ end_of (given (kept plain_number (Some ds)) 7 i >>= λ q. demand (ltb (value 10 q) (2 ^ b)) 8 i >> taken q)
      go true true e f = rw (e, f)
      go true false e f = rw (e, f)
      go false z e f = rw e

  -- more than nineteen digits: of a wrong form, or too large
  integer_long : b ≤ 63 → 19 < length ds → Err (by (longer_of true (zero_first ds)) i) ≡ end_of (last_in 7 i (integer b) u)
  integer_long few m = go (zero_first ds) refl ∙ integer_sized
    where
      go : (z : Bool) → zero_first ds ≡ z → Err (by (longer_of true z) i) ≡ shorter_of i b (length ds) z (value 10 ds)
      go true e = rw (ne_eqb (length ds) 1 (λ e. omega arith), lt-ltb 1 (length ds) (omega arith))
      go false e =
          let plain : plain_number ds ≡ true = rw (plainly_is ds, e, ne_eqb (length ds) 1 (λ e. omega arith), lt-ltb 1 (length ds) (omega arith)) in
          let y = long_value 19 ds (lit< tt) m (rw plain tt) in
          let p : 2 ^ b ≤ 2 ^ 63 = pow-le-pow_right (lit< tt) few in
          rw (ne_eqb (length ds) 1 (λ e. omega arith), lt-ltb 1 (length ds) (omega arith), le-ltb (value 10 ds) (2 ^ b) (omega arith))

zero_append : (ds es : List ℕ) → 0 < length ds → zero_first (ds ++ es) ≡ zero_first ds
zero_append [] es l = absurd (omega arith)
zero_append (d ∷ ds) es l = refl

-- The run from `at` on has j digits, and the value v.
module _ (text : List ℕ) (at j v : ℕ) (told : j ≡ length (leading_digits 19 (ahead text at))) (worth : v ≡ value 10 (leading_digits 19 (ahead text at))) where
  many : j ≡ length (leading_digits 19 (drop at text))
  many = rw (ahead_is text at) at told

  is : v ≡ value 10 (leading_digits 19 (drop at text))
  is = rw (ahead_is text at) at worth

  place : at + j ≡ at + length (leading_digits 19 (drop at text))
  place = ap (at +◌) many

  whole : length text ≤ at + j → digits_in (drop at text) ≡ Some (leading_digits 19 (drop at text))
  whole l = run_whole (leading 19 (drop at text)) (omega (arith, many, run_within (leading 19 (drop at text)), length-drop at text))

  not_digits : all is_digit (drop (at + j) text) ≡ false → digits_in (drop at text) ≡ None
  not_digits e = digits_none (drop at text) (rest_at 19 text at (at + j) place ∙ e)

  -- all digits, and more than are read
  more_digits : at + j < length text → all is_digit (drop (at + j) text) ≡ true
      → (es : List ℕ) × (digits_in (drop at text) ≡ Some (leading_digits 19 (drop at text) ++ es)) × (length (leading_digits 19 (drop at text)) ≡ 19) × (0 < length es)
  more_digits l h =
      let u = drop at text in
      let r = leading 19 u in
      let (es, e, n) = run_long r (rest_at 19 text at (at + j) place ∙ h) in
      ⊎_elim
      (λ (k : length (leading_digits 19 u) < 19).
      let z : ◌≡◌ {A = ℕ} 0 1 = cc (run_breaks r k (behind_run 19 text at (at + j) place ∙ drop_next text (at + j) l)) in
      absurd (omega arith))
      (λ (k : 19 ≤ length (leading_digits 19 u)). (es, e, omega (arith, many, run_most r), omega (arith, many, length-drop at text)))
      (lt_or_ge (length (leading_digits 19 u)) 19)

  -- a last part of exactly n digits
  module _ (n : ℕ) where
    pub digits_behind : n ≤ 19 → at + j < length text → refusal 6 at ≡ end_of (last_in 6 at (digits 0 n) (drop at text))
    digits_behind few l = go (all is_digit (drop (at + j) text)) refl
      where
        go : (t : Bool) → all is_digit (drop (at + j) text) ≡ t → refusal 6 at ≡ end_of (last_in 6 at (digits 0 n) (drop at text))
        go false h = sym (ap end_of (last_none (Digits n) (drop at text) 6 at (not_digits h)))
        go true h =
            let (es, q, k, m) = more_digits l h in
            let ds = leading_digits 19 (drop at text) ++ es in
            sym (ap end_of (last_wrong (Digits n) (drop at text) 6 at ds q (ne_eqb (length ds) n (λ e. omega (arith, many, length-append (leading_digits 19 (drop at text)) es)))))

    pub digits_other : length text ≤ at + j → ¬ (j ≡ n) → refusal 6 at ≡ end_of (last_in 6 at (digits 0 n) (drop at text))
    digits_other l d =
        let D = leading_digits 19 (drop at text) in
        sym (ap end_of (last_wrong (Digits n) (drop at text) 6 at D (whole l) (ne_eqb (length D) n (λ e. d (omega (arith, many))))))

    pub digits_end : length text ≤ at + j → j ≡ n → Ok v ≡ end_of (last_in 6 at (digits 0 n) (drop at text))
    digits_end l d =
        let D = leading_digits 19 (drop at text) in
        ap Ok is ∙ sym (ap end_of (last_taken (Digits n) (drop at text) 6 at D (whole l) (eq-eqb (length D) n (omega (arith, many))) refl))

  -- a last part that is an integer of b bits
  module _ (b : ℕ) where
    pub integer_none : j ≡ 0 → refusal 7 at ≡ end_of (last_in 7 at (integer b) (drop at text))
    integer_none e = ⊎_elim (λ (l : at + j < length text). behind l (all is_digit (drop (at + j) text)) refl) all_of_it (lt_or_ge (at + j) (length text))
      where
        nothing : length (leading_digits 19 (drop at text)) ≡ 0
        nothing = omega (arith, many)

        all_of_it : length text ≤ at + j → refusal 7 at ≡ end_of (last_in 7 at (integer b) (drop at text))
        all_of_it m = rw nothing at (integer_sized at b (drop at text) (leading_digits 19 (drop at text)) (whole m))

        behind : at + j < length text → (t : Bool) → all is_digit (drop (at + j) text) ≡ t → refusal 7 at ≡ end_of (last_in 7 at (integer b) (drop at text))
        behind l false h = sym (ap end_of (last_none (Integer b) (drop at text) 7 at (not_digits h)))
        behind l true h = let (es, q, n, m) = more_digits l h in absurd (omega (arith, many))

    pub integer_behind : b ≤ 63 → 0 < j → at + j < length text
        → Err (by (longer_of (all is_digit (drop (at + j) text)) (eqb (get_or text at 0) 48)) at) ≡ end_of (last_in 7 at (integer b) (drop at text))
    integer_behind few s l =
        let D = leading_digits 19 (drop at text) in
        rw (first_byte text at, zero_of D (drop (length D) (drop at text)) (omega (arith, many))) (go (all is_digit (drop (at + j) text)) refl)
      where
        go : (t : Bool) → all is_digit (drop (at + j) text) ≡ t → Err (by (longer_of t (zero_first (leading_digits 19 (drop at text)))) at) ≡ end_of (last_in 7 at (integer b) (drop at text))
        go false h = sym (ap end_of (last_none (Integer b) (drop at text) 7 at (not_digits h)))
        go true h =
            let (es, q, k, m) = more_digits l h in
            let D = leading_digits 19 (drop at text) in
            rw (sym (zero_append D es (omega (arith, many)))) (integer_long at b (drop at text) (D ++ es) q few (omega (arith, many, length-append D es)))

    pub integer_end : 0 < j → length text ≤ at + j
        → shorter_of at b j (eqb (get_or text at 0) 48) v ≡ end_of (last_in 7 at (integer b) (drop at text))
    integer_end s l =
        let D = leading_digits 19 (drop at text) in
        rw (first_byte text at, zero_of D (drop (length D) (drop at text)) (omega (arith, many)), many, is) (integer_sized at b (drop at text) D (whole l))

  -- a last part that is a numeric string of at most n digits
  module _ (n : ℕ) where
    pub numeric_behind : n ≤ 19 → at + j < length text → Err (by (longer_of (all is_digit (drop (at + j) text)) false) at) ≡ end_of (last_in 7 at (numeric 0 n) (drop at text))
    numeric_behind few l = go (all is_digit (drop (at + j) text)) refl
      where
        go : (t : Bool) → all is_digit (drop (at + j) text) ≡ t → Err (by (longer_of t false) at) ≡ end_of (last_in 7 at (numeric 0 n) (drop at text))
        go false h = rw (not_digits h)
        go true h =
            let (es, q, k, m) = more_digits l h in
            let ds = leading_digits 19 (drop at text) ++ es in
            let many : 19 < length ds = omega (arith, many, length-append (leading_digits 19 (drop at text)) es) in
            rw (q, lt-ltb 0 (length ds) (omega (arith, many)), lt-leb (length ds) n (omega (arith, many)))

    pub numeric_none : length text ≤ at + j → j ≡ 0 → refusal 7 at ≡ end_of (last_in 7 at (numeric 0 n) (drop at text))
    numeric_none l e =
        let D = leading_digits 19 (drop at text) in
        rw (whole l, le-ltb 0 (length D) (omega (arith, many)))

    pub numeric_long : length text ≤ at + j → n < j → refusal 8 at ≡ end_of (last_in 7 at (numeric 0 n) (drop at text))
    numeric_long l m =
        let D = leading_digits 19 (drop at text) in
        rw (whole l, lt-ltb 0 (length D) (omega (arith, many)), lt-leb (length D) n (omega (arith, many)))

    pub numeric_end : length text ≤ at + j → ¬ (j ≡ 0) → j ≤ n → Ok v ≡ end_of (last_in 7 at (numeric 0 n) (drop at text))
    numeric_end l s m =
        let D = leading_digits 19 (drop at text) in
        rw (whole l, lt-ltb 0 (length D) (omega (arith, many)), le-leb (length D) n (omega (arith, many))) (ap Ok is)
