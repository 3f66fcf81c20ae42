-- A part up to the next dot: when the rules take it, and when they refuse it.
use Prim.Native.Nat.{ℕ, zero, suc, ◌+◌, ◌-◌, ◌<◌}
use mathlib.Core.Path.{◌≡◌, refl, sym, ap, ◌∙◌}
use mathlib.Core.Bool.{Bool, true, false, ◌&&◌}
use mathlib.Core.List.{List, [], ◌∷◌, ◌++◌}
use Rattle.std.specs.Prelude.{Option, None, Some, Ok, Err}
use native.Mathlib.Omega.{arith}
use lib.Dec.{eqb}
use native.Mathlib.Nat.{add-zero}
use lib.ListN.{length, take, drop, get_or, length-drop}
use lib.Seq.{get_or-drop, take_all}
use borrow.Author.Tests.{ne_eqb}
use Rattle.numeral.specs.Numeral.{value}
use Rattle.rules.specs.Answers.{refused, taken, ◌>>=◌, ◌>>◌, demand, given, kept}
use Rattle.rules.specs.Bytes.{among, upto, dot, digits_text}
use Rattle.rules.specs.Grammar.{shaped, sized}
use Rattle.rules.specs.TextNumbers.{digits_in, symbols_in, part_in}
use Rattle.digits.specs.Digits.{leading_digits}
use Rattle.digits.proofs.Runs.{leading, run_starts}
use Rattle.digits.proofs.Parts.{part_at, no_part_at}
use Rattle.parts.specs.Parts.{form_of, Short, fitting, found_of}
use Rattle.parts.specs.declared.parts.Form.{Form}
use Rattle.parts.specs.declared.parts.Form.TheVariants.{Prefix, Digits, Integer, AtMost}
use Rattle.scheme.specs.declared.refusal.Rule.{Rule}
use Rattle.scheme.specs.Refusals.{number, by}
use Rattle.scheme.proofs.Numbers.{rule_of_number}
use Rattle.parts.proofs.Fitting.{zero_first, fitting_is, too_many}

-- each form of the code is one of digits
pub symbols_digits : (f : Form) (x : List ℕ) → symbols_in (form_of f) x ≡ digits_in x
symbols_digits Prefix x = refl
symbols_digits (Digits n) x = refl
symbols_digits (Integer b) x = refl
symbols_digits (AtMost n) x = refl

abbrev pub right : Form → List ℕ → Bool
right f ds = shaped (form_of f) ds && sized (form_of f) ds

-- a part is taken if it has a dot behind it and its digits are right
module _ (f : Form) (u : List ℕ) (n i : ℕ) where
  judged : (ds : List ℕ) (s z : Bool) → shaped (form_of f) ds ≡ s → sized (form_of f) ds ≡ z → (s && z) ≡ false
      → (given (kept (shaped (form_of f)) (Some ds)) n i >>= λ p. demand (sized (form_of f) p) n i >> taken p) ≡ refused n i
  judged ds true true e q h = let x : ◌≡◌ {A = ℕ} 0 1 = cc in absurd (omega arith)
  judged ds true false e q h = rw (e, q)
  judged ds false z e q h = rw e

  pub part_refused : ((ds : List ℕ) → among dot u ≡ true → digits_in (upto dot u) ≡ Some ds → right f ds ≡ false) → part_in n i (form_of f) u ≡ refused n i
  part_refused h = go (among dot u) refl
    where
      read : (o : Option (List ℕ)) → among dot u ≡ true → digits_in (upto dot u) ≡ o → (given (kept (shaped (form_of f)) o) n i >>= λ p. demand (sized (form_of f) p) n i >> taken p) ≡ refused n i
      read None a e = refl
      read (Some ds) a e = judged ds (shaped (form_of f) ds) (sized (form_of f) ds) refl refl (h ds a e)

      go : (b : Bool) → among dot u ≡ b → part_in n i (form_of f) u ≡ refused n i
      go false e = rw e
      go true e = rw (e, symbols_digits f (upto dot u)) (read (digits_in (upto dot u)) e refl)

  pub part_taken : (ds : List ℕ) → among dot u ≡ true → digits_in (upto dot u) ≡ Some ds → right f ds ≡ true → part_in n i (form_of f) u ≡ taken ds
  part_taken ds a e h = rw (a, symbols_digits f (upto dot u), e) (go (shaped (form_of f) ds) (sized (form_of f) ds) refl refl h)
    where
      go : (s z : Bool) → shaped (form_of f) ds ≡ s → sized (form_of f) ds ≡ z → (s && z) ≡ true
          → (given (kept (shaped (form_of f)) (Some ds)) n i >>= λ p. demand (sized (form_of f) p) n i >> taken p) ≡ taken ds
      go true true e q h = rw (e, q)
      go true false e q h = let x : ◌≡◌ {A = ℕ} 0 1 = cc in absurd (omega arith)
      go false z e q h = let x : ◌≡◌ {A = ℕ} 0 1 = cc in absurd (omega arith)

-- the first digit is 0 exactly if its character is; with no digit it plays no part
pub zero_of : (ds w : List ℕ) → 0 < length ds → eqb (get_or (digits_text ds ++ w) 0 0) 48 ≡ zero_first ds
zero_of [] w l = absurd (omega arith)
zero_of (zero ∷ ds) w l = refl
zero_of (suc d ∷ ds) w l = ne_eqb (48 + suc d) 48 (λ e. omega arith) ∙ sym (ne_eqb (suc d) 0 (λ e. omega arith))

zero_first_lem : (f : Form) (ds w : List ℕ) (v : ℕ) → fitting (form_of f) (length ds) (eqb (get_or (digits_text ds ++ w) 0 0) 48) v ≡ fitting (form_of f) (length ds) (zero_first ds) v
zero_first_lem Prefix [] w v = refl
zero_first_lem (Digits n) [] w v = refl
zero_first_lem (Integer b) [] w v = refl
zero_first_lem (AtMost n) [] w v = refl
zero_first_lem f (d ∷ ds) w v = ap (λ z. fitting (form_of f) (length (d ∷ ds)) z v) (zero_of (d ∷ ds) w (omega arith))

-- the byte at the start of a run
pub first_byte : (text : List ℕ) (at : ℕ) → get_or text at 0 ≡ get_or (digits_text (leading_digits 19 (drop at text)) ++ drop (length (leading_digits 19 (drop at text))) (drop at text)) 0 0
first_byte text at =
    ap (λ i. get_or text i 0) (sym (add-zero at)) ∙ sym (get_or-drop at text 0 0) ∙ ap (λ l. get_or l 0 0) (run_starts (leading 19 (drop at text)))

-- the slice of a text from index `at` on
abbrev pub ahead : List ℕ → ℕ → List ℕ
ahead text at = take (length text - at) (drop at text)

pub ahead_is : (text : List ℕ) (at : ℕ) → ahead text at ≡ drop at text
ahead_is text at = take_all (length text - at) (drop at text) (omega (arith, length-drop at text))

-- The run from `at` on has j digits, and the value v.
module _ (f : Form) (short : Short f) (rule : Rule) (text : List ℕ) (at j v : ℕ) (told : j ≡ length (leading_digits 19 (ahead text at))) (worth : v ≡ value 10 (leading_digits 19 (ahead text at))) where
  many : j ≡ length (leading_digits 19 (drop at text))
  many = rw (ahead_is text at) at told

  is : v ≡ value 10 (leading_digits 19 (drop at text))
  is = rw (ahead_is text at) at worth

  place : at + j ≡ at + length (leading_digits 19 (drop at text))
  place = ap (at +◌) many

  -- a part that is refused is so by the rule
  by_rule : part_in (number rule) at (form_of f) (drop at text) ≡ refused (number rule) at → Err (by rule at) ≡ found_of at (part_in (number rule) at (form_of f) (drop at text))
  by_rule e = rw (e, rule_of_number rule)

  pub none_stands : (at + j < length text → ¬ (get_or text (at + j) 0 ≡ dot)) → Err (by rule at) ≡ found_of at (part_in (number rule) at (form_of f) (drop at text))
  none_stands h = by_rule (part_refused f (drop at text) (number rule) at λ ds a e. too_many f short ds (no_part_at 19 text at (at + j) place h ds e a))

  tested : fitting (form_of f) j (eqb (get_or text at 0) 48) v ≡ right f (leading_digits 19 (drop at text))
  tested =
      let D = leading_digits 19 (drop at text) in
      rw (many, first_byte text at, is) (zero_first_lem f D (drop (length D) (drop at text)) (value 10 D) ∙ fitting_is f D)

  module _ (inside : at + j < length text) (dotted : get_or text (at + j) 0 ≡ dot) where
    pub stands_not : fitting (form_of f) j (eqb (get_or text at 0) 48) v ≡ false → Err (by rule at) ≡ found_of at (part_in (number rule) at (form_of f) (drop at text))
    stands_not h =
        let d = part_at 19 text at (at + j) place inside dotted in
        by_rule (part_refused f (drop at text) (number rule) at λ ds a e. let q : ds ≡ leading_digits 19 (drop at text) = cc d.digits in rw q (sym tested ∙ h))

    pub stands : fitting (form_of f) j (eqb (get_or text at 0) 48) v ≡ true
        → Ok (record { value = v; digits = j; next = at + j + 1 }) ≡ found_of at (part_in (number rule) at (form_of f) (drop at text))
    stands h =
        let d = part_at 19 text at (at + j) place inside dotted in
        let D = leading_digits 19 (drop at text) in
        rw (part_taken f (drop at text) (number rule) at D d.dotted d.digits (sym tested ∙ h), many, is)
