-- A part of digits ends at the next dot. A run of digits is such a part exactly if a dot follows the run.
use Prim.Native.Nat.{ℕ, zero, suc, ◌+◌, ◌-◌, ◌*◌, ◌^◌, ◌≤◌, ◌<◌}
use Prim.Native.Char.{code}
use mathlib.Core.Path.{◌≡◌, refl, ap, ap₂, ◌∙◌}
use mathlib.Core.Logic.{⊎_elim}
use mathlib.Core.List.{List, [], ◌∷◌, ◌++◌}
use Rattle.std.specs.Prelude.{Some}
use mathlib.Core.Bool.{true}
use native.Mathlib.Omega.{arith}
use native.Mathlib.Nat.{mul-le-mul_right, pow-le-pow_right}
use lib.Dec.{T, lit<, ltb→lt}
use borrow.Author.Tests.{le-leb}
use lib.ListN.{length, drop, get_or, drop_of_length-le}
use lib.Seq.{drop_at, drop-drop}
use Rattle.numeral.specs.Numeral.{value, Digits}
use Rattle.numeral.proofs.Arithmetic.{lt_or_ge}
use Rattle.rules.specs.Bytes.{all, among, upto, behind, dot, digits_text}
use Rattle.rules.specs.Grammar.{plain_number}
use Rattle.rules.specs.TextNumbers.{is_digit, digits_in}
use Rattle.rules.proofs.Runs.{run_is, among_of, upto_of, behind_of_lem}
use Rattle.rules.proofs.Decimals.{all_digits, digits_is, digits_of_lem, no_dots}
use Rattle.digits.specs.Digits.{leading_digits}
use Rattle.digits.proofs.Texts.{length_text}
use Rattle.digits.proofs.Runs.{leading, run_starts, run_symbols, rest_digits, drop_next}

-- the character of the digit d
character_is : (d : ℕ) → d < 10 → (is_digit (code "0" + d) ≡ true) × ((code "0" + d) - code "0" ≡ d)
character_is d h =
    let low : code "0" ≤ code "0" + d = omega arith in
    let high : code "0" + d ≤ code "9" = omega arith in
    (rw (le-leb (code "0") (code "0" + d) low, le-leb (code "0" + d) (code "9") high), omega arith)

-- digits with a dot behind them are the run, if they are n or fewer
run_of : (n : ℕ) (ds u : List ℕ) → Digits 10 ds → length ds ≤ n → leading_digits n (digits_text ds ++ dot ∷ u) ≡ ds
unfolding leading_digits
run_of zero [] u h l = refl
run_of (suc n) [] u h l = refl
run_of zero (d ∷ ds) u h l = absurd (omega arith)
run_of (suc n) (d ∷ ds) u h l = let (b, e) = character_is d h.0 in rw (b, e, run_of n ds u h.1 (omega arith))

-- ds are the digits of the part up to the next dot of t, and u is the text behind that dot
pub record PartIs (t ds u : List ℕ) : Type 0 where
  pub dotted : among dot t ≡ true
  pub text : upto dot t ≡ digits_text ds
  pub digits : digits_in (upto dot t) ≡ Some ds
  pub rest : behind dot t ≡ u

-- no part of n digits or fewer stands up to the next dot of t
abbrev pub NoPart : ℕ → List ℕ → Type 0
NoPart n t = (es : List ℕ) → digits_in (upto dot t) ≡ Some es → among dot t ≡ true → n < length es

module _ (n : ℕ) (t : List ℕ) where
  pub is_a_part : (u : List ℕ) → drop (length (leading_digits n t)) t ≡ dot ∷ u → PartIs t (leading_digits n t) u
  is_a_part u e =
      let ds : List ℕ = leading_digits n t in
      let x : List ℕ = digits_text ds in
      let symbols = run_symbols (leading n t) in
      let f : t ≡ x ++ dot ∷ u = run_starts (leading n t) ∙ ap (x ++◌) e in
      let g : upto dot t ≡ x = ap (upto dot) f ∙ upto_of dot u x (no_dots ds symbols) in
      record {
        dotted = ap (among dot) f ∙ among_of dot u x;
        text = g;
        digits = ap digits_in g ∙ digits_of_lem ds symbols;
        rest = ap (behind dot) f ∙ behind_of_lem dot u x (no_dots ds symbols);
      }

  pub not_a_part : ((u : List ℕ) → ¬ (drop (length (leading_digits n t)) t ≡ dot ∷ u)) → NoPart n t
  not_a_part no_dot es e a =
      let (h, x) = rw e at (digits_is (upto dot t)) in
      let u : List ℕ = behind dot t in
      let f : t ≡ digits_text es ++ dot ∷ u = run_is dot t (rw a tt) ∙ ap (◌++ dot ∷ u) x in
      ⊎_elim
      (λ (l : n < length es). l)
      (λ (m : length es ≤ n).
      let g : leading_digits n t ≡ es = ap (leading_digits n) f ∙ run_of n es u (all_digits es h) m in
      absurd (no_dot u (ap₂ drop (ap length g) f ∙ drop_at (digits_text es) (dot ∷ u) (length es) (length_text es))))
      (lt_or_ge n (length es))

-- The same by places: the run begins at index `at`, and `end` is the index after it.
module _ (n : ℕ) (text : List ℕ) (at end : ℕ) (place : end ≡ at + length (leading_digits n (drop at text))) where
  pub behind_run : drop (length (leading_digits n (drop at text))) (drop at text) ≡ drop end text
  behind_run = drop-drop (length (leading_digits n (drop at text))) at text ∙ rw place

  pub part_at : end < length text → get_or text end 0 ≡ dot → PartIs (drop at text) (leading_digits n (drop at text)) (drop (end + 1) text)
  part_at h e = is_a_part n (drop at text) (drop (end + 1) text) (behind_run ∙ drop_next text end h ∙ ap (◌∷ drop (end + 1) text) e)

  pub no_part_at : (end < length text → ¬ (get_or text end 0 ≡ dot)) → NoPart n (drop at text)
  no_part_at no_dot =
      not_a_part n (drop at text) (λ u f. ⊎_elim
      (λ (l : end < length text). no_dot l (cc (behind_run, drop_next text end l)))
      (λ (m : length text ≤ end). let z : ◌≡◌ {A = ℕ} 0 1 = cc (behind_run, drop_of_length-le text m) in absurd (omega arith))
      (lt_or_ge end (length text)))

  pub rest_at : all is_digit (drop at text) ≡ all is_digit (drop end text)
  rest_at = rest_digits (leading n (drop at text)) ∙ ap (all is_digit) behind_run

-- A number of more than n digits with no leading zero is at least 10 ^ n: with n = 19, too large for 62 bits.
pub long_value : (n : ℕ) (ds : List ℕ) → 0 < n → n < length ds → T (plain_number ds) → 10 ^ n ≤ value 10 ds
unfolding value
long_value n [] z l h = absurd (omega arith)
long_value n (d ∷ []) z l h = absurd (omega arith)
long_value n (d ∷ e ∷ ds) z l h =
    let k : ℕ = length (e ∷ ds) in
    let p : 10 ^ n ≤ 10 ^ k = pow-le-pow_right (lit< tt) (omega arith) in
    let m : 1 * 10 ^ k ≤ d * 10 ^ k = mul-le-mul_right (10 ^ k) (ltb→lt 0 d h) in
    omega arith
