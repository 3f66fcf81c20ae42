-- Digits in a text: what `digits_in` gives is right (`-is`), and what is right it gives (`-of`).
use Prim.Native.Nat.{ℕ, ◌+◌, ◌-◌}
use Prim.Native.Char.{code}
use mathlib.Core.Path.{◌≡◌, refl, ap₂}
use mathlib.Core.List.{List, [], ◌∷◌}
use Rattle.std.specs.Prelude.{Option, None, Some, option_map}
use mathlib.Core.Bool.{Bool, true, false, not, cond}
use native.Mathlib.Omega.{arith}
use lib.Dec.{T, leb, eqb, leb→le, ltb→lt, le→leb, lt→ltb, eqb→eq, not_T}
use Rattle.numeral.specs.Numeral.{Digits}
use Rattle.rules.specs.Bytes.{all, digits_text, dot}
use Rattle.rules.specs.Grammar.{digit}
use Rattle.rules.specs.TextNumbers.{is_digit, digits_in}
use Rattle.rules.proofs.Tests.{is_true, both, and}
use Rattle.rules.proofs.Runs.{without}
use Rattle.rules.proofs.Answers.{Gives}

-- the test and the relation of numeral say the same
pub all_digits : (ds : List ℕ) → T (all digit ds) → Digits 10 ds
all_digits [] h = tt
all_digits (d ∷ ds) h = let (a, b) = both (digit d) (all digit ds) h in (ltb→lt d 10 a, all_digits ds b)

pub digits_all : (ds : List ℕ) → Digits 10 ds → T (all digit ds)
digits_all [] h = tt
digits_all (d ∷ ds) h = and (digit d) (all digit ds) (lt→ltb d 10 h.0) (digits_all ds h.1)

pub digits_is : (t : List ℕ) → Gives (λ ds. T (all digit ds) × (t ≡ digits_text ds)) (digits_in t)
digits_is [] = (tt, refl)
digits_is (x ∷ xs) = go (is_digit x) (both (leb (code "0") x) (leb x (code "9"))) (digits_in xs) (digits_is xs)
  where
    go : (b : Bool) → (T b → T (leb (code "0") x) × T (leb x (code "9"))) → (o : Option (List ℕ)) → Gives (λ ds. T (all digit ds) × (xs ≡ digits_text ds)) o
        → Gives (λ ds. T (all digit ds) × (x ∷ xs ≡ digits_text ds)) (cond b (option_map ((x - code "0") ∷◌) o) None)
    go false e o h = tt
    go true e None h = tt
    go true e (Some ds) h =
        let l = leb→le (code "0") x (e tt).0 in
        let u = leb→le x (code "9") (e tt).1 in
        (and (digit (x - code "0")) (all digit ds) (lt→ltb (x - code "0") 10 (omega arith)) h.0, ap₂ ◌∷◌ (omega arith) h.1)

-- a digit's character
character_is : (d : ℕ) → T (digit d) → T (is_digit (code "0" + d)) × ((code "0" + d) - code "0" ≡ d)
character_is d h =
    let u = ltb→lt d 10 h in
    (and (leb (code "0") (code "0" + d)) (leb (code "0" + d) (code "9")) (le→leb (code "0") (code "0" + d) (omega arith)) (le→leb (code "0" + d) (code "9") (omega arith)), omega arith)

pub digits_of_lem : (ds : List ℕ) → T (all digit ds) → digits_in (digits_text ds) ≡ Some ds
digits_of_lem [] h = refl
digits_of_lem (d ∷ ds) h =
    let (a, b) = both (digit d) (all digit ds) h in
    let (t, e) = character_is d a in
    rw (is_true (is_digit (code "0" + d)) t, digits_of_lem ds b, e)

pub no_dots : (ds : List ℕ) → T (all digit ds) → T (without dot (digits_text ds))
no_dots [] h = tt
no_dots (d ∷ ds) h =
    let (a, b) = both (digit d) (all digit ds) h in
    and (not (eqb dot (code "0" + d))) (without dot (digits_text ds)) (not_T (eqb dot (code "0" + d)) λ e. omega (arith, eqb→eq)) (no_dots ds b)
