-- A component by its bytes: how many there are, whether all are digits, and what the first is.
use Prim.Native.Nat.{ℕ, ◌-◌, ◌≤◌, ◌<◌}
use Prim.Native.Char.{code}
use mathlib.Core.Path.{◌≡◌, refl, sym, ap, ◌∙◌}
use mathlib.Core.Bool.{Bool, true, false, ◌&&◌, cond}
use mathlib.Core.List.{List, [], ◌∷◌, map}
use Rattle.std.specs.Prelude.{Option, None, Some, option_map}
use Rattle.std.specs.Option.{is_some}
use native.Mathlib.Omega.{arith}
use lib.Dec.{leb, ltb, leb→le}
use lib.ListN.{length, length-map, get_or}
use borrow.Author.Tests.{lt-ltb, le-ltb, lt-leb, le-leb}
use Rattle.rules.specs.Bytes.{all}
use Rattle.rules.specs.Grammar.{plain_number}
use Rattle.rules.specs.Answers.{kept}
use Rattle.rules.specs.TextNumbers.{is_digit, digits_in, characters_in}
use Rattle.rules.proofs.Tests.{both}
use Rattle.digits.proofs.Runs.{digits_some, digits_none}
use Rattle.alphabet.specs.Strings.{string_part}
use Rattle.identities.specs.declared.Component.TheVariants.{Padded, PaddedOrEmpty, UpTo, Number, Characters}
use Rattle.identities.specs.Numbers.{holds, some_of, is}

-- the digits of a text of bytes
abbrev values : List ℕ → List ℕ
values x = map (◌- code "0") x

by_digits : (test : List ℕ → Bool) (x : List ℕ) → holds test (digits_in x) ≡ all is_digit x && test (values x)
by_digits test x = go (all is_digit x) refl
  where
    go : (b : Bool) → all is_digit x ≡ b → holds test (digits_in x) ≡ b && test (values x)
    go true e = rw (digits_some x e)
    go false e = rw (digits_none x e)

-- a test that fails, or holds, whatever the digits
fails : (a b : Bool) → b ≡ false → a && b ≡ false
fails true b e = e
fails false b e = refl

stays : (a b : Bool) → b ≡ true → a && b ≡ a
stays true b e = e
stays false b e = refl

values_length : (x : List ℕ) → length (values x) ≡ length x
values_length x = length-map x (◌- code "0")

module _ (x : List ℕ) where
  pub padded_some : ¬ (length x ≡ 0) → all is_digit x ≡ is Padded x
  padded_some n = sym (by_digits some_of x ∙ stays (all is_digit x) (some_of (values x)) (lt-ltb 0 (length (values x)) (omega (arith, values_length x))))

  pub padded_or_empty : all is_digit x ≡ is PaddedOrEmpty x
  padded_or_empty = sym (by_digits (λ _. true) x ∙ stays (all is_digit x) true refl)

  module _ (n : ℕ) where
    counted : ℕ → Bool
    counted m = ltb 0 m && leb m n

    pub too_many : n < length x → false ≡ is (UpTo n) x
    too_many l = sym (by_digits (λ ds. some_of ds && leb (length ds) n) x ∙ fails (all is_digit x) _ (fails (some_of (values x)) (leb (length (values x)) n) (lt-leb (length (values x)) n (omega (arith, values_length x)))))

    pub not_too_many : length x ≤ n → is Padded x ≡ is (UpTo n) x
    not_too_many l =
        by_digits some_of x
        ∙ sym (by_digits (λ ds. some_of ds && leb (length ds) n) x ∙ ap (all is_digit x &&◌) (stays (some_of (values x)) (leb (length (values x)) n) (le-leb (length (values x)) n (omega (arith, values_length x)))))

-- a number with no leading zero
pub short_number : (x : List ℕ) → length x < 2 → is Padded x ≡ is Number x
short_number [] l = refl
short_number (a ∷ []) l = by_digits some_of (a ∷ []) ∙ sym (by_digits plain_number (a ∷ []))
short_number (a ∷ b ∷ t) l = absurd (omega arith)

pub leading_zero : (x : List ℕ) → 2 ≤ length x → get_or x 0 0 ≡ code "0" → false ≡ is Number x
leading_zero [] l e = absurd (omega arith)
leading_zero (a ∷ []) l e = absurd (omega arith)
leading_zero (a ∷ b ∷ t) l e = sym (by_digits plain_number (a ∷ b ∷ t) ∙ fails (all is_digit (a ∷ b ∷ t)) (ltb 0 (a - code "0")) (le-ltb 0 (a - code "0") (omega arith)))

pub no_leading_zero : (x : List ℕ) → 2 ≤ length x → ¬ (get_or x 0 0 ≡ code "0") → all is_digit x ≡ is Number x
no_leading_zero [] l n = absurd (omega arith)
no_leading_zero (a ∷ []) l n = absurd (omega arith)
no_leading_zero (a ∷ b ∷ t) l n = sym (by_digits plain_number (a ∷ b ∷ t) ∙ go (all is_digit (a ∷ b ∷ t)) refl)
  where
    go : (q : Bool) → all is_digit (a ∷ b ∷ t) ≡ q → q && ltb 0 (a - code "0") ≡ q
    go false e = refl
    go true e =
        let (d, _) = both (is_digit a) (all is_digit (b ∷ t)) (rw e tt) in
        let (m, _) = both (leb (code "0") a) (leb a (code "9")) d in
        lt-ltb 0 (a - code "0") (omega (arith, leb→le (code "0") a m))

-- characters
pub some_characters : (x : List ℕ) → is_some (option_map length (string_part x)) ≡ is Characters x
some_characters x = go (characters_in x)
  where
    found : (cs : List ℕ) (b : Bool) → is_some (option_map length (cond b (Some cs) None)) ≡ b
    found cs true = refl
    found cs false = refl

    go : (o : Option (List ℕ)) → is_some (option_map length (kept some_of o)) ≡ holds some_of o
    go None = refl
    go (Some cs) = found cs (some_of cs)
