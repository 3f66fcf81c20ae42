-- A part's form and size, by its number of digits, its first digit and its value.
use Prim.Native.Nat.{ℕ, zero, suc, ◌/◌, ◌^◌, ◌≤◌, ◌<◌}
use mathlib.Core.Path.{◌≡◌, refl, sym, ◌∙◌}
use mathlib.Core.Logic.{⊎_elim}
use mathlib.Core.Bool.{Bool, true, false, ◌&&◌, not}
use mathlib.Core.List.{List, [], ◌∷◌}
use native.Mathlib.Omega.{arith}
use native.Mathlib.Nat.{pow-le-pow_right, div-lt_iff_lt-mul, one-le-pow, one-mul}
use lib.Dec.{leb, ltb, eqb, lit<}
use lib.ListN.{length}
use borrow.Author.Tests.{lt-ltb, le-ltb, le-leb, lt-leb, eq-eqb, ne_eqb}
use Rattle.numeral.specs.Numeral.{value}
use Rattle.numeral.proofs.Arithmetic.{lt_or_ge}
use Rattle.rules.specs.Schemes.{company}
use Rattle.rules.specs.Grammar.{plain_number, shaped, sized}
use Rattle.digits.proofs.Parts.{long_value}
use Rattle.parts.specs.Parts.{form_of, Short, plainly, fitting}
use Rattle.parts.specs.declared.parts.Form.{Form}
use Rattle.parts.specs.declared.parts.Form.TheVariants.{Prefix, Digits, Integer, AtMost}

-- a value below 2 ^ b has nothing above its b bits
pub small : (v b : ℕ) → eqb (v / 2 ^ b) 0 ≡ ltb v (2 ^ b)
small v b =
    let pos : 0 < 2 ^ b = one-le-pow b 2 (lit< tt) in
    ⊎_elim
    (λ (l : v < 2 ^ b). let q : v / 2 ^ b < 1 = (div-lt_iff_lt-mul pos).1 (rw one-mul l) in eq-eqb (v / 2 ^ b) 0 (omega arith) ∙ sym (lt-ltb v (2 ^ b) l))
    (λ (m : 2 ^ b ≤ v). ne_eqb (v / 2 ^ b) 0 (λ e. let q : v / 2 ^ b < 1 = omega arith in omega (arith, (div-lt_iff_lt-mul pos).0 q)) ∙ sym (le-ltb v (2 ^ b) m))
    (lt_or_ge v (2 ^ b))

-- the first digit is 0
abbrev pub zero_first : List ℕ → Bool
zero_first [] = false
zero_first (d ∷ ds) = eqb d 0

and_true : (b : Bool) → b ≡ (b && true)
and_true true = refl
and_true false = refl

nonzero : (d : ℕ) → not (eqb d 0) ≡ ltb 0 d
nonzero zero = refl
nonzero (suc d) = rw (ne_eqb (suc d) 0 (λ e. omega arith), lt-ltb 0 (suc d) (omega arith))

pub plainly_is : (ds : List ℕ) → plain_number ds ≡ plainly (length ds) (zero_first ds)
plainly_is [] = refl
plainly_is (d ∷ []) = refl
plainly_is (d ∷ e ∷ ds) = rw (ne_eqb (suc (suc (length ds))) 1 (λ q. omega arith), lt-ltb 1 (suc (suc (length ds))) (omega arith), nonzero d)

-- the test by numbers is the grammar's
pub fitting_is : (f : Form) (ds : List ℕ) → fitting (form_of f) (length ds) (zero_first ds) (value 10 ds) ≡ (shaped (form_of f) ds && sized (form_of f) ds)
fitting_is Prefix ds = and_true (shaped company ds)
fitting_is (Digits n) ds = and_true (eqb (length ds) n)
fitting_is (Integer b) ds = rw (plainly_is ds)
fitting_is (AtMost n) ds = rw (plainly_is ds) (and_true (plainly (length ds) (zero_first ds) && leb (length ds) n))

-- more than nineteen digits are in no form, or too large
pub too_many : (f : Form) → Short f → (ds : List ℕ) → 19 < length ds → (shaped (form_of f) ds && sized (form_of f) ds) ≡ false
too_many Prefix s ds l = rw (le-leb 6 (length ds) (omega arith), lt-leb (length ds) 12 (omega arith))
too_many (Digits n) s ds l = rw (ne_eqb (length ds) n (λ e. omega arith))
too_many (AtMost n) s ds l = rw (lt-leb (length ds) n (omega arith)) (go (plain_number ds))
  where
    go : (t : Bool) → ((t && false) && true) ≡ false
    go true = refl
    go false = refl
too_many (Integer b) s ds l = go (plain_number ds) refl
  where
    go : (t : Bool) → plain_number ds ≡ t → (t && ltb (value 10 ds) (2 ^ b)) ≡ false
    go false e = refl
    go true e =
        let v = long_value 19 ds (lit< tt) l (rw e tt) in
        let p : 2 ^ b ≤ 2 ^ 63 = pow-le-pow_right (lit< tt) s in
        le-ltb (value 10 ds) (2 ^ b) (omega arith)
