-- A text in one of the forms: its symbols, and that the tests of the grammar say what the conditions say.
use Prim.Native.Nat.{ℕ, zero, suc, ◌/◌, ◌^◌}
use mathlib.Core.Path.{◌≡◌, refl}
use mathlib.Core.List.{List, [], ◌∷◌}
use Rattle.std.specs.Prelude.{Option, None, Some}
use mathlib.Core.Bool.{Bool, true, false, not, cond}
use native.Mathlib.Omega.{arith}
use lib.Dec.{T, leb, leb→le, ltb→lt, le→leb, lt→ltb, nleb→lt, nltb→le, eqb→eq, eqb_refl}
use lib.ListN.{length}
use Rattle.numeral.specs.Numeral.{value}
use Rattle.rules.specs.Bytes.{all}
use Rattle.rules.specs.declared.Table.{Table}
use Rattle.rules.specs.Schemes.{Form, company, digits, integer, string, at_most, numeric, counted}
use Rattle.rules.specs.Grammar.{symbol, plain_number, shaped, sized, spelled}
use Rattle.rules.specs.Answers.{kept}
use Rattle.rules.specs.TextNumbers.{symbols_in, formed}
use Rattle.rules.specs.Conditions.{Decimal, Whole, zero_alone, leading, Formed, TooLarge}
use Rattle.rules.proofs.Tests.{is_true, both, and}
use Rattle.rules.proofs.Answers.{Gives, Decides}
use Rattle.rules.proofs.Decimals.{all_digits, digits_all, digits_is, digits_of_lem}
use Rattle.rules.proofs.Spellings.{characters_is, characters_of_lem}
use Rattle.rules.proofs.Rows.{by_count_lem}

-- the text x is the symbols p
abbrev pub Symbols : Form → List ℕ → List ℕ → Type 0
Symbols f x p = T (all (symbol f) p) × (x ≡ spelled f p)

symbols_is : (f : Form) (x : List ℕ) → Gives (Symbols f x) (symbols_in f x)
symbols_is company x = digits_is x
symbols_is (digits b n) x = digits_is x
symbols_is (integer b) x = digits_is x
symbols_is (string b) x = characters_is x
symbols_is (at_most b n) x = digits_is x
symbols_is (numeric b n) x = digits_is x

symbols_of : (f : Form) (p : List ℕ) → T (all (symbol f) p) → symbols_in f (spelled f p) ≡ Some p
symbols_of company p h = digits_of_lem p h
symbols_of (digits b n) p h = digits_of_lem p h
symbols_of (integer b) p h = digits_of_lem p h
symbols_of (string b) p h = characters_of_lem p h
symbols_of (at_most b n) p h = digits_of_lem p h
symbols_of (numeric b n) p h = digits_of_lem p h

symbols_at : (f : Form) (x p : List ℕ) → Symbols f x p → symbols_in f x ≡ Some p
symbols_at f x p s = rw s.1 (symbols_of f p s.0)

-- a text is one list of symbols only
pub one_reading : (f : Form) (x p q : List ℕ) → Symbols f x p → Symbols f x q → p ≡ q
one_reading f x p q s r = cc (symbols_at f x p s, symbols_at f x q r)

pub whole_of : (p : List ℕ) → T (plain_number p) → Whole p
whole_of [] h = absurd h
whole_of (zero ∷ []) h = zero_alone
whole_of (suc d ∷ []) h = leading {d = suc d} (omega arith)
whole_of (d ∷ e ∷ ds) h = leading (ltb→lt 0 d h)

pub whole_is : {p : List ℕ} → Whole p → T (plain_number p)
whole_is zero_alone = tt
whole_is (leading {d = d} {ds = []} h) = tt
whole_is (leading {d = d} {ds = e ∷ ds} h) = lt→ltb 0 d h

decimal_of : (x p : List ℕ) → Symbols company x p → Decimal x p
decimal_of x p s = (all_digits p s.0, s.1)

decimal_is : (x p : List ℕ) → Decimal x p → Symbols company x p
decimal_is x p d = (digits_all p d.0, d.1)

pub formed_of : (f : Form) (x p : List ℕ) → Symbols f x p → T (shaped f p) → Formed f x
formed_of company x p s h =
    let (a, b) = both (leb 6 (length p)) (leb (length p) 12) h in
    (p, decimal_of x p s, leb→le 6 (length p) a, leb→le (length p) 12 b)
formed_of (digits b n) x p s h = (p, decimal_of x p s, eqb→eq (length p) n h)
formed_of (integer b) x p s h = (p, decimal_of x p s, whole_of p h)
formed_of (string b) x p s h = (p, s, ltb→lt 0 (length p) h)
formed_of (at_most b n) x p s h =
    let (w, l) = both (plain_number p) (leb (length p) n) h in
    (p, decimal_of x p s, whole_of p w, leb→le (length p) n l)
formed_of (numeric b n) x p s h = (p, decimal_of x p s, ltb→lt 0 (length p) h)

formed_is : (f : Form) (x : List ℕ) → Formed f x → (p : List ℕ) × Symbols f x p × T (shaped f p)
formed_is company x r =
    (r.0, decimal_is x r.0 r.1, and (leb 6 (length r.0)) (leb (length r.0) 12) (le→leb 6 (length r.0) r.2) (le→leb (length r.0) 12 r.3))
formed_is (digits b n) x r = (r.0, decimal_is x r.0 r.1, rw r.2 (eqb_refl n))
formed_is (integer b) x r = (r.0, decimal_is x r.0 r.1, whole_is r.2)
formed_is (string b) x r = (r.0, r.1, lt→ltb 0 (length r.0) r.2)
formed_is (at_most b n) x r =
    (r.0, decimal_is x r.0 r.1, and (plain_number r.0) (leb (length r.0) n) (whole_is r.2) (le→leb (length r.0) n r.3))
formed_is (numeric b n) x r = (r.0, decimal_is x r.0 r.1, lt→ltb 0 (length r.0) r.2)

pub formed_at : (f : Form) (p : List ℕ) → T (all (symbol f) p) → T (shaped f p) → formed f (spelled f p) ≡ Some p
formed_at f p s h = rw (symbols_of f p s, is_true (shaped f p) h)

-- what is formed, and its size
pub formed_decides : (f : Form) (x : List ℕ) → Decides (¬ (Formed f x)) (λ p. Symbols f x p × T (shaped f p)) (formed f x)
formed_decides f x = go (symbols_in f x) refl (symbols_is f x)
  where
    shape : (p : List ℕ) → Symbols f x p → (b : Bool) → shaped f p ≡ b → Decides (¬ (Formed f x)) (λ p. Symbols f x p × T (shaped f p)) (cond b (Some p) None)
    shape p s true e = (λ not_formed. not_formed (formed_of f x p s (rw e tt)), (s, rw e tt))
    shape p s false e = λ r.
        let (q, u, h) = formed_is f x r in
        rw (one_reading f x q p u s, e) at h

    go : (o : Option (List ℕ)) → symbols_in f x ≡ o → Gives (Symbols f x) o → Decides (¬ (Formed f x)) (λ p. Symbols f x p × T (shaped f p)) (kept (shaped f) o)
    go None e g = λ r.
        let (p, s, h) = formed_is f x r in
        let z : ◌≡◌ {A = ℕ} 0 1 = cc (symbols_at f x p s) in
        omega arith
    go (Some p) e s = shape p s (shaped f p) refl

pub large_of : (f : Form) (x p : List ℕ) → Symbols f x p → T (not (sized f p)) → TooLarge f x
large_of company x p s h = h
large_of (digits b n) x p s h = h
large_of (integer b) x p s h = (p, decimal_of x p s, nltb→le (value 10 p) (2 ^ b) h)
large_of (string b) x p s h = (p, s, nleb→lt (length p) (b / 7) h)
large_of (at_most b n) x p s h = h
large_of (numeric b n) x p s h = (p, decimal_of x p s, nleb→lt (length p) n h)

pub not_large : (f : Form) (x p : List ℕ) → Symbols f x p → T (sized f p) → ¬ (TooLarge f x)
not_large company x p s h r = r
not_large (digits b n) x p s h r = r
not_large (integer b) x p s h r =
    let e = one_reading (integer b) x r.0 p (decimal_is x r.0 r.1) s in
    let k = rw e at r.2 in
    omega (arith, ltb→lt (value 10 p) (2 ^ b) h)
not_large (string b) x p s h r =
    let e = one_reading (string b) x r.0 p r.1 s in
    let k = rw e at r.2 in
    omega (arith, leb→le (length p) (b / 7) h)
not_large (at_most b n) x p s h r = r
not_large (numeric b n) x p s h r =
    let e = one_reading (numeric b n) x r.0 p (decimal_is x r.0 r.1) s in
    let k = rw e at r.2 in
    omega (arith, leb→le (length p) n h)

-- the reference of a table has no size of its own
pub row_not_large : (t : Table) (b n : ℕ) (x : List ℕ) → ¬ (TooLarge (counted t b n) x)
row_not_large t b n x = by_count_lem (λ f. ¬ (TooLarge f x)) t b n (λ r. r) λ r. r
