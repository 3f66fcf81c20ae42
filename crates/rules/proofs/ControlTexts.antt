-- One control field at the start of a text: one that stands is found with its value, and where none stands its value is 0.
use Prim.Native.Nat.{ℕ, zero, suc, ◌/◌, ◌%◌, ◌≤◌, ◌<◌}
use mathlib.Core.Path.{◌≡◌, refl, sym, ◌∙◌, ap}
use mathlib.Core.Logic.{⊎_elim}
use mathlib.Core.List.{List, ◌++◌}
use Rattle.std.specs.Prelude.{Option, None, Some}
use native.Mathlib.Omega.{arith}
use lib.Dec.{eqb, eqb→eq}
use lib.ListN.{length, get_or, drop}
use Rattle.numeral.proofs.Arithmetic.{lt_or_ge}
use Rattle.rules.specs.Bytes.{upto, hex_digits, hex_digit}
use Rattle.rules.specs.declared.ControlName.{ControlName}
use Rattle.rules.specs.declared.ControlName.TheVariants.{Umi, Att}
use Rattle.rules.specs.ControlFields.{most, field_text, standing, bracket}
use Rattle.rules.specs.TextNumbers.{after, Valued, either, valued, value_in}
use Rattle.rules.specs.Conditions.{Starts}
use Rattle.rules.proofs.Tests.{below_is}
use Rattle.rules.proofs.Answers.{Gives}
use Rattle.rules.proofs.Starts.{after_is, after_of}

-- A hex digit's value is how many stand before it, so each value has its own digit.
pub hex_back : (n : ℕ) → n < 16 → length (upto (hex_digit n) hex_digits) ≡ n
hex_back n l = eqb→eq (length (upto (hex_digit n) hex_digits)) n (below_is (λ n. eqb (length (upto (hex_digit n) hex_digits)) n) 16 tt n l)

one_digit : (n m : ℕ) → n < 16 → m < 16 → hex_digit n ≡ hex_digit m → n ≡ m
one_digit n m l k e = sym (hex_back n l) ∙ ap (λ x. length (upto x hex_digits)) e ∙ hex_back m k

-- A text begins with one field at most, and each value is spelt in its own way.
pub one_field : (f : ControlName) (v w : ℕ) (x y : List ℕ) → v ≤ most f → w ≤ most f → field_text f v ++ x ≡ field_text f w ++ y → (v ≡ w) × (x ≡ y)
one_field Umi v w x y a b e = (omega (arith, ap (λ l. get_or l 5 0) e), ap (drop 7) e)
one_field Att v w x y a b e =
    let h = one_digit (v / 16) (w / 16) (omega arith) (omega arith) (ap (λ l. get_or l 6 0) e) in
    let l = one_digit (v % 16) (w % 16) (omega arith) (omega arith) (ap (λ l. get_or l 7 0) e) in
    (omega (arith, h, l), ap (drop 9) e)

pub other_field : (v w : ℕ) (x y : List ℕ) → ¬ (field_text Umi v ++ x ≡ field_text Att w ++ y)
other_field v w x y e = let d : ◌≡◌ {A = ℕ} 117 97 = ap (λ l. get_or l 1 0) e in omega arith

pub field_opens : (f : ControlName) (v : ℕ) (u x : List ℕ) → u ≡ field_text f v ++ x → Starts bracket u
field_opens Umi v u x e = (_, e)
field_opens Att v u x e = (_, e)

-- The value of a field.
pub valued_is : (f : ControlName) (n : ℕ) (u : List ℕ) → ((valued f n u).value ≤ n) × (u ≡ standing f (valued f n u).value ++ (valued f n u).rest)
valued_is f zero u = (omega arith, refl)
valued_is f (suc n) u = go (after (field_text f (suc n)) u) (after_is (field_text f (suc n)) u) (valued f n u) (valued_is f n u)
  where
    go : (o : Option (List ℕ)) → Gives (λ r. u ≡ field_text f (suc n) ++ r) o → (q : Valued) → (q.value ≤ n) × (u ≡ standing f q.value ++ q.rest)
        → ((either (suc n) o q).value ≤ suc n) × (u ≡ standing f (either (suc n) o q).value ++ (either (suc n) o q).rest)
    go None h q i = (omega (arith, i.0), i.1)
    go (Some r) h q i = (omega arith, h)

-- no field of a value from 1 to n stands at u
abbrev pub NoneUpTo : ControlName → ℕ → List ℕ → Type 0
NoneUpTo f n u = (v : ℕ) (x : List ℕ) → 0 < v → v ≤ n → ¬ (u ≡ field_text f v ++ x)

pub valued_none : (f : ControlName) (n : ℕ) (u : List ℕ) → NoneUpTo f n u → valued f n u ≡ record { value = 0; rest = u }
valued_none f zero u h = refl
valued_none f (suc n) u h = go (after (field_text f (suc n)) u) (after_is (field_text f (suc n)) u) (valued_none f n u (λ v x z l. h v x z (omega arith)))
  where
    go : (o : Option (List ℕ)) → Gives (λ r. u ≡ field_text f (suc n) ++ r) o → valued f n u ≡ record { value = 0; rest = u }
        → either (suc n) o (valued f n u) ≡ record { value = 0; rest = u }
    go None g i = i
    go (Some r) g i = absurd (h (suc n) r (omega arith) (omega arith) g)

pub valued_of : (f : ControlName) (n v : ℕ) (x : List ℕ) → 0 < v → v ≤ n → n ≤ most f → valued f n (field_text f v ++ x) ≡ record { value = v; rest = x }
valued_of f zero v x z l m = absurd (omega arith)
valued_of f (suc n) v x z l m =
    ⊎_elim (λ (k : v < suc n). go (after (field_text f (suc n)) u) (after_is (field_text f (suc n)) u) k (valued_of f n v x z (omega arith) (omega arith)))
    (λ (k : suc n ≤ v). let e : v ≡ suc n = omega arith in rw (e, after_of (field_text f (suc n)) x))
    (lt_or_ge v (suc n))
  where
    u : List ℕ
    u = field_text f v ++ x

    go : (o : Option (List ℕ)) → Gives (λ r. field_text f v ++ x ≡ field_text f (suc n) ++ r) o → v < suc n → valued f n (field_text f v ++ x) ≡ record { value = v; rest = x }
        → either (suc n) o (valued f n (field_text f v ++ x)) ≡ record { value = v; rest = x }
    go None g k i = i
    go (Some r) g k i = absurd (omega (arith, (one_field f v (suc n) x r (omega arith) m g).0))

-- the same of the field that may stand, whatever its largest value
standing_of : (f : ControlName) (n v : ℕ) (w : List ℕ) → v ≤ n → n ≤ most f → (v ≡ 0 → NoneUpTo f n w) → valued f n (standing f v ++ w) ≡ record { value = v; rest = w }
standing_of f n zero w l m h = valued_none f n w (h refl)
standing_of f n (suc v) w l m h = valued_of f n (suc v) w (omega arith) l m

abbrev pub Absent : ControlName → List ℕ → Type 0
Absent f w = NoneUpTo f (most f) w

pub value_is : (f : ControlName) (u : List ℕ) → ((value_in f u).value ≤ most f) × (u ≡ standing f (value_in f u).value ++ (value_in f u).rest)
unfolding value_in
value_is f u = valued_is f (most f) u

pub value_of : (f : ControlName) (v : ℕ) (w : List ℕ) → v ≤ most f → (v ≡ 0 → Absent f w) → value_in f (standing f v ++ w) ≡ record { value = v; rest = w }
unfolding value_in
value_of f v w l h = standing_of f (most f) v w l (omega arith) h

-- where its value is 0, no field stands
pub value_absent : (f : ControlName) (u : List ℕ) → (value_in f u).value ≡ 0 → Absent f u
value_absent f u e zero x z l h = absurd (omega arith)
value_absent f u e (suc v) x z l h = let n : suc v ≡ 0 = rw (h, value_of f (suc v) x l (λ n. absurd (omega arith))) at e in omega arith
