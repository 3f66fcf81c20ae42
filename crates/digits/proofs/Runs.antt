-- The run of digits that a text begins with: its digits, where it stops, and what it says of the whole text.
use Prim.Native.Nat.{ℕ, zero, suc, ◌+◌, ◌-◌, ◌*◌, ◌^◌, ◌≤◌, ◌<◌}
use Prim.Native.Char.{code}
use mathlib.Core.Path.{◌≡◌, refl, sym, ap, ap₂, ◌∙◌}
use mathlib.Core.List.{List, [], ◌∷◌, ◌++◌, map}
use Rattle.std.specs.Prelude.{None, Some, option_map}
use mathlib.Core.Bool.{Bool, true, false, ◌&&◌, cond}
use native.Mathlib.Omega.{arith}
use native.Mathlib.Numerals.{add-one}
use native.Mathlib.Nat.{lt_of_lt_of_le, pow-le-pow_right}
use lib.Dec.{T, lit<, leb, leb→le}
use lib.ListN.{length, take, drop, get_or, length-drop, length-map}
use lib.Seq.{drop-cons, take-suc, take_all, length-take-le}
use Rattle.numeral.specs.Numeral.{value, Digits}
use Rattle.numeral.proofs.Values.{digits_take, value_nil, value_snoc, value_lt}
use Rattle.rules.specs.Bytes.{all, digits_text}
use Rattle.rules.specs.Grammar.{digit}
use Rattle.rules.specs.TextNumbers.{is_digit, digits_in}
use Rattle.rules.proofs.Tests.{both}
use Rattle.rules.proofs.Decimals.{digits_all}
use Rattle.digits.specs.Digits.{leading_digits}

-- a run that may have n more digits stops where t begins: n is 0, the text ends, or its first byte is no digit
pub data Stop : ℕ → List ℕ → Type 0 where
  full : {t : List ℕ} → Stop 0 t
  ended : {n : ℕ} → Stop n []
  other : {n x : ℕ} {t : List ℕ} → is_digit x ≡ false → Stop n (x ∷ t)

-- ds is the run that t begins with
pub data Leading : ℕ → List ℕ → List ℕ → Type 0 where
  stop : {n : ℕ} {t : List ℕ} → Stop n t → Leading n t []
  more : {n x : ℕ} {t ds : List ℕ} → is_digit x ≡ true → Leading n t ds → Leading (suc n) (x ∷ t) ((x - code "0") ∷ ds)

pub leading : (n : ℕ) (t : List ℕ) → Leading n t (leading_digits n t)
unfolding leading_digits
leading zero t = stop full
leading (suc n) [] = stop ended
leading (suc n) (x ∷ t) = go (is_digit x) refl (leading n t)
  where
    go : (b : Bool) → is_digit x ≡ b → Leading n t (leading_digits n t) → Leading (suc n) (x ∷ t) (cond b ((x - code "0") ∷ leading_digits n t) [])
    go true e r = more e r
    go false e r = stop (other e)

digit_is : (x : ℕ) → is_digit x ≡ true → (code "0" ≤ x) × (x ≤ code "9")
digit_is x e =
    let (l, u) = both (leb (code "0") x) (leb x (code "9")) (rw e tt) in
    (leb→le (code "0") x l, leb→le x (code "9") u)

clash : {X : Type 0} {b : Bool} → b ≡ true → b ≡ false → X
clash e f = let z : ◌≡◌ {A = ℕ} 0 1 = cc in absurd (omega arith)

-- Its digits.

pub run_starts : {n : ℕ} {t ds : List ℕ} → Leading n t ds → t ≡ digits_text ds ++ drop (length ds) t
run_starts (stop s) = refl
run_starts (more {x = x} e r) = let (l, u) = digit_is x e in ap₂ ◌∷◌ (omega arith) (run_starts r)

pub run_digits : {n : ℕ} {t ds : List ℕ} → Leading n t ds → Digits 10 ds
run_digits (stop s) = tt
run_digits (more {x = x} e r) = let (l, u) = digit_is x e in (omega arith, run_digits r)

pub run_symbols : {n : ℕ} {t ds : List ℕ} → Leading n t ds → T (all digit ds)
run_symbols {ds = ds} r = digits_all ds (run_digits r)

pub run_most : {n : ℕ} {t ds : List ℕ} → Leading n t ds → length ds ≤ n
run_most (stop s) = omega arith
run_most (more e r) = omega (arith, run_most r)

pub run_within : {n : ℕ} {t ds : List ℕ} → Leading n t ds → length ds ≤ length t
run_within (stop s) = omega arith
run_within (more e r) = omega (arith, run_within r)

-- Where it stops.

pub run_ends : {n x : ℕ} {t ds u : List ℕ} → Leading n t ds → length ds < n → drop (length ds) t ≡ x ∷ u → is_digit x ≡ false
run_ends (stop full) l e = absurd (omega arith)
run_ends (stop ended) l e = let z : ◌≡◌ {A = ℕ} 0 1 = cc in absurd (omega arith)
run_ends (stop (other f)) l e = cc
run_ends (more f r) l e = run_ends r (omega arith) e

-- the same by places: the run goes on at a digit, and stops at any other byte
pub run_goes : {n : ℕ} {t ds : List ℕ} → Leading n t ds → (i : ℕ) → i < n → i ≤ length ds → i < length t → is_digit (get_or t i 0) ≡ true
    → (i < length ds) × (get_or ds i 0 ≡ get_or t i 0 - code "0")
run_goes (stop s) (suc i) k l m e = absurd (omega arith)
run_goes (stop full) zero k l m e = absurd (omega arith)
run_goes (stop ended) zero k l m e = absurd (omega arith)
run_goes (stop (other f)) zero k l m e = clash e f
run_goes (more f r) zero k l m e = (omega arith, refl)
run_goes (more f r) (suc i) k l m e = let (j, d) = run_goes r i (omega arith) (omega arith) (omega arith) e in (omega arith, d)

pub run_stops : {n : ℕ} {t ds : List ℕ} → Leading n t ds → (i : ℕ) → i ≤ length ds → is_digit (get_or t i 0) ≡ false → length ds ≡ i
run_stops (stop s) i l e = omega arith
run_stops (more f r) zero l e = clash f e
run_stops (more f r) (suc i) l e = ap suc (run_stops r i (omega arith) e)

-- The digits of the whole text.

digits_in_lem : (t : List ℕ) → digits_in t ≡ cond (all is_digit t) (Some (map (◌- code "0") t)) None
digits_in_lem [] = refl
digits_in_lem (x ∷ t) = rw (digits_in_lem t) (go (is_digit x) (all is_digit t))
  where
    go : (a b : Bool) → cond a (option_map ((x - code "0") ∷◌) (cond b (Some (map (◌- code "0") t)) None)) None ≡ cond (a && b) (Some (map (◌- code "0") (x ∷ t))) None
    go true true = refl
    go true false = refl
    go false b = refl

pub digits_some : (t : List ℕ) → all is_digit t ≡ true → digits_in t ≡ Some (map (◌- code "0") t)
digits_some t h = digits_in_lem t ∙ rw h

pub digits_none : (t : List ℕ) → all is_digit t ≡ false → digits_in t ≡ None
digits_none t h = digits_in_lem t ∙ rw h

-- whether all bytes are digits is decided by those behind the run
pub rest_digits : {n : ℕ} {t ds : List ℕ} → Leading n t ds → all is_digit t ≡ all is_digit (drop (length ds) t)
rest_digits (stop s) = refl
rest_digits (more e r) = rw e (rest_digits r)

run_first : {n : ℕ} {t ds : List ℕ} → Leading n t ds → map (◌- code "0") t ≡ ds ++ map (◌- code "0") (drop (length ds) t)
run_first (stop s) = refl
run_first (more {x = x} e r) = ap ((x - code "0") ∷◌) (run_first r)

-- the run is followed by digits, or by nothing
pub run_long : {n : ℕ} {t ds : List ℕ} → Leading n t ds → all is_digit t ≡ true → (es : List ℕ) × (digits_in t ≡ Some (ds ++ es)) × (length ds + length es ≡ length t)
run_long {t = t} {ds = ds} r h =
    let rest : List ℕ = drop (length ds) t in
    (map (◌- code "0") rest, digits_some t h ∙ ap Some (run_first r), rw (length-map rest (◌- code "0"), length-drop (length ds) t) (omega (arith, run_within r)))

pub run_full : {n : ℕ} {t ds : List ℕ} → Leading n t ds → all is_digit t ≡ true → n ≤ length t → length ds ≡ n
run_full (stop full) h l = refl
run_full (stop ended) h l = omega arith
run_full (stop (other e)) h l = clash h (rw e)
run_full (more e r) h l = ap suc (run_full r (rw e at h) (omega arith))

pub run_whole : {n : ℕ} {t ds : List ℕ} → Leading n t ds → length ds ≡ length t → digits_in t ≡ Some ds
run_whole (stop {t = []} s) l = refl
run_whole (stop {t = x ∷ t} s) l = absurd (omega arith)
run_whole (more e r) l = rw (e, run_whole r (omega arith))

-- the run is followed by a byte that is no digit
pub run_breaks : {n x : ℕ} {t ds u : List ℕ} → Leading n t ds → length ds < n → drop (length ds) t ≡ x ∷ u → digits_in t ≡ None
run_breaks {t = t} r l e = digits_none t (rest_digits r ∙ rw (e, run_ends r l e))

-- a text from index i on: the byte there, and the rest
pub drop_next : (t : List ℕ) (i : ℕ) → i < length t → drop i t ≡ get_or t i 0 ∷ drop (i + 1) t
drop_next t i h = rw add-one (drop-cons t i 0 h)

-- Reading the run digit by digit: i digits are passed, and v is their value.
pub record Passed (n : ℕ) (t : List ℕ) (i v : ℕ) : Type 0 where
  pub within : i ≤ length (leading_digits n t)
  pub number : v ≡ value 10 (take i (leading_digits n t))

module _ (n : ℕ) (t : List ℕ) where
  pub passed_none : Passed n t 0 0
  passed_none = record { within = omega arith; number = sym (value_nil 10) }

  pub passed_more : (i v x : ℕ) → Passed n t i v → i < n → i < length t → get_or t i 0 ≡ x → is_digit x ≡ true → Passed n t (i + 1) (v * 10 + (x - code "0"))
  passed_more i v x p k l e f =
      let (m, d) = run_goes (leading n t) i k p.within l (rw e f) in
      record { within = omega arith; number = rw (add-one i, take-suc (leading_digits n t) i 0 m, value_snoc, ← p.number, d, e) }

  pub passed_lt : (i v k : ℕ) → Passed n t i v → i ≤ k → v < 10 ^ k
  passed_lt i v k p l =
      let ds : List ℕ = take i (leading_digits n t) in
      let e : length ds ≡ i = length-take-le i (leading_digits n t) p.within in
      let h : Digits 10 ds = digits_take 10 i (leading_digits n t) (run_digits (leading n t)) in
      rw p.number (lt_of_lt_of_le (rw e at (value_lt 10 ds h)) (pow-le-pow_right (lit< tt) l))

  pub passed_all : (i v : ℕ) → Passed n t i v → length (leading_digits n t) ≤ i → (i ≡ length (leading_digits n t)) × (v ≡ value 10 (leading_digits n t))
  passed_all i v p l = (omega arith, p.number ∙ ap (value 10) (take_all i (leading_digits n t) l))
