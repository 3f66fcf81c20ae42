-- A control field at the start of a text u, by its bytes: where it stands, and where it doesn't.
use Prim.Native.Char.{code}
use Prim.Native.Nat.{ℕ, zero, suc, ◌+◌, ◌-◌, ◌*◌, ◌/◌, ◌%◌, ◌≤◌, ◌<◌}
use mathlib.Core.Path.{◌≡◌, refl, sym, ◌∙◌, ap}
use mathlib.Core.List.{List, ◌∷◌, ◌++◌}
use mathlib.Core.Bool.{Bool, true, false, cond}
use Rattle.std.specs.Prelude.{Option, None, Some, unwrap_or, option_map, option_and_then}
use native.Mathlib.Omega.{arith}
use native.Mathlib.Nat.{add-zero}
use lib.Dec.{eqb}
use lib.ListN.{length, get_or, take, drop, length-drop}
use lib.Seq.{drop-cons, get_or-drop}
use borrow.Author.Tests.{ne_eqb}
use Rattle.rules.specs.Bytes.{bytes, hex_digit}
use Rattle.rules.specs.declared.ControlName.{ControlName}
use Rattle.rules.specs.declared.ControlName.TheVariants.{Umi, Att}
use Rattle.rules.specs.ControlFields.{most, field_text, standing}
use Rattle.rules.specs.TextNumbers.{after, value_in}
use Rattle.rules.proofs.Starts.{after_is, after_of}
use Rattle.rules.proofs.ControlTexts.{Absent, value_of}
use Rattle.digits.specs.Digits.{hex_value}
use Rattle.digits.specs.Starts.{begun}
use Rattle.digits.proofs.Starts.{begun_is, begun_not}
use Rattle.digits.proofs.Hexes.{digit_of_value, value_of_digit}
use Rattle.parts.proofs.Runs.{from_index}
use Rattle.parts.specs.Controls.{two_digits, valued_at, standing_at}
use Rattle.parts.specs.declared.control.Valued.{Valued}

-- Whichever field it is.
pub absent_if : (f : ControlName) (i : ℕ) (u : List ℕ) → Absent f u → None ≡ standing_at f i u
absent_if f i u h = rw (value_of f 0 u (omega arith) (λ _. h))

pub stands_if : (f : ControlName) (i v : ℕ) (u r : List ℕ) → 0 < v → v ≤ most f → u ≡ field_text f v ++ r
    → ◌≡◌ {A = Option Valued} (Some (record { value = v; next = i + length (field_text f v) })) (standing_at f i u)
stands_if f i zero u r z l e = absurd (omega arith)
stands_if f i (suc v) u r z l e = rw (e, value_of f (suc v) r l (λ n. absurd (omega arith)), ne_eqb (suc v) 0 (λ q. omega arith))

-- a field that does not stand there has the value 0
pub field_is : (f : ControlName) (i : ℕ) (u : List ℕ) → ◌≡◌ {A = Valued} (unwrap_or (standing_at f i u) (record { value = 0; next = i })) (valued_at f i u)
field_is f i u = go (value_in f u).value refl
  where
    go : (v : ℕ) → (value_in f u).value ≡ v
        → ◌≡◌ {A = Valued} (unwrap_or (cond (eqb v 0) None (Some (record { value = v; next = i + length (standing f v) }))) (record { value = 0; next = i })) (record { value = v; next = i + length (standing f v) })
    go zero e = rw (add-zero i)
    go (suc v) e = rw (ne_eqb (suc v) 0 (λ q. omega arith))

-- a text that begins with s, seen from there
begun_by : (s u : List ℕ) → begun (after s u) ≡ true → u ≡ s ++ drop (length s) u
begun_by s u e = let (_, q) = begun_is s u (length s) refl e in let g = after_is s u in rw q at g

not_begun : (s u r : List ℕ) → begun (after s u) ≡ false → ¬ (u ≡ s ++ r)
not_begun s u r e q = let z : ◌≡◌ {A = ℕ} 0 1 = cc (begun_not s u e, after_of s r, ap (after s) q) in omega arith

-- umi: its only value is 1
module _ (t : List ℕ) (i : ℕ) (inside : i ≤ length t) (r : Bool) (e : r ≡ begun (after (bytes "[umi=1]") (take (length t - i) (drop i t)))) where
  seen : begun (after (bytes "[umi=1]") (drop i t)) ≡ r
  seen = sym (rw (from_index t i inside) at e)

  pub umi_stands : r ≡ true → ◌≡◌ {A = Option Valued} (Some (record { value = 1; next = i + 7 })) (standing_at Umi i (drop i t))
  umi_stands b = stands_if Umi i 1 (drop i t) (drop 7 (drop i t)) (omega arith) (omega arith) (begun_by (bytes "[umi=1]") (drop i t) (seen ∙ b))

  pub umi_absent : r ≡ false → None ≡ standing_at Umi i (drop i t)
  umi_absent b = absent_if Umi i (drop i t) λ v x z l q. let one : v ≡ 1 = omega arith in not_begun (bytes "[umi=1]") (drop i t) x (seen ∙ b) (rw one at q)

-- att: the two digits
two_digits_lem : (h l v : ℕ) → two_digits h l ≡ Some v → (hex_digit (v / 16) ≡ h) × (hex_digit (v % 16) ≡ l) × (v ≤ 255)
two_digits_lem h l v e = go (hex_value h) refl (hex_value l) refl e
  where
    go : (a : Option ℕ) → hex_value h ≡ a → (b : Option ℕ) → hex_value l ≡ b → option_and_then (λ x. option_map (λ y. 16 * x + y) b) a ≡ Some v
        → (hex_digit (v / 16) ≡ h) × (hex_digit (v % 16) ≡ l) × (v ≤ 255)
    go (Some x) p (Some y) q e =
        let (m, i) = digit_of_value h x p in
        let (n, j) = digit_of_value l y q in
        let s : 16 * x + y ≡ v = cc in
        let high : v / 16 ≡ x = omega arith in
        let low : v % 16 ≡ y = omega arith in
        (rw high i, rw low j, omega arith)
    go (Some x) p None q e = let z : ◌≡◌ {A = ℕ} 0 1 = cc in absurd (omega arith)
    go None p b q e = let z : ◌≡◌ {A = ℕ} 0 1 = cc in absurd (omega arith)

two_of : (v : ℕ) → v ≤ 255 → two_digits (hex_digit (v / 16)) (hex_digit (v % 16)) ≡ Some v
two_of v l =
    let e : 16 * (v / 16) + v % 16 ≡ v = omega arith in
    rw (value_of_digit (v / 16) (omega arith), value_of_digit (v % 16) (omega arith)) (ap Some e)

-- the bytes of a field att, and a text with these bytes
att_bytes : (v : ℕ) (u x : List ℕ) → v ≤ 255 → u ≡ field_text Att v ++ x
    → (9 ≤ length u) × (u ≡ bytes "[att=x" ++ drop 6 u) × (get_or u 8 0 ≡ code "]") × (two_digits (get_or u 6 0) (get_or u 7 0) ≡ Some v)
att_bytes v u x l e = rw e (omega arith, refl, refl, two_of v l)

module _ (u : List ℕ) (long : 9 ≤ length u) (begins : u ≡ bytes "[att=x" ++ drop 6 u) where
  behind_x : drop 6 u ≡ get_or u 6 0 ∷ get_or u 7 0 ∷ get_or u 8 0 ∷ drop 9 u
  behind_x = drop-cons u 6 0 (omega arith) ∙ ap (get_or u 6 0 ∷◌) (drop-cons u 7 0 (omega arith) ∙ ap (get_or u 7 0 ∷◌) (drop-cons u 8 0 (omega arith)))

  att_is : get_or u 8 0 ≡ code "]" → (v : ℕ) → two_digits (get_or u 6 0) (get_or u 7 0) ≡ Some v → (v ≤ 255) × (u ≡ field_text Att v ++ drop 9 u)
  att_is b v e =
      let (h, l, k) = two_digits_lem (get_or u 6 0) (get_or u 7 0) v e in
      (k, begins ∙ ap (bytes "[att=x" ++◌) (behind_x ∙ rw (h, l, b)))

-- att in a text t at an index, by the bytes that are looked at in turn
module _ (t : List ℕ) (i : ℕ) where
  byte_at : (k : ℕ) → get_or (drop i t) k 0 ≡ get_or t (i + k) 0
  byte_at k = get_or-drop i t k 0

  absent_by : ((v : ℕ) (x : List ℕ) → 0 < v → v ≤ 255 → ¬ (drop i t ≡ field_text Att v ++ x)) → None ≡ standing_at Att i (drop i t)
  absent_by h = absent_if Att i (drop i t) h

  pub att_short : length t - i < 9 → None ≡ standing_at Att i (drop i t)
  att_short l = absent_by λ v x z k e. omega (arith, (att_bytes v (drop i t) x k e).0, length-drop i t)

  pub att_unbracketed : ¬ (get_or t (i + 8) 0 ≡ code "]") → None ≡ standing_at Att i (drop i t)
  att_unbracketed n = absent_by λ v x z k e. n (sym (byte_at 8) ∙ (att_bytes v (drop i t) x k e).2)

  same_digits : (v : ℕ) (x : List ℕ) → v ≤ 255 → drop i t ≡ field_text Att v ++ x → two_digits (get_or t (i + 6) 0) (get_or t (i + 7) 0) ≡ Some v
  same_digits v x k e = rw (byte_at 6, byte_at 7) at (att_bytes v (drop i t) x k e).3

  pub att_undigited : None ≡ two_digits (get_or t (i + 6) 0) (get_or t (i + 7) 0) → None ≡ standing_at Att i (drop i t)
  att_undigited n = absent_by λ v x z k e. let q : ◌≡◌ {A = ℕ} 0 1 = cc (same_digits v x k e) in omega arith

  pub att_zero : (w : ℕ) → w ≡ 0 → Some w ≡ two_digits (get_or t (i + 6) 0) (get_or t (i + 7) 0) → None ≡ standing_at Att i (drop i t)
  att_zero w n d = absent_by λ v x z k e. let q : w ≡ v = cc (same_digits v x k e) in omega arith

  module _ (inside : i ≤ length t) (r : Bool) (e : r ≡ begun (after (bytes "[att=x") (take (length t - i) (drop i t)))) where
    begins_so : begun (after (bytes "[att=x") (drop i t)) ≡ r
    begins_so = sym (rw (from_index t i inside) at e)

    pub att_other : r ≡ false → None ≡ standing_at Att i (drop i t)
    att_other b = absent_by λ v x z k q. not_begun (bytes "[att=x") (drop i t) _ (begins_so ∙ b) (att_bytes v (drop i t) x k q).1

    pub att_stands : r ≡ true → 9 ≤ length t - i → get_or t (i + 8) 0 ≡ code "]" → (v : ℕ) → Some v ≡ two_digits (get_or t (i + 6) 0) (get_or t (i + 7) 0) → ¬ (v ≡ 0)
        → ◌≡◌ {A = Option Valued} (Some (record { value = v; next = i + 9 })) (standing_at Att i (drop i t))
    att_stands b l k v d n =
        let (m, q) = att_is (drop i t) (omega (arith, length-drop i t)) (begun_by (bytes "[att=x") (drop i t) (begins_so ∙ b)) (byte_at 8 ∙ k) v (rw (byte_at 6, byte_at 7) (sym d)) in
        stands_if Att i v (drop i t) (drop 9 (drop i t)) (omega arith) m q
