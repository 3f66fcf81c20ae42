-- The control fields, written one after the other, and the colon behind them.
use Prim.Native.Nat.{ℕ, zero, suc, ◌≤◌}
use mathlib.Core.Path.{◌≡◌, refl}
use mathlib.Core.List.{[], ◌∷◌, ◌++◌}
use mathlib.Core.Logic.{◌⊎◌, ⊎_elim}
use native.Mathlib.Omega.{arith}
use lib.Dec.{lit≤}
use lib.ListN.{length}
use Rattle.rules.specs.declared.ControlFields.{ControlFields}
use Rattle.rules.specs.Bytes.{bytes, colon}
use Rattle.rules.specs.declared.ControlName.{ControlName}
use Rattle.rules.specs.declared.ControlName.TheVariants.{Umi, Att}
use Rattle.rules.specs.ControlFields.{field_text, standing, fields_text, closed, control_text}
use Rattle.digits.specs.declared.Output.{Output}
use Rattle.digits.specs.Pieces.{Adds}
use Rattle.digits.proofs.Joins.{nothing}

-- a field that is zero, and one that is not
pub zero_adds : (f : ControlName) (v : ℕ) (w : Output) → v ≡ 0 → Adds w (standing f v) w
zero_adds f v w e = rw e (nothing w)

pub standing_is : (f : ControlName) (v : ℕ) → ¬ (v ≡ 0) → standing f v ≡ field_text f v
standing_is f zero n = absurd (n refl)
standing_is f (suc v) n = refl

pub umi_is : (v : ℕ) → v ≤ 1 → ¬ (v ≡ 0) → standing Umi v ≡ bytes "[umi=1]"
umi_is v l n = let one : v ≡ 1 = omega arith in rw one

pub umi_length : (v : ℕ) → length (standing Umi v) ≤ 7
umi_length zero = lit≤ tt
umi_length (suc v) = lit≤ tt

-- the colon, if a field stands
pub none_stands : (c : ControlFields) → c.umi ≡ 0 → c.att ≡ 0 → control_text c ≡ []
none_stands c u a = rw (u, a)

pub one_stands : (c : ControlFields) → (¬ (c.umi ≡ 0)) ⊎ (¬ (c.att ≡ 0)) → control_text c ≡ fields_text c ++ colon ∷ []
one_stands c w = go c.umi c.att w
  where
    go : (u a : ℕ) → (¬ (u ≡ 0)) ⊎ (¬ (a ≡ 0)) → closed (standing Umi u ++ standing Att a) ≡ (standing Umi u ++ standing Att a) ++ colon ∷ []
    go zero zero w = absurd (⊎_elim (λ n. n refl) (λ n. n refl) w)
    go zero (suc a) w = refl
    go (suc u) a w = refl
