-- The control fields of a text: those that are in order are read, and a fault behind them is refused where it stands.
use Prim.Native.Nat.{ℕ, zero, suc, ◌+◌, ◌<◌}
use mathlib.Core.Path.{◌≡◌, refl, sym, ◌∙◌, ap}
use mathlib.Core.Logic.{◌⊎◌, inl, inr}
use mathlib.Core.List.{List, [], ◌∷◌, ◌++◌, append_assoc}
use Rattle.std.specs.Prelude.{Option, None, Some}
use mathlib.Core.Bool.{Bool, true, false, cond}
use native.Mathlib.Omega.{arith}
use native.Mathlib.Nat.{add-zero}
use lib.Dec.{eqb→eq}
use lib.ListN.{length, get_or, length-append}
use Rattle.rules.specs.Answers.{Answer, refused, taken, ◌>>=◌, given}
use Rattle.rules.specs.Bytes.{colon}
use Rattle.rules.specs.declared.ControlFields.{ControlFields}
use Rattle.rules.specs.declared.ControlName.TheVariants.{Umi, Att}
use Rattle.rules.specs.ControlFields.{standing, fields_text, closed, control_text, ControlFits, no_fields, bracket}
use Rattle.rules.specs.TextNumbers.{after, Valued, value_in, Controlled, bracketed, opens, control_fields_in}
use Rattle.rules.specs.Conditions.{Starts, WrongField, malformed_or_unknown, out_of_order, repeated, of_zero, NoColon}
use Rattle.rules.proofs.Answers.{Decides}
use Rattle.rules.proofs.Starts.{Begun, after_decides}
use Rattle.rules.proofs.ControlTexts.{one_field, other_field, field_opens, Absent, value_of}

-- A bracket, and a colon.
true_false : ¬ (◌≡◌ {A = Bool} true false)
true_false e = let n : ◌≡◌ {A = ℕ} 0 1 = ap (λ b. cond b 0 1) e in omega arith

pub opens_of : (u : List ℕ) → Starts bracket u → opens u ≡ true
opens_of u s = rw s.1

pub opens_is : (u : List ℕ) → opens u ≡ true → Starts bracket u
opens_is [] e = absurd (true_false (sym e))
opens_is (x ∷ xs) e = (xs, ap (◌∷ xs) (eqb→eq x bracket (rw e tt)))

pub opens_not : (u : List ℕ) → ¬ (Starts bracket u) → opens u ≡ false
opens_not u h = go (opens u) refl
  where
    go : (b : Bool) → opens u ≡ b → b ≡ false
    go true e = absurd (h (opens_is u e))
    go false e = refl

pub not_opens : (u : List ℕ) → opens u ≡ false → ¬ (Starts bracket u)
not_opens u e s = true_false (sym (opens_of u s) ∙ e)

no_colon : (w : List ℕ) → ¬ (Starts colon w) → after (colon ∷ []) w ≡ None
no_colon w h = go (after (colon ∷ []) w) (after_decides (colon ∷ []) w)
  where
    go : (o : Option (List ℕ)) → Decides (¬ (Begun (colon ∷ []) w)) (λ u. w ≡ colon ∷ u) o → o ≡ None
    go None d = refl
    go (Some r) d = absurd (h (r, d.1))

-- no field that would be right stands at w, behind the fields of c
abbrev NoneRight : ControlFields → List ℕ → Type 0
NoneRight c w = (c.umi ≡ 0 → c.att ≡ 0 → Absent Umi w) × (c.att ≡ 0 → Absent Att w)

shut_right : (c : ControlFields) (w : List ℕ) → ¬ (Starts bracket w) → NoneRight c w
shut_right c w h = (λ _ _ v x z l e. h (field_opens Umi v w x e), λ _ v x z l e. h (field_opens Att v w x e))

wrong_right : (c : ControlFields) (w : List ℕ) → WrongField c w → NoneRight c w
wrong_right c w (malformed_or_unknown h) = (λ _ _ v x z l e. h (Umi, v, (l, x, e)), λ _ v x z l e. h (Att, v, (l, x, e)))
wrong_right c w (out_of_order v i k) = (λ _ n. absurd (omega arith), λ n. absurd (omega arith))
wrong_right c w (repeated Umi v i k) = (λ n _. absurd (omega arith), λ _ v' x z l e. other_field v v' i.1 x (sym i.2 ∙ e))
wrong_right c w (repeated Att v i k) = (λ _ n. absurd (omega arith), λ n. absurd (omega arith))
wrong_right c w (of_zero Umi i) = (
  λ _ _ v x z l e. omega (arith, (one_field Umi 0 v i.1 x i.0 l (sym i.2 ∙ e)).0),
  λ _ v x z l e. other_field 0 v i.1 x (sym i.2 ∙ e),
)
wrong_right c w (of_zero Att i) = (
  λ _ _ v x z l e. other_field v 0 x i.1 (sym e ∙ i.2),
  λ _ v x z l e. omega (arith, (one_field Att 0 v i.1 x i.0 l (sym i.2 ∙ e)).0),
)

-- The reader reads umi, then att behind it, then the colon.
abbrev as_read : ℕ → Valued → Valued → Answer Controlled
as_read i m a =
    let c : ControlFields = record { umi = m.value; att = a.value } in
    given (after (colon ∷ []) a.rest) 20 (i + length (fields_text c)) >>= λ v. taken (record { control = c; next = i + length (fields_text c) + 1; rest = v })

in_order : (i : ℕ) (u : List ℕ) → bracketed i u ≡ as_read i (value_in Umi u) (value_in Att (value_in Umi u).rest)
in_order i u = refl

-- What is right is given.
module _ (c : ControlFields) (w : List ℕ) (fits : ControlFits c) (right : NoneRight c w) where
  att_of : value_in Att (standing Att c.att ++ w) ≡ record { value = c.att; rest = w }
  att_of = value_of Att c.att w fits.1 right.1

  umi_of : value_in Umi (fields_text c ++ w) ≡ record { value = c.umi; rest = standing Att c.att ++ w }
  umi_of =
      ap (value_in Umi) (append_assoc (standing Umi c.umi) (standing Att c.att) w)
      ∙ value_of Umi c.umi (standing Att c.att ++ w) fits.0 λ n. absent n c.att (right.0 n)
    where
      absent : c.umi ≡ 0 → (a : ℕ) → (a ≡ 0 → Absent Umi w) → Absent Umi (standing Att a ++ w)
      absent n zero h = h refl
      absent n (suc a) h = λ v x z l e. other_field v (suc a) x w (sym e)

  pub bracketed_of : (i : ℕ) → bracketed i (fields_text c ++ w) ≡ as_read i (record { value = c.umi; rest = standing Att c.att ++ w }) (record { value = c.att; rest = w })
  bracketed_of i = in_order i (fields_text c ++ w) ∙ rw (umi_of, att_of)

-- fields that stand begin with a bracket
fields_open : (c : ControlFields) (x : ℕ) (xs : List ℕ) → fields_text c ≡ x ∷ xs → x ≡ bracket
fields_open c x xs e = go c.umi c.att e
  where
    go : (u a : ℕ) → standing Umi u ++ standing Att a ≡ x ∷ xs → x ≡ bracket
    go zero zero e = let n = ap length e in absurd (omega arith)
    go zero (suc a) e = sym (ap (λ l. get_or l 0 0) e)
    go (suc u) a e = sym (ap (λ l. get_or l 0 0) e)

no_fields_lem : (c : ControlFields) → fields_text c ≡ [] → c ≡ no_fields
no_fields_lem c e = go c.umi c.att e
  where
    go : (u a : ℕ) → standing Umi u ++ standing Att a ≡ [] → ◌≡◌ {A = ControlFields} (record { umi = u; att = a }) no_fields
    go zero zero e = refl
    go zero (suc a) e = let n = ap length e in absurd (omega arith)
    go (suc u) a e = let n = ap length e in absurd (omega arith)

-- where a bracket follows, the fields are read
pub opened : (i : ℕ) (u : List ℕ) → Starts bracket u → control_fields_in i u ≡ bracketed i u
opened i u s = rw (opens_of u s)

fields_start : (c : ControlFields) (w : List ℕ) → (0 < length (fields_text c)) ⊎ Starts bracket w → Starts bracket (fields_text c ++ w)
fields_start c w h = go (fields_text c) refl h
  where
    go : (l : List ℕ) → fields_text c ≡ l → (0 < length l) ⊎ Starts bracket w → Starts bracket (l ++ w)
    go [] e (inl z) = absurd (omega arith)
    go [] e (inr s) = s
    go (x ∷ xs) e h = (xs ++ w, ap (◌∷ (xs ++ w)) (fields_open c x xs e))

pub controlled_of : (i : ℕ) (c : ControlFields) (u : List ℕ) → ControlFits c → (fields_text c ≡ [] → ¬ (Starts bracket u))
    → control_fields_in i (control_text c ++ u) ≡ taken (record { control = c; next = i + length (control_text c); rest = u })
controlled_of i c u fits shut = go (fields_text c) refl
  where
    no_bracket : ¬ (Starts bracket (colon ∷ u))
    no_bracket s = let d : ◌≡◌ {A = ℕ} 58 91 = ap (λ l. get_or l 0 0) s.1 in omega arith

    go : (l : List ℕ) → fields_text c ≡ l → control_fields_in i (closed l ++ u) ≡ taken (record { control = c; next = i + length (closed l); rest = u })
    go [] e = rw (opens_not u (shut e), no_fields_lem c e, add-zero i)
    go (x ∷ xs) e =
        let q : closed (x ∷ xs) ++ u ≡ fields_text c ++ colon ∷ u = append_assoc (x ∷ xs) (colon ∷ []) u ∙ ap (◌++ colon ∷ u) (sym e) in
        let n : i + length (fields_text c) + 1 ≡ i + length (closed (x ∷ xs)) = omega (arith, ap length e, length-append (x ∷ xs) (colon ∷ [])) in
        ap (control_fields_in i) q
        ∙ opened i (fields_text c ++ colon ∷ u) (fields_start c (colon ∷ u) (inl (omega (arith, ap length e))))
        ∙ bracketed_of c (colon ∷ u) fits (shut_right c (colon ∷ u) no_bracket) i
        ∙ ap (λ n. taken (record { control = c; next = n; rest = u })) n

-- a fault behind fields that are right refuses the text there
abbrev pub Fault : ControlFields → List ℕ → Type 0
Fault c w = (Starts bracket w × WrongField c w) ⊎ NoColon c w

pub no_colon_there : (w : List ℕ) → Starts bracket w → ¬ (Starts colon w)
no_colon_there w s t = let d : ◌≡◌ {A = ℕ} 91 58 = ap (λ l. get_or l 0 0) (sym s.1 ∙ t.1) in omega arith

fault_right : (c : ControlFields) (w : List ℕ) → Fault c w → NoneRight c w × (¬ (Starts colon w)) × Starts bracket (fields_text c ++ w)
fault_right c w (inl (s, h)) = (wrong_right c w h, no_colon_there w s, fields_start c w (inr s))
fault_right c w (inr (z, h, k)) = (shut_right c w h, k, fields_start c w (inl z))

pub fault_of : (i : ℕ) (c : ControlFields) (w : List ℕ) → ControlFits c → Fault c w → control_fields_in i (fields_text c ++ w) ≡ refused 20 (i + length (fields_text c))
fault_of i c w fits f =
    let (right, k, s) = fault_right c w f in
    opened i (fields_text c ++ w) s ∙ bracketed_of c w fits right i ∙ rw (no_colon w k)
