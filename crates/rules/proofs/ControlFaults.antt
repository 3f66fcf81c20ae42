-- Rule 20: what refuses the control fields of a text is a fault that document 02 names, and a text has its fields, or its fault, in one place.
use Prim.Native.Nat.{ℕ, zero, suc, ◌+◌, ◌≤◌, ◌<◌}
use mathlib.Core.Path.{◌≡◌, refl, sym, ◌∙◌, ap}
use mathlib.Core.Logic.{◌⊎◌, inl, inr, ⊎_elim}
use mathlib.Core.List.{List, [], ◌∷◌, ◌++◌, append_assoc}
use Rattle.std.specs.Prelude.{Option, None, Some}
use mathlib.Core.Bool.{Bool, true, false, cond}
use native.Mathlib.Omega.{arith}
use lib.ListN.{length, length-append, length-drop}
use Rattle.numeral.proofs.Arithmetic.{lt_or_ge}
use Rattle.rules.specs.Answers.{refused, taken, ◌>>=◌, given, number_of, place_of}
use Rattle.rules.specs.Bytes.{colon}
use Rattle.rules.specs.declared.ControlFields.{ControlFields}
use Rattle.rules.specs.declared.ControlName.{ControlName}
use Rattle.rules.specs.declared.ControlName.TheVariants.{Umi, Att}
use Rattle.rules.specs.ControlFields.{most, field_text, standing, fields_text, closed, control_text, ControlFits, no_fields, bracket}
use Rattle.rules.specs.Grammar.{start}
use Rattle.rules.specs.TextNumbers.{after, value_in, Controlled, bracketed, opens, control_fields_in}
use Rattle.rules.specs.Conditions.{Begins, Starts, IsField, WrongField, malformed_or_unknown, out_of_order, repeated, of_zero, FaultAt, ControlledBy}
use Rattle.rules.proofs.Answers.{Decides, Settled}
use Rattle.rules.proofs.Starts.{Begun, after_decides, same_rest, begins_behind, begins_after}
use Rattle.rules.proofs.ControlTexts.{value_is, value_absent}
use Rattle.rules.proofs.ControlReads.{opens_is, not_opens, no_colon_there, opened, controlled_of, Fault, fault_of}

-- Whether a field stands at w, zero too, is decided.
abbrev Has : ControlName → ℕ → List ℕ → Type 0
Has f n w = (v : ℕ) × (v ≤ n) × (x : List ℕ) × (w ≡ field_text f v ++ x)

has_field : (f : ControlName) (n : ℕ) (w : List ℕ) → Has f n w ⊎ (¬ (Has f n w))
has_field f zero w = go (after (field_text f 0) w) (after_decides (field_text f 0) w)
  where
    go : (o : Option (List ℕ)) → Decides (¬ (Begun (field_text f 0) w)) (λ x. w ≡ field_text f 0 ++ x) o → Has f 0 w ⊎ (¬ (Has f 0 w))
    go None d = inr λ h. let e : h.0 ≡ 0 = omega (arith, h.1) in d (h.2, rw e at h.3)
    go (Some x) d = inl (0, omega arith, x, d.1)
has_field f (suc n) w = go (after (field_text f (suc n)) w) (after_decides (field_text f (suc n)) w) (has_field f n w)
  where
    go : (o : Option (List ℕ)) → Decides (¬ (Begun (field_text f (suc n)) w)) (λ x. w ≡ field_text f (suc n) ++ x) o → Has f n w ⊎ (¬ (Has f n w))
        → Has f (suc n) w ⊎ (¬ (Has f (suc n) w))
    go (Some x) d i = inl (suc n, omega arith, x, d.1)
    go None d (inl h) = inl (h.0, omega (arith, h.1), h.2, h.3)
    go None d (inr k) =
        inr λ h.
        ⊎_elim (λ (l : h.0 < suc n). k (h.0, omega arith, h.2, h.3)) (λ (l : suc n ≤ h.0). let e : h.0 ≡ suc n = omega (arith, h.1) in d (h.2, rw e at h.3))
        (lt_or_ge h.0 (suc n))

zero_or_more : (n : ℕ) → (n ≡ 0) ⊎ (0 < n)
zero_or_more zero = inl refl
zero_or_more (suc n) = inr (omega arith)

-- The fields that are read, and what stands behind them.
module _ (u : List ℕ) where
  abbrev pub behind_umi : List ℕ
  behind_umi = (value_in Umi u).rest

  abbrev pub behind_both : List ℕ
  behind_both = (value_in Att behind_umi).rest

  abbrev pub fields : ControlFields
  fields = record { umi = (value_in Umi u).value; att = (value_in Att behind_umi).value }

  fields_fit : ControlFits fields
  fields_fit = ((value_is Umi u).0, (value_is Att behind_umi).0)

  fields_are : u ≡ fields_text fields ++ behind_both
  fields_are =
      (value_is Umi u).1 ∙ ap (standing Umi fields.umi ++◌) (value_is Att behind_umi).1
      ∙ sym (append_assoc (standing Umi fields.umi) (standing Att fields.att) behind_both)

  -- where a field is 0, what stands behind it is what stood before it
  no_umi : fields.umi ≡ 0 → u ≡ behind_umi
  no_umi n = let e = (value_is Umi u).1 in rw n at e

  no_att : fields.att ≡ 0 → behind_umi ≡ behind_both
  no_att n = let e = (value_is Att behind_umi).1 in rw n at e

  -- a field behind them is not umi or att where that would be right, so it is wrong
  wrong_umi : (v : ℕ) → IsField Umi v behind_both → WrongField fields behind_both
  wrong_umi v i =
      ⊎_elim (λ (z : v ≡ 0). of_zero Umi (rw z at i))
      (λ (z : 0 < v).
      ⊎_elim (λ (n : fields.umi ≡ 0).
      ⊎_elim (λ (m : fields.att ≡ 0). absurd (value_absent Umi u n v i.1 z i.0 (no_umi n ∙ no_att m ∙ i.2))) (λ (m : 0 < fields.att). out_of_order v i m) (zero_or_more fields.att))
      (λ (n : 0 < fields.umi). repeated Umi v i n) (zero_or_more fields.umi))
      (zero_or_more v)

  wrong_att : (v : ℕ) → IsField Att v behind_both → WrongField fields behind_both
  wrong_att v i =
      ⊎_elim (λ (z : v ≡ 0). of_zero Att (rw z at i))
      (λ (z : 0 < v).
      ⊎_elim (λ (n : fields.att ≡ 0). absurd (value_absent Att behind_umi n v i.1 z i.0 (no_att n ∙ i.2))) (λ (n : 0 < fields.att). repeated Att v i n) (zero_or_more fields.att))
      (zero_or_more v)

  wrong_field : WrongField fields behind_both
  wrong_field =
      ⊎_elim (λ (h : Has Umi (most Umi) behind_both). wrong_umi h.0 (h.1, h.2, h.3))
      (λ (h : ¬ (Has Umi (most Umi) behind_both)).
      ⊎_elim (λ (k : Has Att (most Att) behind_both). wrong_att k.0 (k.1, k.2, k.3)) (λ (k : ¬ (Has Att (most Att) behind_both)). malformed_or_unknown (neither h k)) (has_field Att (most Att) behind_both))
      (has_field Umi (most Umi) behind_both)
    where
      neither : ¬ (Has Umi (most Umi) behind_both) → ¬ (Has Att (most Att) behind_both) → ¬ ((f : ControlName) × (v : ℕ) × IsField f v behind_both)
      neither h k (Umi, v, i) = h (v, i.0, i.1, i.2)
      neither h k (Att, v, i) = k (v, i.0, i.1, i.2)

  -- so is whatever refuses them
  some_fields : ¬ (u ≡ behind_both) → 0 < length (fields_text fields)
  some_fields h = go (fields_text fields) refl
    where
      go : (l : List ℕ) → fields_text fields ≡ l → 0 < length l
      go [] e = absurd (h (fields_are ∙ ap (◌++ behind_both) e))
      go (x ∷ xs) e = omega arith

  fault_is : Starts bracket u → ¬ (Starts colon behind_both) → Fault fields behind_both
  fault_is s k = go (opens behind_both) refl
    where
      go : (b : Bool) → opens behind_both ≡ b → Fault fields behind_both
      go true e = inl (opens_is behind_both e, wrong_field)
      go false e = let shut = not_opens behind_both e in inr (some_fields (λ q. shut (rw q at s)), shut, k)

-- The whole: rule 20, and the control fields of a text that it does not refuse.
colon_behind : (l v : List ℕ) → 0 < length l → l ++ colon ∷ v ≡ closed l ++ v
colon_behind [] v z = absurd (omega arith)
colon_behind (x ∷ xs) v z = sym (append_assoc (x ∷ xs) (colon ∷ []) v)

module _ (t u : List ℕ) (e : t ≡ start ++ u) where
  fault_place : (p : ℕ) → FaultAt t p → control_fields_in (length start) u ≡ refused 20 p
  fault_place p (c, w, fits, q, f, b) =
      let r : u ≡ fields_text c ++ w = same_rest start u (fields_text c ++ w) (sym e ∙ q) in
      let n : length start + length (fields_text c) ≡ p = omega (arith, b.0, ap length b.1, length-drop p t, ap length q, length-append start (fields_text c ++ w), length-append (fields_text c) w) in
      rw r (fault_of (length start) c w fits f ∙ ap (refused 20) n)

  no_fault : (k : Controlled) → control_fields_in (length start) u ≡ taken k → ¬ ((p : ℕ) × FaultAt t p)
  no_fault k q (p, f) = let z : ◌≡◌ {A = ℕ} 20 0 = ap number_of (sym (fault_place p f) ∙ q) in omega arith

  -- what is taken: the control fields, and where the text goes on behind them
  abbrev pub ControlIs : Controlled → Type 0
  ControlIs k = ControlledBy t k.control k.rest × Begins t k.rest k.next

  abbrev unfielded : Controlled
  unfielded = record { control = no_fields; next = length start; rest = u }

  unbracketed : opens u ≡ false → ControlIs unfielded
  unbracketed q = (((omega arith, omega arith), e, λ _. not_opens u q), begins_after t start u e)

  abbrev fields_end : ℕ
  fields_end = length start + length (fields_text (fields u))

  abbrev fielded : List ℕ → Controlled
  fielded v = record { control = fields u; next = fields_end + 1; rest = v }

  closed_fields : (v : List ℕ) → Starts bracket u → behind_both u ≡ colon ∷ v → ControlIs (fielded v)
  closed_fields v s q =
      let l = fields_text (fields u) in
      let r : u ≡ l ++ colon ∷ v = fields_are u ∙ ap (l ++◌) q in
      let z : 0 < length l = some_fields u (λ p. no_colon_there u s (v, p ∙ q)) in
      let b = begins_behind t l (colon ∷ v) (length start) (begins_after t start (l ++ colon ∷ v) (e ∙ ap (start ++◌) r)) in
      ((fields_fit u, e ∙ ap (start ++◌) (r ∙ colon_behind l v z), λ n. absurd (omega (arith, z, ap length n))), begins_behind t (colon ∷ []) v fields_end b)

  fault_at : Starts bracket u → ¬ (Starts colon (behind_both u)) → FaultAt t fields_end
  fault_at s k =
      let l = fields_text (fields u) in
      let w = behind_both u in
      let r : t ≡ start ++ (l ++ w) = e ∙ ap (start ++◌) (fields_are u) in
      (fields u, w, fields_fit u, r, fault_is u s k, begins_behind t l w (length start) (begins_after t start (l ++ w) r))

  pub control_settled : Settled 20 ((p : ℕ) × FaultAt t p) (FaultAt t) ControlIs (control_fields_in (length start) u)
  control_settled = brackets (opens u) refl
    where
      colons : Starts bracket u → (o : Option (List ℕ)) → after (colon ∷ []) (behind_both u) ≡ o → Decides (¬ (Begun (colon ∷ []) (behind_both u))) (λ v. behind_both u ≡ colon ∷ v) o
          → Settled 20 ((p : ℕ) × FaultAt t p) (FaultAt t) ControlIs (given o 20 fields_end >>= λ v. taken (fielded v))
      colons s None q d = let f = fault_at s d in (refl, f, (fields_end, f))
      colons s (Some v) q d = (no_fault (fielded v) (opened (length start) u s ∙ rw q), closed_fields v s d.1)

      brackets : (b : Bool) → opens u ≡ b → Settled 20 ((p : ℕ) × FaultAt t p) (FaultAt t) ControlIs (cond b (bracketed (length start) u) (taken unfielded))
      brackets true q = colons (opens_is u q) (after (colon ∷ []) (behind_both u)) refl (after_decides (colon ∷ []) (behind_both u))
      brackets false q = (no_fault unfielded (rw q), unbracketed q)

-- a text has control fields in one way only
pub one_control : (t u u' : List ℕ) (c c' : ControlFields) → ControlledBy t c u → ControlledBy t c' u' → (c ≡ c') × (u ≡ u')
one_control t u u' c c' h h' =
    let i = length start in
    let e = same_rest start (control_text c ++ u) (control_text c' ++ u') (sym h.1 ∙ h'.1) in
    let r : ◌≡◌ {A = Controlled} (record { control = c; next = i + length (control_text c); rest = u }) (record { control = c'; next = i + length (control_text c'); rest = u' }) = cc (controlled_of i c u h.0 h.2, controlled_of i c' u' h'.0 h'.2, ap (control_fields_in i) e) in
    (ap (λ k. k.control) r, ap (λ k. k.rest) r)

pub one_fault : (t : List ℕ) (p q : ℕ) → FaultAt t p → FaultAt t q → p ≡ q
one_fault t p q f g =
    let (c, w, _, e, _, _) = f in
    let u = fields_text c ++ w in
    ap place_of (sym (fault_place t u e p f) ∙ fault_place t u e q g)
