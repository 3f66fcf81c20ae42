-- The groups of a string: refused by rule 19, or characters and then zeros.
use Prim.Native.Nat.{ℕ, zero, suc, ◌+◌, ◌-◌, ◌≤◌, ◌<◌}
use mathlib.Core.Path.{◌≡◌, refl, ◌∙◌, ap, ap₂}
use mathlib.Core.Logic.{inl, inr, ⊎_elim}
use mathlib.Core.List.{List, [], ◌∷◌, ◌++◌}
use Rattle.std.specs.Prelude.{Option, None, Some, option_map}
use mathlib.Core.Bool.{Bool, true, false, ◌&&◌, not, cond}
use native.Mathlib.Omega.{arith}
use lib.Dec.{T, ltb, eqb, ltb→lt, lt→ltb, eqb→eq, T_not}
use lib.ListN.{length, get_or, replicate, length-append, get_or-append}
use lib.Seq.{get_or-append-add}
use Rattle.numeral.proofs.Arithmetic.{lt_or_ge}
use Rattle.rules.specs.Answers.{kept}
use Rattle.rules.specs.Bytes.{all}
use Rattle.rules.specs.Characters.{character}
use Rattle.rules.specs.BankNumbers.{all_zero, leading, string_in}
use Rattle.rules.specs.Conditions.{WrongGroups}
use Rattle.rules.proofs.Tests.{apart, is_true, is_false, both, and, not_both, all_at, not_all}
use Rattle.rules.proofs.Answers.{Decides}

abbrev pub nonzero : ℕ → Bool
nonzero c = not (eqb c 0)

pub zeros_of : (k : ℕ) → T (all_zero (replicate k 0))
zeros_of zero = tt
zeros_of (suc k) = zeros_of k

pub zeros_is : (l : List ℕ) → T (all_zero l) → l ≡ replicate (length l) 0
zeros_is [] h = refl
zeros_is (x ∷ xs) h = let (a, b) = both (eqb x 0) (all_zero xs) h in ap₂ ◌∷◌ (eqb→eq x 0 a) (zeros_is xs b)

-- The groups before the first zero: only zeros follow, or a nonzero group stands after a zero.
abbrev LeadingIs : List ℕ → Option (List ℕ) → Type 0
LeadingIs gs None = (i : ℕ) × (j : ℕ) × (i < j) × (j < length gs) × (get_or gs i 0 ≡ 0) × (¬ (get_or gs j 0 ≡ 0))
LeadingIs gs (Some cs) = (z : ℕ) × (gs ≡ cs ++ replicate z 0) × T (all nonzero cs)

leading_is : (gs : List ℕ) → LeadingIs gs (leading gs)
leading_is [] = (0, refl, tt)
leading_is (g ∷ gs) = go (eqb g 0) refl (all_zero gs) refl (leading gs) (leading_is gs)
  where
    go : (a : Bool) → eqb g 0 ≡ a → (b : Bool) → all_zero gs ≡ b → (o : Option (List ℕ)) → LeadingIs gs o
        → LeadingIs (g ∷ gs) (cond a (cond b (Some []) None) (option_map (g ∷◌) o))
    go true e true f o i = (suc (length gs), ap₂ ◌∷◌ (eqb→eq g 0 (rw e tt)) (zeros_is gs (rw f tt)), tt)
    go true e false f o i =
        let (j, l, h) = not_all (λ x. eqb x 0) gs (rw f tt) in
        (0, suc j, omega arith, omega arith, eqb→eq g 0 (rw e tt), apart (get_or gs j 0) 0 h)
    go false e b f None i = (suc i.0, suc i.1, omega arith, omega arith, i.4, i.5)
    go false e b f (Some cs) i = (i.0, ap (g ∷◌) i.1, and (nonzero g) (all nonzero cs) (rw e tt) i.2)

pub leading_of : (cs : List ℕ) (k : ℕ) → T (all nonzero cs) → leading (cs ++ replicate k 0) ≡ Some cs
leading_of [] zero h = refl
leading_of [] (suc k) h = rw (is_true (all_zero (replicate k 0)) (zeros_of k))
leading_of (c ∷ cs) k h =
    let (a, b) = both (nonzero c) (all nonzero cs) h in
    rw (is_false (eqb c 0) a, leading_of cs k b)

-- What is taken of the groups.
abbrev pub StringIs : List ℕ → List ℕ → Type 0
StringIs gs cs = (z : ℕ) × (gs ≡ cs ++ replicate z 0) × T (ltb 0 (length cs)) × T (all character cs)

get_d_zeros : (z i : ℕ) → ◌≡◌ {A = ℕ} (get_or (replicate z 0) i 0) 0
get_d_zeros zero i = refl
get_d_zeros (suc z) zero = refl
get_d_zeros (suc z) (suc i) = get_d_zeros z i

module _ (gs cs : List ℕ) (z : ℕ) (e : gs ≡ cs ++ replicate z 0) (n : T (all nonzero cs)) where
  inside : (i : ℕ) → i < length cs → get_or gs i 0 ≡ get_or cs i 0
  inside i l = rw e (get_or-append cs (replicate z 0) 0 i l)

  filled : (i : ℕ) → i < length cs → ¬ (get_or gs i 0 ≡ 0)
  filled i l = rw (inside i l) (apart (get_or cs i 0) 0 (all_at nonzero cs i n l))

  empty : (i : ℕ) → length cs ≤ i → get_or gs i 0 ≡ 0
  empty i l =
      let q : i ≡ length cs + (i - length cs) = omega arith in
      rw (e, q) (get_or-append-add cs (replicate z 0) (i - length cs) 0 ∙ get_d_zeros z (i - length cs))

  right_groups : T (ltb 0 (length cs)) → T (all character cs) → ¬ (WrongGroups (length gs) λ i. get_or gs i 0)
  right_groups some-cs h (inl k) = filled 0 (ltb→lt 0 (length cs) some-cs) k
  right_groups some-cs h (inr (inl k)) =
      ⊎_elim (λ (l : k.0 < length cs). filled k.0 l k.4) (λ (l : length cs ≤ k.0). k.5 (empty k.1 (omega arith))) (lt_or_ge k.0 (length cs))
  right_groups some-cs h (inr (inr k)) =
      ⊎_elim
      (λ (l : k.0 < length cs). k.3 (rw (inside k.0 l) (all_at character cs k.0 h l)))
      (λ (l : length cs ≤ k.0). k.2 (empty k.0 l))
      (lt_or_ge k.0 (length cs))

  wrong_groups : T (not (ltb 0 (length cs) && all character cs)) → WrongGroups (length gs) λ i. get_or gs i 0
  wrong_groups h = ⊎_elim outside (λ (l : length cs ≤ 0). inl (empty 0 l)) (lt_or_ge 0 (length cs))
    where
      outside : 0 < length cs → WrongGroups (length gs) λ i. get_or gs i 0
      outside l =
          let (i, m, c) = not_all character cs (not_both (ltb 0 (length cs)) (all character cs) h (lt→ltb 0 (length cs) l)) in
          let k : i < length gs = omega (arith, ap length e, length-append cs (replicate z 0)) in
          inr (inr (i, k, filled i m, rw (inside i m) (T_not (character (get_or cs i 0)) c)))

pub string_decides : (gs : List ℕ) → Decides (WrongGroups (length gs) λ i. get_or gs i 0) (StringIs gs) (string_in gs)
string_decides gs = go (leading gs) (leading_is gs)
  where
    judge : (cs : List ℕ) → LeadingIs gs (Some cs) → (b : Bool) → (ltb 0 (length cs) && all character cs) ≡ b → Decides (WrongGroups (length gs) λ i. get_or gs i 0) (StringIs gs) (cond b (Some cs) None)
    judge cs i true e =
        let (a, b) = both (ltb 0 (length cs)) (all character cs) (rw e tt) in
        (right_groups gs cs i.0 i.1 i.2 a b, (i.0, i.1, a, b))
    judge cs i false e = wrong_groups gs cs i.0 i.1 i.2 (rw e tt)

    go : (o : Option (List ℕ)) → LeadingIs gs o → Decides (WrongGroups (length gs) λ i. get_or gs i 0) (StringIs gs) (kept (λ cs. ltb 0 (length cs) && all character cs) o)
    go None i = inr (inl i)
    go (Some cs) i = judge cs i (ltb 0 (length cs) && all character cs) refl

pub string_of_lem : (cs : List ℕ) (z : ℕ) → T (all nonzero cs) → T (ltb 0 (length cs)) → T (all character cs) → string_in (cs ++ replicate z 0) ≡ Some cs
string_of_lem cs z n s h = rw (leading_of cs z n, is_true (ltb 0 (length cs) && all character cs) (and (ltb 0 (length cs)) (all character cs) s h))
