-- The groups of a string: characters and then zeros, or what rule 19 refuses.
use Prim.Native.Nat.{ℕ, zero, suc, ◌+◌, ◌-◌, ◌≤◌, ◌<◌}
use mathlib.Core.Path.{◌≡◌, refl, sym, ◌∙◌, ap}
use mathlib.Core.Logic.{inl, inr}
use mathlib.Core.Bool.{Bool, true, false}
use mathlib.Core.List.{List, [], ◌∷◌, ◌++◌, append_assoc, append-nil}
use Rattle.std.specs.Prelude.{Option, None, Some, option_map}
use native.Mathlib.Nat.{add-zero, sub_self}
use native.Mathlib.Numerals.{add-one}
use native.Mathlib.Omega.{arith}
use lib.Dec.{T, lt→ltb}
use lib.ListN.{length, take, drop, get_or, replicate, length-append, length-replicate, replicate-append-replicate}
use lib.Seq.{take-length, take-suc, take_at, drop_at, length-take-le, get_or-take, get_or-append-add}
use Rattle.rules.specs.Bytes.{all}
use Rattle.rules.specs.Characters.{table_a1, character}
use Rattle.rules.specs.BankNumbers.{string_in}
use Rattle.rules.specs.Conditions.{WrongGroups}
use Rattle.rules.proofs.Tests.{both, and, all_among, all_map}
use Rattle.rules.proofs.Answers.{Decides}
use Rattle.rules.proofs.Groups.{nonzero, StringIs, string_decides, string_of_lem}

-- Groups that are characters and then zeros are counted; no character is a zero.
all_nonzero : T (all nonzero table_a1)
unfolding table_a1
all_nonzero = tt

counted_string : (cs : List ℕ) (z : ℕ) → T (all character cs) → 0 < length cs → string_in (cs ++ replicate z 0) ≡ Some cs
counted_string cs z h k =
    string_of_lem cs z (all_map character nonzero cs (λ x m. all_among nonzero table_a1 x all_nonzero m) h) (lt→ltb 0 (length cs) k) h

-- What is known of the first i groups of x while they are counted: n characters, and then zeros.
pub record Counted (x : List ℕ) (i n : ℕ) : Type 0 where
  pub within : n ≤ i
  pub characters : T (all character (take n x))
  pub zeros : take i x ≡ take n x ++ replicate (i - n) 0

module _ (x : List ℕ) (n : ℕ) (c : Counted x (length x) n) where
  all_of_them : x ≡ take n x ++ replicate (length x - n) 0
  all_of_them = sym (take-length x) ∙ c.zeros

  pub counted_end : ¬ (n ≡ 0) → Some n ≡ option_map length (string_in x)
  counted_end z =
      let e : length (take n x) ≡ n = length-take-le n x c.within in
      let s = ap string_in all_of_them ∙ counted_string (take n x) (length x - n) c.characters (omega arith) in
      rw (s, e)

all_snoc : (test : ℕ → Bool) (cs : List ℕ) (c : ℕ) → T (all test cs) → T (test c) → T (all test (cs ++ (c ∷ [])))
all_snoc test [] c h t = and (test c) true t tt
all_snoc test (d ∷ cs) c h t =
    let (a, b) = both (test d) (all test cs) h in
    and (test d) (all test (cs ++ (c ∷ []))) a (all_snoc test cs c b t)

zeros_more : (z : ℕ) → replicate {A = ℕ} z 0 ++ (0 ∷ []) ≡ replicate (z + 1) 0
zeros_more z = replicate-append-replicate z 1 0

zero_behind : (p : List ℕ) (z n : ℕ) → length p ≡ n → get_or (p ++ replicate z 0) n 0 ≡ 0
zero_behind p z n e = rw (← e, ← add-zero (length p), get_or-append-add p (replicate z 0) 0 0) (go z)
  where
    go : (z : ℕ) → ◌≡◌ {A = ℕ} (get_or (replicate z 0) 0 0) 0
    go zero = refl
    go (suc z) = refl

-- One more group: a zero, or a character before which no zero came. Any other group is refused.
module _ (x : List ℕ) (i n : ℕ) (h : i < length x) (c : Counted x i n) where
  pub next_zero : get_or x i 0 ≡ 0 → Counted x (i + 1) n
  next_zero e = record {
    within = omega (arith, c.within);
    characters = c.characters;
    zeros =
        let k : i + 1 - n ≡ i - n + 1 = omega (arith, c.within) in
        rw (add-one i, take-suc x i 0 h, e, c.zeros, append_assoc, zeros_more (i - n), ← k, add-one i);
  }

  pub next_character : i ≤ n → T (character (get_or x i 0)) → Counted x (i + 1) (i + 1)
  next_character b t =
      let e : n ≡ i = omega (arith, c.within) in
      record {
        within = omega arith;
        characters = rw (add-one i, take-suc x i 0 h) (all_snoc character (take i x) (get_or x i 0) (rw e at c.characters) t);
        zeros = rw (sub_self, append-nil);
      }

refused_count : (gs : List ℕ) → WrongGroups (length gs) (λ i. get_or gs i 0) → None ≡ option_map length (string_in gs)
refused_count gs w = go (string_in gs) (string_decides gs)
  where
    go : (o : Option (List ℕ)) → Decides (WrongGroups (length gs) λ i. get_or gs i 0) (StringIs gs) o → None ≡ option_map length o
    go None s = refl
    go (Some cs) s = absurd (s.0 w)

module _ (x : List ℕ) (i : ℕ) (h : i < length x) (e : ¬ (get_or x i 0 ≡ 0)) where
  pub wrong_group : character (get_or x i 0) ≡ false → None ≡ option_map length (string_in x)
  wrong_group f = refused_count x (inr (inr (i, h, e, λ t. rw f at t)))

  pub after_zero : (n : ℕ) → Counted x i n → n < i → None ≡ option_map length (string_in x)
  after_zero n c b =
      let zero_at : get_or (take i x) n 0 ≡ 0 = rw c.zeros (zero_behind (take n x) (i - n) n (length-take-le n x (omega arith))) in
      refused_count x (inr (inl (n, i, b, h, sym (get_or-take i x n 0 b) ∙ zero_at, e)))

-- What a caller finds: the characters stand first, and zeros behind them; or the groups are refused.
pub taken_groups : (gs cs : List ℕ) → string_in gs ≡ Some cs → (cs ≡ take (length cs) gs) × (drop (length cs) gs ≡ replicate (length gs - length cs) 0)
taken_groups gs cs e = let s : StringIs gs cs = (rw e at (string_decides gs)).1 in go gs s.0 s.1
  where
    go : (gs : List ℕ) (z : ℕ) → gs ≡ cs ++ replicate z 0 → (cs ≡ take (length cs) gs) × (drop (length cs) gs ≡ replicate (length gs - length cs) 0)
    go gs z e =
        let k : length gs - length cs ≡ z = omega (arith, ap length e, length-append cs (replicate z 0), length-replicate {A = ℕ} z 0) in
        rw (k, e) (sym (take_at cs (replicate z 0) (length cs) refl), drop_at cs (replicate z 0) (length cs) refl)

pub count_taken : (gs : List ℕ) (n : ℕ) → Some n ≡ option_map length (string_in gs) → string_in gs ≡ Some (take n gs)
count_taken gs n e = go (string_in gs) refl e
  where
    go : (o : Option (List ℕ)) → string_in gs ≡ o → Some n ≡ option_map length o → string_in gs ≡ Some (take n gs)
    go None q e = cc
    go (Some cs) q e = let k : n ≡ length cs = cc in q ∙ ap Some (rw k (taken_groups gs cs q).0)

pub count_refused : (gs : List ℕ) → None ≡ option_map length (string_in gs) → string_in gs ≡ None
count_refused gs e = go (string_in gs) e
  where
    go : (o : Option (List ℕ)) → None ≡ option_map length o → o ≡ None
    go None e = refl
    go (Some cs) e = cc
