-- Storing the characters one by one, and what a caller then finds.
use Prim.Native.Nat.{ℕ, zero, suc, ◌+◌, ◌-◌, ◌≤◌}
use mathlib.Core.Path.{◌≡◌, refl, sym, ◌∙◌, ap}
use mathlib.Core.List.{List, [], ◌∷◌, ◌++◌}
use Rattle.std.specs.Prelude.{Option, None, Some, option_map, ltb}
use native.Mathlib.Numerals.{add-one}
use native.Mathlib.Nat.{zero-add}
use native.Mathlib.Omega.{arith}
use borrow.Author.Tests.{lt-ltb}
use lib.ListN.{length, take, set, replicate}
use lib.Seq.{sets, set_out, take-take, take-append-add}
use Rattle.rules.specs.Answers.{kept}
use Rattle.rules.specs.TextNumbers.{put}
use Rattle.alphabet.specs.Strings.{spelled_of}
use Rattle.alphabet.specs.Readers.{counted, Kept}

sets_out : (cs l : List ℕ) (n : ℕ) → length l ≤ n → sets l n cs ≡ l
sets_out [] l n h = refl
sets_out (c ∷ cs) l n h = rw (set_out l n c h) (sets_out cs l (suc n) (omega arith))

sets_cons : (cs l : List ℕ) (x n : ℕ) → sets (x ∷ l) (suc n) cs ≡ x ∷ sets l n cs
sets_cons [] l x n = refl
sets_cons (c ∷ cs) l x n = sets_cons cs (set l n c) x (suc n)

-- A character is stored in front of those behind it; where the room is full, none is stored.
pub keep_more : (n c : ℕ) (l m z : List ℕ) (o p : Option (List ℕ)) → p ≡ put (Some c) o → m ≡ set l n c → Kept o (n + 1) m z → Kept p n l z
keep_more n c l m z None p e s k = rw e tt
keep_more n c l m z (Some cs) p e s k = rw e (k ∙ rw (s, add-one))

pub keep_full : (n : ℕ) (l : List ℕ) (o : Option (List ℕ)) → length l ≤ n → Kept o n l l
keep_full n l None h = tt
keep_full n l (Some cs) h = rw (sets_out cs l n h)

-- Characters stored over zeros from place 0 on: the first of them stand there, with zeros behind.
take_zeros : (k j : ℕ) → k ≤ j → take {A = ℕ} k (replicate j 0) ≡ replicate k 0
take_zeros zero j h = refl
take_zeros (suc k) zero h = absurd (omega arith)
take_zeros (suc k) (suc j) h = ap (0 ∷◌) (take_zeros k j (omega arith))

over_zeros : (cs : List ℕ) (k j : ℕ) → k ≤ length cs + j → sets (replicate k 0) 0 cs ≡ take k (cs ++ replicate j 0)
over_zeros [] k j h = sym (take_zeros k j (omega arith))
over_zeros (c ∷ cs) zero j h = sets_out cs [] 1 (omega arith)
over_zeros (c ∷ cs) (suc k) j h = sets_cons cs (replicate k 0) c 0 ∙ ap (c ∷◌) (over_zeros cs k j (omega arith))

-- What was counted and kept, of a text whose characters are o, is the answer of `read`; there is none where nothing was counted.
abbrev some_characters : Option (List ℕ) → Option (List ℕ)
some_characters = kept (λ cs. ltb 0 (length cs))

-- the number alone
pub told : (o : Option (List ℕ)) (r : Option ℕ) → r ≡ counted 0 o → kept (ltb 0) r ≡ option_map length (some_characters o)
told None r e = rw e
told (Some []) r e = rw e
told (Some (c ∷ cs)) r e = rw (e, zero-add, lt-ltb 0 (length (c ∷ cs)) (omega arith))

pub read_wrong : (o : Option (List ℕ)) → None ≡ counted 0 o → None ≡ option_map spelled_of (some_characters o)
read_wrong None e = refl
read_wrong (Some cs) e = cc

pub read_empty : (o : Option (List ℕ)) (n : ℕ) → Some n ≡ counted 0 o → n ≡ 0 → None ≡ option_map spelled_of (some_characters o)
read_empty None n e f = refl
read_empty (Some []) n e f = refl
read_empty (Some (c ∷ cs)) n e f = let k : n ≡ 0 + length (c ∷ cs) = cc in absurd (omega arith)

pub read_right : (o : Option (List ℕ)) (n : ℕ) (z : List ℕ) → Some n ≡ counted 0 o → ¬ (n ≡ 0) → Kept o 0 (replicate 20 0) z
    → Some (record { count = n; characters = z }) ≡ option_map spelled_of (some_characters o)
read_right None n z e f k = cc
read_right (Some []) n z e f k = let m : n ≡ 0 + 0 = cc in absurd (f (omega arith))
read_right (Some (c ∷ cs)) n z e f k =
    let m : n ≡ 0 + length (c ∷ cs) = cc in
    let q : z ≡ take 20 ((c ∷ cs) ++ replicate 20 0) = k ∙ over_zeros (c ∷ cs) 20 20 (omega arith) in
    rw (m, zero-add, q, lt-ltb 0 (length (c ∷ cs)) (omega arith))

-- What a caller finds in the first k places, where there are k characters or fewer: the characters, with zeros behind.
pub first_characters : (cs : List ℕ) (k : ℕ) → length cs ≤ k → k ≤ 20 → take k (take 20 (cs ++ replicate 20 0)) ≡ cs ++ replicate (k - length cs) 0
first_characters cs k h l = take-take k 20 (cs ++ replicate 20 0) l ∙ go k (k - length cs) (omega arith) (omega arith)
  where
    go : (k j : ℕ) → k ≡ length cs + j → j ≤ 20 → take k (cs ++ replicate 20 0) ≡ cs ++ replicate j 0
    go k j e b = rw e (take-append-add cs (replicate 20 0) j ∙ ap (cs ++◌) (take_zeros j 20 b))
