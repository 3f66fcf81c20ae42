-- What the written rules read at one place of a text, by the byte that stands there, and how that is counted.
use Prim.Native.Nat.{ℕ, suc, ◌+◌, ◌-◌, ◌≤◌, ◌<◌}
use mathlib.Core.Path.{◌≡◌, refl}
use mathlib.Core.List.{List, [], ◌∷◌}
use Rattle.std.specs.Prelude.{Option, None, Some}
use mathlib.Core.Bool.{true, false}
use native.Mathlib.Nat.{add-zero}
use native.Mathlib.Omega.{arith}
use borrow.Author.Tests.{ne_eqb}
use lib.ListN.{length, take, drop, get_or, length-drop, drop_of_length-le}
use lib.Seq.{take_all}
use Rattle.rules.specs.Bytes.{percent}
use Rattle.rules.specs.Characters.{table_a1, escaped, plain}
use Rattle.rules.specs.TextNumbers.{put, characters_in}
use Rattle.rules.proofs.Spellings.{itself_of}
use Rattle.digits.proofs.Runs.{drop_next}
use Rattle.alphabet.specs.Readers.{counted, escape_in}

-- At a byte that stands for itself, at a percent sign, at any other byte, and at the end.
other_of : (c : ℕ) (t : List ℕ) → plain c ≡ false → ¬ (c ≡ percent) → characters_in (c ∷ t) ≡ None
other_of c [] e n = rw e
other_of c (h ∷ []) e n = rw e
other_of c (h ∷ l ∷ t) e n = rw (ne_eqb c percent n, e)

percent_of : (t : List ℕ) → characters_in (percent ∷ t) ≡ put (escape_in t) (characters_in (drop 2 t))
unfolding table_a1 escaped
percent_of [] = refl
percent_of (h ∷ []) = refl
percent_of (h ∷ l ∷ t) = refl

module _ (x : List ℕ) (i : ℕ) (h : i < length x) where
  pub at_plain : plain (get_or x i 0) ≡ true → characters_in (drop i x) ≡ put (Some (get_or x i 0)) (characters_in (drop (i + 1) x))
  at_plain e = rw (drop_next x i h) (itself_of (get_or x i 0) (drop (i + 1) x) e)

  pub at_percent : get_or x i 0 ≡ percent → characters_in (drop i x) ≡ characters_in (percent ∷ drop (i + 1) x)
  at_percent e = rw (drop_next x i h, e)

  pub at_other : plain (get_or x i 0) ≡ false → ¬ (get_or x i 0 ≡ percent) → characters_in (drop i x) ≡ None
  at_other e n = rw (drop_next x i h) (other_of (get_or x i 0) (drop (i + 1) x) e n)

pub at_end : (x : List ℕ) (i : ℕ) → length x ≤ i → characters_in (drop i x) ≡ Some []
at_end x i h = rw (drop_of_length-le x h)

-- Behind a percent sign stand the two digits of an escape, or they do not.
pub escape_within : (t : List ℕ) (c : ℕ) → escape_in t ≡ Some c → 2 ≤ length t
escape_within [] c e = let z : ◌≡◌ {A = ℕ} 0 1 = cc in absurd (omega arith)
escape_within (h ∷ []) c e = let z : ◌≡◌ {A = ℕ} 0 1 = cc in absurd (omega arith)
escape_within (h ∷ l ∷ t) c e = omega arith

pub at_escape : (t : List ℕ) (c : ℕ) → escape_in t ≡ Some c → characters_in (percent ∷ t) ≡ put (Some c) (characters_in (drop 2 t))
at_escape t c e = rw (percent_of t, e)

pub no_escape : (t : List ℕ) → escape_in t ≡ None → characters_in (percent ∷ t) ≡ None
no_escape t e = rw (percent_of t, e)

-- the slice behind w bytes of a text
abbrev pub left : List ℕ → ℕ → List ℕ
left x w = take (length x - w) (drop w x)

pub left_is : (x : List ℕ) (w : ℕ) → left x w ≡ drop w x
left_is x w = take_all (length x - w) (drop w x) (omega (arith, length-drop w x))

-- At the end of the text nothing more is counted; a character in front of the rest is one more.
pub count_end : (x : List ℕ) (i n : ℕ) → length x ≤ i → Some n ≡ counted n (characters_in (drop i x))
count_end x i n h = rw (at_end x i h, add-zero)

pub count_more : (n c : ℕ) (o p : Option (List ℕ)) → p ≡ put (Some c) o → counted (n + 1) o ≡ counted n p
count_more n c None p e = rw e
count_more n c (Some cs) p e = let k : n + 1 + length cs ≡ n + suc (length cs) = omega arith in rw (e, k)
