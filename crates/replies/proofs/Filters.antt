-- A line with a filter: its first byte is a digit, its second a space, and the identity text stands behind them.
use Prim.Native.Nat.{ℕ, ◌-◌, ◌≤◌, ◌<◌}
use Prim.Native.Char.{code}
use mathlib.Core.Path.{◌≡◌, refl}
use mathlib.Core.List.{List, [], ◌∷◌}
use mathlib.Core.Bool.{Bool, true, false, ◌&&◌}
use native.Mathlib.Omega.{arith}
use lib.Dec.{eqb, leb, leb→le}
use lib.ListN.{length, take, drop, get_or, length-drop}
use lib.Seq.{take_all}
use borrow.Author.Tests.{eq-eqb, ne_eqb}
use Rattle.rules.specs.Bytes.{bytes}
use Rattle.rules.specs.TextNumbers.{after, is_digit}
use Rattle.rules.proofs.Tests.{both}
use Rattle.digits.specs.Starts.{begun}
use Rattle.replies.specs.Replies.{space}
use Rattle.replies.specs.Identities.{has_filter}

-- the text behind them, as it is lent
pub behind : (l : List ℕ) → take (length l - 2) (drop 2 l) ≡ drop 2 l
behind l = take_all (length l - 2) (drop 2 l) (omega (arith, length-drop 2 l))

-- how it begins
abbrev pub begins : List ℕ → Bool
begins t = begun (after (bytes "urn:epc:id:") t)

pub too_short : (l : List ℕ) → length l < 2 → has_filter l ≡ false
unfolding has_filter
too_short [] h = refl
too_short (d ∷ []) h = refl
too_short (d ∷ s ∷ t) h = absurd (omega arith)

in_turn : (l : List ℕ) → 2 ≤ length l → has_filter l ≡ (is_digit (get_or l 0 0) && eqb (get_or l 1 0) space && begins (drop 2 l))
unfolding has_filter
in_turn [] h = absurd (omega arith)
in_turn (d ∷ []) h = absurd (omega arith)
in_turn (d ∷ s ∷ t) h = refl

module _ (l : List ℕ) (h : 2 ≤ length l) where
  pub no_digit : is_digit (get_or l 0 0) ≡ false → has_filter l ≡ false
  no_digit d = rw (in_turn l h, d)

  module _ (d : is_digit (get_or l 0 0) ≡ true) where
    pub no_space : ¬ (get_or l 1 0 ≡ space) → has_filter l ≡ false
    no_space s = rw (in_turn l h, d, ne_eqb (get_or l 1 0) space s)

    pub text_begins : get_or l 1 0 ≡ space → has_filter l ≡ begins (take (length l - 2) (drop 2 l))
    text_begins s = rw (in_turn l h, d, eq-eqb (get_or l 1 0) space s, behind l)

-- what stands first in a line that has one
pub record Filtered (l : List ℕ) : Type 0 where
  pub long : 2 ≤ length l
  pub least : code "0" ≤ get_or l 0 0
  pub most : get_or l 0 0 ≤ code "9"

pub filtered : (l : List ℕ) → has_filter l ≡ true → Filtered l
unfolding has_filter
filtered [] e = let z : ◌≡◌ {A = ℕ} 0 1 = cc in absurd (omega arith)
filtered (d ∷ []) e = let z : ◌≡◌ {A = ℕ} 0 1 = cc in absurd (omega arith)
filtered (d ∷ s ∷ t) e =
    let (p, _) = both (is_digit d && eqb s space) (begins t) (rw e tt) in
    let (q, _) = both (is_digit d) (eqb s space) p in
    let (a, b) = both (leb (code "0") d) (leb d (code "9")) q in
    record { long = omega arith; least = leb→le (code "0") d a; most = leb→le d (code "9") b }
