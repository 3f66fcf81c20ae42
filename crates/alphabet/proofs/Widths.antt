-- What the number of bytes that a character takes says of the text.
use Prim.Native.Nat.{ℕ, ◌+◌, ◌≤◌, ◌<◌}
use mathlib.Core.Path.{◌≡◌, refl, ◌∙◌}
use mathlib.Core.List.{List, [], ◌∷◌}
use Rattle.std.specs.Prelude.{Option, None, Some, option_map}
use mathlib.Core.Bool.{Bool, true, false, cond}
use native.Mathlib.Omega.{arith}
use borrow.Author.Tests.{eqb-true, eqb-false, eq-eqb, ne_eqb}
use lib.Dec.{eqb}
use lib.ListN.{length, drop, get_or}
use Rattle.rules.specs.Bytes.{percent}
use Rattle.rules.specs.Characters.{plain}
use Rattle.rules.specs.TextNumbers.{put, characters_in}
use Rattle.alphabet.specs.Readers.{counted, escape_in, width_in}
use Rattle.alphabet.proofs.Steps.{at_plain, at_percent, at_other, at_escape, escape_within, no_escape, count_more}

-- a text begins with a character of w bytes, and the rest of the text is read behind it; or no character begins there
pub record Width (text : List ℕ) (w : ℕ) : Type 0 where
  pub some : 0 < w
  pub within : w ≤ length text
  pub counts : (n : ℕ) → counted (n + 1) (characters_in (drop w text)) ≡ counted n (characters_in text)

abbrev WidthIs : List ℕ → Option ℕ → Type 0
WidthIs text None = characters_in text ≡ None
WidthIs text (Some w) = Width text w

wide : (x : List ℕ) (w c : ℕ) → 0 < w → w ≤ length x → characters_in x ≡ put (Some c) (characters_in (drop w x)) → Width x w
wide x w c z k e = record { some = z; within = k; counts = λ n. count_more n c (characters_in (drop w x)) (characters_in x) e }

width_is : (c : ℕ) (t : List ℕ) → WidthIs (c ∷ t) (width_in (c ∷ t))
width_is c t = go (plain c) refl (eqb c percent) refl (escape_in t) refl
  where
    first : 0 < length (c ∷ t)
    first = omega arith

    go : (p : Bool) → plain c ≡ p → (q : Bool) → eqb c percent ≡ q → (o : Option ℕ) → escape_in t ≡ o
        → WidthIs (c ∷ t) (cond p (Some 1) (cond q (option_map (λ d. 3) o) None))
    go true e q f o g = wide (c ∷ t) 1 c (omega arith) (omega arith) (at_plain (c ∷ t) 0 first e)
    go false e false f o g = at_other (c ∷ t) 0 first e (eqb-false c percent f)
    go false e true f None g = at_percent (c ∷ t) 0 first (eqb-true c percent f) ∙ no_escape t g
    go false e true f (Some d) g = wide (c ∷ t) 3 d (omega arith) (omega (arith, escape_within t d g)) (at_percent (c ∷ t) 0 first (eqb-true c percent f) ∙ at_escape t d g)

pub some_width : (x : List ℕ) (w : ℕ) → Some w ≡ width_in x → Width x w
some_width [] w e = cc
some_width (c ∷ t) w e = rw (← e) at (width_is c t)

-- The code's three questions of the first byte: it stands for itself, it is no percent sign, or an escape stands behind it.
pub width_plain : (x : List ℕ) → 0 < length x → plain (get_or x 0 0) ≡ true → Some 1 ≡ width_in x
width_plain [] h e = absurd (omega arith)
width_plain (c ∷ t) h e = rw e

pub width_other : (x : List ℕ) → 0 < length x → plain (get_or x 0 0) ≡ false → ¬ (get_or x 0 0 ≡ percent) → None ≡ width_in x
width_other [] h e n = absurd (omega arith)
width_other (c ∷ t) h e n = rw (e, ne_eqb c percent n)

pub width_escape : (x : List ℕ) (o : Option ℕ) → 0 < length x → plain (get_or x 0 0) ≡ false → get_or x 0 0 ≡ percent → o ≡ escape_in (drop 1 x)
    → option_map (λ d. 3) o ≡ width_in x
width_escape [] o h e p f = absurd (omega arith)
width_escape (c ∷ t) o h e p f = rw (e, eq-eqb c percent p, f)
