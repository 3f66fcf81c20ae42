-- A part reference, character by character: each takes one byte, or three as an escape.
use Prim.Native.Nat.{ℕ, ◌≤◌, ◌<◌}
use Prim.Native.Char.{code}
use mathlib.Core.Path.{◌≡◌, refl, sym, ap, ◌∙◌}
use mathlib.Core.Bool.{Bool, true, false, ◌&&◌, ◌||◌, not, cond}
use mathlib.Core.List.{List, [], ◌∷◌, ◌++◌}
use Rattle.std.specs.Prelude.{Option, None, Some}
use native.Mathlib.Omega.{arith}
use lib.Dec.{T, leb, eqb, eqb→eq}
use lib.ListN.{length, drop, length-append}
use lib.Seq.{drop_at}
use borrow.Author.Tests.{eq-eqb, ne_eqb}
use Rattle.std.proofs.lemmas.Bool.Decides.{nat_tests}
use Rattle.rules.specs.Bytes.{bytes, all, among, percent}
use Rattle.rules.specs.TextNumbers.{after, is_digit}
use Rattle.rules.proofs.Tests.{is_false, all_among, below, below_is}
use Rattle.rules.proofs.Answers.{Gives}
use Rattle.rules.proofs.Starts.{after_is}
use Rattle.digits.specs.Starts.{begun}
use Rattle.identities.specs.Grammar.{part_characters}
use Rattle.identities.specs.Numbers.{slash_or_hash, parts_only}
use Rattle.identify.specs.Words.{width_in}

-- The characters that stand for themselves, one test over all bytes.
abbrev in_ranges : ℕ → Bool
in_ranges c = is_digit c || (eqb c (code "-") || (leb (code "A") c && leb c (code "Z")))

abbrev same : Bool → Bool → Bool
same true b = b
same false b = not b

same_eq : (a b : Bool) → T (same a b) → a ≡ b
same_eq true true h = refl
same_eq true false h = absurd h
same_eq false true h = absurd h
same_eq false false h = refl

all_same : T (below (λ c. same (among c part_characters) (in_ranges c)) 256)
unfolding part_characters
all_same = tt

pub part_character : (c : ℕ) → c < 256 → among c part_characters ≡ in_ranges c
part_character c h = same_eq (among c part_characters) (in_ranges c) (below_is (λ c. same (among c part_characters) (in_ranges c)) 256 all_same c h)

-- with the tests on numbers
pub ruleset part_ranges = (nat_tests, part_character)

-- What the width at the start of a text says of the rest.
pub record Width (u : List ℕ) (w : ℕ) : Type 0 where
  pub step : parts_only u ≡ parts_only (drop w u)
  pub more : 0 < w
  pub within : w ≤ length u

abbrev pub Widths : List ℕ → Option ℕ → Type 0
Widths u None = parts_only u ≡ false
Widths u (Some w) = Width u w

percent_apart : T (all (λ c. not (eqb c percent)) part_characters)
unfolding part_characters
percent_apart = tt

not_percent : (c : ℕ) → among c part_characters ≡ true → eqb c percent ≡ false
not_percent c e = is_false (eqb c percent) (all_among (λ c. not (eqb c percent)) part_characters c percent_apart (rw e tt))

itself : (c : ℕ) (t : List ℕ) → among c part_characters ≡ true → parts_only (c ∷ t) ≡ parts_only t
itself c [] e = e
itself c (x ∷ []) e = rw e
itself c (x ∷ y ∷ t) e = rw (not_percent c e, e)

-- an escape: what stands behind it decides
escaped : (s u : List ℕ) → ((v : List ℕ) → parts_only (s ++ v) ≡ parts_only v) → length s ≡ 3 → begun (after s u) ≡ true → Width u 3
escaped s u gone k b = go (after s u) (after_is s u) b
  where
    go : (o : Option (List ℕ)) → Gives (λ v. u ≡ s ++ v) o → begun o ≡ true → Width u 3
    go None g b = cc
    go (Some v) g b = record {
      step = rw g (gone v ∙ sym (ap parts_only (drop_at s v 3 k)));
      more = omega arith;
      within = omega (arith, ap length g, length-append s v);
    }

eqb_sym : (x y : ℕ) → eqb x y ≡ eqb y x
eqb_sym x y = go (eqb x y) refl
  where
    go : (b : Bool) → eqb x y ≡ b → b ≡ eqb y x
    go true e = sym (eq-eqb y x (sym (eqb→eq x y (rw e tt))))
    go false e = sym (ne_eqb y x (λ q. let z : ◌≡◌ {A = Bool} true false = sym (eq-eqb x y (sym q)) ∙ e in let w : ◌≡◌ {A = ℕ} 0 1 = cc in omega arith))

-- neither: no character begins here
neither : (c : ℕ) (t : List ℕ) → among c part_characters ≡ false → begun (after (bytes "%2F") (c ∷ t)) ≡ false → begun (after (bytes "%23") (c ∷ t)) ≡ false → parts_only (c ∷ t) ≡ false
neither c [] e f g = e
neither c (x ∷ []) e f g = rw e
neither c (x ∷ l ∷ t) e f g = go (eqb c percent) (eqb percent c) (eqb_sym c percent) f g
  where
    go : (p q : Bool) → p ≡ q → begun (cond q (cond (eqb 50 x) (cond (eqb 70 l) (Some t) None) None) None) ≡ false
        → begun (cond q (cond (eqb 50 x) (cond (eqb 51 l) (Some t) None) None) None) ≡ false
        → cond p (slash_or_hash x l && parts_only t) (among c part_characters && parts_only (x ∷ l ∷ t)) ≡ false
    go false q s f g = rw e
    go true false s f g = cc
    go true true s f g = rw (eqb_sym x 50, eqb_sym l 70, eqb_sym l 51) (digits (eqb 50 x) (eqb 70 l) (eqb 51 l) f g)
      where
        digits : (a b d : Bool) → begun (cond a (cond b (Some t) None) None) ≡ false → begun (cond a (cond d (Some t) None) None) ≡ false → (a && (b || d)) && parts_only t ≡ false
        digits false b d f g = refl
        digits true true d f g = cc
        digits true false true f g = cc
        digits true false false f g = refl

pub width_is : (c : ℕ) (t : List ℕ) → Widths (c ∷ t) (width_in (c ∷ t))
width_is c t = go (among c part_characters) refl (begun (after (bytes "%2F") (c ∷ t))) refl (begun (after (bytes "%23") (c ∷ t))) refl
  where
    go : (p : Bool) → among c part_characters ≡ p → (q : Bool) → begun (after (bytes "%2F") (c ∷ t)) ≡ q → (r : Bool) → begun (after (bytes "%23") (c ∷ t)) ≡ r
        → Widths (c ∷ t) (cond p (Some 1) (cond q (Some 3) (cond r (Some 3) None)))
    go true e q f r g = record { step = itself c t e; more = omega arith; within = omega arith }
    go false e true f r g = escaped (bytes "%2F") (c ∷ t) (λ v. refl) refl f
    go false e false f true g = escaped (bytes "%23") (c ∷ t) (λ v. refl) refl g
    go false e false f false g = neither c t e f g
