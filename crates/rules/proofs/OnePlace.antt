-- Each rule has one place: a fixed one, the offset of an end of the text, the lowest address, the first bit of a last part.
use Prim.Native.Nat.{ℕ, ◌≤◌, ◌<◌}
use mathlib.Core.Path.{◌≡◌, sym, ◌∙◌, ap}
use mathlib.Core.Logic.{⊎_elim}
use mathlib.Core.List.{List, [], ◌∷◌, ◌++◌}
use native.Mathlib.Omega.{arith}
use lib.ListN.{length, length-drop}
use Rattle.numeral.proofs.Arithmetic.{lt_or_ge}
use Rattle.rules.specs.declared.Scheme.{Scheme}
use Rattle.rules.specs.declared.Last.TheVariants.{Integer, String, Numeric}
use Rattle.rules.specs.declared.Body.TheVariants.{Then, Zeros, E}
use Rattle.rules.specs.declared.Parts.{Parts}
use Rattle.rules.specs.declared.Parts.TheVariants.{F, Integers}
use Rattle.rules.specs.Schemes.{about}
use Rattle.rules.specs.Conditions.{Rule, from_filter, from_prefix, from_reference, from_last, Begins, NameAt, PartAt, OfBank, FirstOne, LastAt, zeros_from, text_rules, asked_rules, raw_rules, bank_rules}
use Rattle.rules.proofs.Answers.{OnePlace}
use Rattle.rules.proofs.ControlFaults.{one_control, one_fault}
use Rattle.rules.proofs.TextReads.{of_text_lem}
use Rattle.rules.proofs.BankReads.{of_bank_lem}

pub fixed : (c p q : ℕ) → p ≡ c → q ≡ c → p ≡ q
fixed c p q h k = h ∙ sym k

one_beginning : (t x : List ℕ) (p q : ℕ) → Begins t x p → Begins t x q → p ≡ q
one_beginning t x p q h k = omega (arith, h.0, k.0, ap length h.1, ap length k.1, length-drop p t, length-drop q t)

one_part : (t : List ℕ) (from : Parts → List ℕ → List ℕ) (p q : ℕ) → PartAt t from p → PartAt t from q → p ≡ q
one_part t from p q (s, v, e, h) k = one_beginning t (from (about s).parts v) p q h ((of_text_lem t s v e (λ r u. Begins t (from r u) q)).1 k)

one_name : (t : List ℕ) (p q : ℕ) → NameAt t p → NameAt t q → p ≡ q
one_name t p q (c, u, h, b) (c', u', h', b') = let (_, e) = one_control t u u' c c' h h' in one_beginning t u p q b (rw (← e) at b')

pub one_place_of_text : (t : List ℕ) → OnePlace (text_rules t)
unfolding text_rules
one_place_of_text t =
    (fixed 0, (one_fault t, (one_name t, (one_part t from_filter, (one_part t from_prefix, (one_part t from_reference, (one_part t from_last, (one_part t from_last, tt))))))))

-- rules with one place each, and then others
both_places : (rs qs : List Rule) → OnePlace rs → OnePlace qs → OnePlace (rs ++ qs)
both_places [] qs h k = k
both_places (r ∷ rs) qs h k = (h.0, both_places rs qs h.1 k)

pub one_place_of_asked : (W : ℕ) (t : List ℕ) → OnePlace (asked_rules W t)
unfolding asked_rules
one_place_of_asked W t = (fixed 0, both_places (text_rules t) _ (one_place_of_text t) (fixed 0, tt))

-- of two first ones neither comes before the other
one_first_one : (b : List ℕ) (n p q : ℕ) → FirstOne b n p → FirstOne b n q → p ≡ q
one_first_one b n p q h k =
    ⊎_elim (λ (l : p < q). absurd (omega (arith, h.1, k.2 p h.0 l)))
    (λ (l : q ≤ p). ⊎_elim (λ (m : q < p). absurd (omega (arith, k.1, h.2 q k.0 m))) (λ (m : p ≤ q). omega arith) (lt_or_ge q p))
    (lt_or_ge p q)

one_last : (n : ℕ) (r : Parts) (p q : ℕ) → LastAt n r p → LastAt n r q → p ≡ q
one_last n (F (Then t (Integer m))) p q h k = absurd h
one_last n (F (Then t (String m))) p q h k = h ∙ sym k
one_last n (F (Then t (Numeric m l))) p q h k = h ∙ sym k
one_last n (F (Zeros t z)) p q h k = absurd h
one_last n (F E) p q h k = absurd h
one_last n (Integers x y z) p q h k = absurd h

-- of one scheme, since the header names one
one_of_bank : (b : List ℕ) (Q : Scheme → ℕ → Type 0) → ((s : Scheme) (p q : ℕ) → Q s p → Q s q → p ≡ q) → (p q : ℕ) → OfBank b (λ s. Q s p) → OfBank b (λ s. Q s q) → p ≡ q
one_of_bank b Q one p q (s, e, h) k = one s p q h ((of_bank_lem b s e (λ s. Q s q)).1 k)

pub one_place_of_raw : (b : List ℕ) → OnePlace (raw_rules b)
unfolding raw_rules
one_place_of_raw b = (fixed (length b), (fixed 0x10, tt))

pub one_place_of_bank : (b : List ℕ) → OnePlace (bank_rules b)
unfolding bank_rules raw_rules
one_place_of_bank b = (
  fixed (length b),
  (
    fixed 0x10,
    (
      fixed 0x17,
      (
        fixed 0x16,
        (
          fixed 0x20,
          (
            fixed 0x10,
            (
              one_of_bank b (λ s. FirstOne b (zeros_from s)) (λ s. one_first_one b (zeros_from s)),
              (fixed 0x2B, (fixed 0x2E, (fixed _, (one_of_bank b (λ s. LastAt (about s).bits (about s).parts) (λ s. one_last (about s).bits (about s).parts), tt)))),
            ),
          ),
        ),
      ),
    ),
  ),
)
