-- A rule and its number are one and the other's.
use Prim.Native.Nat.{ℕ, ◌+◌, ◌-◌, ◌≤◌, ◌<◌}
use mathlib.Core.Path.{◌≡◌, refl}
use native.Mathlib.Omega.{arith}
use lib.Dec.{T, eqb, eqb→eq}
use Rattle.rules.proofs.Tests.{below_is}
use Rattle.scheme.specs.declared.refusal.Rule.{Rule}
use Rattle.scheme.specs.declared.refusal.Rule.TheVariants.{OutputTooShort, Start, Name, Filter, Prefix, Reference, LastPartForm, LastPartSize, BankTooShort, NoWords, Toggle, ControlBits, Header, WordCount, FillBits, Partition, PrefixTooLarge, ReferenceTooLarge, String, ControlFields, TooManyWords, TooFewWords, NotAnIdentity, FilterTooLarge, NoScheme}
use Rattle.scheme.specs.Refusals.{number, rule_of}

-- the rule of a rule's number is that rule
pub rule_of_number : (r : Rule) → rule_of (number r) ≡ r
rule_of_number r = elim r as (λ v. rule_of (number v) ≡ v) [
  | OutputTooShort ↦ refl
  | Start ↦ refl
  | Name ↦ refl
  | Filter ↦ refl
  | Prefix ↦ refl
  | Reference ↦ refl
  | LastPartForm ↦ refl
  | LastPartSize ↦ refl
  | BankTooShort ↦ refl
  | NoWords ↦ refl
  | Toggle ↦ refl
  | ControlBits ↦ refl
  | Header ↦ refl
  | WordCount ↦ refl
  | FillBits ↦ refl
  | Partition ↦ refl
  | PrefixTooLarge ↦ refl
  | ReferenceTooLarge ↦ refl
  | String ↦ refl
  | ControlFields ↦ refl
  | TooManyWords ↦ refl
  | TooFewWords ↦ refl
  | NotAnIdentity ↦ refl
  | FilterTooLarge ↦ refl
  | NoScheme ↦ refl
]

-- the number of a number's rule is that number
pub number_of_rule : (n : ℕ) → 0 < n → n ≤ 25 → number (rule_of n) ≡ n
number_of_rule n h k = eqb→eq (number (rule_of n)) n (later (n - 1) (omega arith) n (omega arith))
  where
    later : (m : ℕ) → m < 25 → (n : ℕ) → n ≡ m + 1 → T (eqb (number (rule_of n)) n)
    later m l n e = rw e (below_is (λ i. eqb (number (rule_of (i + 1))) (i + 1)) 25 tt m l)
