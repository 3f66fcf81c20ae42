-- The ends of a call: a short output, a refusal, what is written.
use Prim.Native.Nat.{ℕ, ◌≤◌, ◌<◌}
use mathlib.Core.Path.{◌≡◌, refl}
use mathlib.Core.Logic.{⊎_elim}
use mathlib.Core.List.{List, [], ◌∷◌, ◌++◌}
use native.Mathlib.Omega.{arith}
use lib.Dec.{lit≤}
use lib.ListN.{length, drop}
use borrow.Author.Tests.{le-leb, lt-leb}
use Rattle.std.specs.Prelude.{Ok, Err}
use Rattle.rules.specs.Answers.{Answer, refused, taken}
use Rattle.rules.specs.Conditions.{Rule, First, text_rules, raw_rules, bank_rules}
use Rattle.rules.proofs.Answers.{Reads}
use Rattle.rules.specs.Grammar.{Tag, TagFits}
use Rattle.rules.specs.Calls.{Output, call, lent}
use Rattle.scheme.specs.declared.refusal.Rule.TheVariants.{OutputTooShort}
use Rattle.scheme.specs.declared.refusal.Refusal.{Refusal}
use Rattle.scheme.specs.declared.record.Record.{Record}
use Rattle.scheme.specs.Refusals.{number, rule_of, by, in_code}
use Rattle.scheme.specs.Records.{RecordIs, record_of, reading_of}
use Rattle.scheme.proofs.Numbers.{number_of_rule}
use Rattle.codec.specs.Answers.{answered}

-- an output shorter than the room
pub short : (room : ℕ) (out : List ℕ) (a : Answer Output) → length out < room → answered (Err (by OutputTooShort 0)) out ≡ call out (lent room out a)
short room out a l = rw (lt-leb room (length out) l)

-- room enough
module _ (room : ℕ) (out : List ℕ) (l : room ≤ length out) where
  pub refuses : (e : Refusal) (a : Answer Output) → a ≡ refused (number e.rule) e.place → answered (Err e) out ≡ call out (lent room out a)
  refuses e a h = rw (le-leb room (length out) l, h)

  pub writes : (W : ℕ) (w : List ℕ) (a : Answer Output) → a ≡ taken (W, w) → (n : ℕ) (after : List ℕ) → n ≡ length w → after ≡ w ++ drop (length w) out
      → answered (Ok (record { length = n; words = W })) after ≡ call out (lent room out a)
  writes W w a e n after x y = rw (le-leb room (length out) l, e, x, y)

-- the rules have numbers up to 25
abbrev pub Numbered : List Rule → Type 0
Numbered [] = Unit
Numbered (r ∷ rs) = (r.number ≤ 25) × Numbered rs

first_numbered : (rs : List Rule) → Numbered rs → (n p : ℕ) → First rs n p → n ≤ 25
first_numbered [] h n p f = omega (arith, f.0)
first_numbered (r ∷ rs) h n p f = ⊎_elim (λ x. omega (arith, x.1, h.0)) (λ x. first_numbered rs h.1 n p x.1) f

pub text_numbered : (t : List ℕ) → Numbered (text_rules t)
unfolding text_rules
text_numbered t = (lit≤ tt, (lit≤ tt, (lit≤ tt, (lit≤ tt, (lit≤ tt, (lit≤ tt, (lit≤ tt, (lit≤ tt, tt))))))))

pub raw_numbered : (b : List ℕ) → Numbered (raw_rules b)
unfolding raw_rules
raw_numbered b = (lit≤ tt, (lit≤ tt, tt))

pub bank_numbered : (b : List ℕ) → Numbered (bank_rules b)
unfolding raw_rules bank_rules
bank_numbered b = (lit≤ tt, (lit≤ tt, (lit≤ tt, (lit≤ tt, (lit≤ tt, (lit≤ tt, (lit≤ tt, (lit≤ tt, (lit≤ tt, (lit≤ tt, (lit≤ tt, tt)))))))))))

-- What the code has read: refused by the written rules, and no number is 0, whatever numbers the rules have.
pub positive : {X : Type 0} (rs : List Rule) (Right : X → Type 0) (a : Answer X) → Reads rs Right a → (n p : ℕ) → a ≡ refused n p → 0 < n
positive rs Right a h n p e = (rw e at h).1

pub no_zero : {X : Type 0} (rs : List Rule) (Right : X → Type 0) (p : ℕ) → ¬ (Reads rs Right (refused 0 p))
no_zero rs Right p h = let below : 0 < 0 = positive rs Right (refused 0 p) h 0 p refl in omega (arith, below)

-- It is refused with the number of its rule; or taken, and the record is the tag's.
module _ {X : Type 0} (rs : List Rule) (numbers : Numbered rs) (Right : X → Type 0) where
  number_is : (n p : ℕ) → Reads rs Right (refused n p) → number (rule_of n) ≡ n
  number_is n p h = number_of_rule n (positive rs Right (refused n p) h n p refl) (first_numbered rs numbers n p h.0)

  pub is_refused : (n p : ℕ) → Reads rs Right (refused n p) → (e : Refusal) → e ≡ by (rule_of n) p → ◌≡◌ {A = Answer X} (refused n p) (refused (number e.rule) e.place)
  is_refused n p h e same = rw (same, number_is n p h)

module _ (rs : List Rule) (numbers : Numbered rs) (Right : Tag → Type 0) (a : Answer Tag) (h : Reads rs Right a) where
  pub read_refused : (e : Refusal) → Err e ≡ reading_of a → a ≡ refused (number e.rule) e.place
  read_refused e q = go a h q
    where
      go : (a : Answer Tag) → Reads rs Right a → Err e ≡ reading_of a → a ≡ refused (number e.rule) e.place
      go (refused n p) h q = is_refused rs numbers Right n p h e cc
      go (taken τ) h q = let z : ◌≡◌ {A = ℕ} 0 1 = cc in absurd (omega arith)

  pub read_taken : ((τ : Tag) → Right τ → TagFits τ) → (r : Record) → Ok r ≡ reading_of a → (τ : Tag) × (a ≡ taken τ) × RecordIs r τ
  read_taken fits r q = go a h q
    where
      go : (a : Answer Tag) → Reads rs Right a → Ok r ≡ reading_of a → (τ : Tag) × (a ≡ taken τ) × RecordIs r τ
      go (refused n p) h q = let z : ◌≡◌ {A = ℕ} 0 1 = cc in absurd (omega arith)
      go (taken τ) h q = let e : r ≡ record_of τ = cc in (τ, refl, record { fits = fits τ h.1; same = e })

module _ (rs : List Rule) (numbers : Numbered rs) (Right : ℕ → Type 0) (a : Answer ℕ) (h : Reads rs Right a) where
  pub count_refused : (e : Refusal) → Err e ≡ in_code a → a ≡ refused (number e.rule) e.place
  count_refused e q = go a h q
    where
      go : (a : Answer ℕ) → Reads rs Right a → Err e ≡ in_code a → a ≡ refused (number e.rule) e.place
      go (refused n p) h q = is_refused rs numbers Right n p h e cc
      go (taken W) h q = let z : ◌≡◌ {A = ℕ} 0 1 = cc in absurd (omega arith)

pub count_taken : (a : Answer ℕ) (W : ℕ) → Ok W ≡ in_code a → a ≡ taken W
count_taken a W q = go a q
  where
    go : (a : Answer ℕ) → Ok W ≡ in_code a → a ≡ taken W
    go (refused n p) q = let z : ◌≡◌ {A = ℕ} 0 1 = cc in absurd (omega arith)
    go (taken V) q = let e : W ≡ V = cc in rw e
