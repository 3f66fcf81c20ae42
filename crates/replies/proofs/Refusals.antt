-- A bank that is refused: `N` for 9 and 10, which the raw line has too; `R` and two digits for the numbers behind.
use Prim.Native.Nat.{ℕ, ◌/◌, ◌≤◌, ◌<◌}
use mathlib.Core.Path.{◌≡◌}
use mathlib.Core.Logic.{inl, inr}
use mathlib.Core.List.{List, [], ◌∷◌, tail}
use native.Mathlib.Omega.{arith}
use lib.Dec.{lit<}
use borrow.Author.Tests.{ne_eqb, le-leb, lt-leb}
use Rattle.numeral.specs.Numeral.{size}
use Rattle.numeral.proofs.Shortest.{size_small, size_large}
use Rattle.rules.specs.Answers.{refused, taken}
use Rattle.rules.specs.Conditions.{Rule, First, raw_rules, bank_rules}
use Rattle.rules.specs.Raw.{raw_text, raw_of_bank}
use Rattle.rules.specs.Screen.{screen}
use Rattle.rules.proofs.Answers.{NoneApplies}
use Rattle.rules.proofs.BankReads.{bank_reads, raw_reads}
use Rattle.replies.specs.Replies.{reply_n, reply_r, shown, RefusedWith}

-- the rules' numbers lie between two
abbrev pub Between : ℕ → ℕ → List Rule → Type 0
Between a z [] = Unit
Between a z (r ∷ rs) = (a ≤ r.number) × (r.number ≤ z) × Between a z rs

pub first_between : (a z : ℕ) (rs : List Rule) (n i : ℕ) → Between a z rs → 0 < n → First rs n i → (a ≤ n) × (n ≤ z)
first_between a z [] n i b p f = absurd (omega (arith, f.0))
first_between a z (r ∷ rs) n i b p (inl (_, e, _)) = (omega (arith, b.0), omega (arith, b.1))
first_between a z (r ∷ rs) n i b p (inr (_, f)) = first_between a z rs n i b.2 p f

module _ (b : List ℕ) where
  -- behind the raw line's rules
  pub later : (n i : ℕ) → 0 < n → First (bank_rules b) n i → NoneApplies (raw_rules b) → (11 ≤ n) × (n ≤ 19)
  unfolding raw_rules bank_rules
  later n i p (inl (h, _, _)) none = absurd (none.0 h)
  later n i p (inr (_, inl (h, _, _))) none = absurd (none.1.0 h)
  later n i p (inr (_, inr (_, f))) none = first_between 11 19 (tail (tail (bank_rules b))) n i (omega arith) p f

  -- one of them
  refuted : (m i : ℕ) → 0 < m → First (raw_rules b) m i → NoneApplies (raw_rules b) → ⊥
  unfolding raw_rules
  refuted m i p (inl (h, _, _)) none = none.0 h
  refuted m i p (inr (_, inl (h, _, _))) none = none.1.0 h
  refuted m i p (inr (_, inr (_, z))) none = omega (arith, z.0)

  earlier : (n i : ℕ) → First (bank_rules b) n i → (NoneApplies (raw_rules b) → ⊥) → n < 11
  unfolding raw_rules bank_rules
  earlier n i (inl (_, e, _)) some-rule = omega arith
  earlier n i (inr (_, inl (_, e, _))) some-rule = omega arith
  earlier n i (inr (x, inr (y, f))) some-rule = absurd (some-rule (x, (y, tt)))

  -- 9 and 10 stand before the others
  module _ (n : ℕ) where
    pub with_raw : 11 ≤ n → n ≤ 19 → shown n (screen [] (raw_text b) n) ≡ reply_r n (raw_text b)
    unfolding screen raw_text
    with_raw l u = rw (ne_eqb n 0 (λ z. omega arith), le-leb 11 n l, le-leb n 19 u)

    pub without_raw : 0 < n → n < 11 → shown n (screen [] (raw_text b) n) ≡ reply_n n
    unfolding screen
    without_raw p u = rw (ne_eqb n 0 (λ z. omega arith), lt-leb 11 n u)

    module _ (refusal : RefusedWith b n) where
      pub refusal_is : First (bank_rules b) n refusal.0 × (0 < n)
      refusal_is = rw refusal.1 at (bank_reads b)

      pub shown_number : raw_of_bank b ≡ taken (raw_text b) → (11 ≤ n) × (n ≤ 19)
      shown_number e = let (f, p) = refusal_is in later n refusal.0 p f (rw e at (raw_reads b)).0

      pub hidden_number : (m i : ℕ) → raw_of_bank b ≡ refused m i → (0 < n) × (n < 11)
      hidden_number m i e =
          let (f, p) = refusal_is in
          let (g, q) = rw e at (raw_reads b) in
          (p, earlier n refusal.0 f (refuted m i q g))

pub two_digits_lem : (n : ℕ) → 11 ≤ n → n ≤ 19 → size 10 n ≡ 2
two_digits_lem n l u =
    omega (arith, size_large 10 (lit< tt) n (omega arith), size_small 10 (lit< tt) (n / 10) (omega arith))
