-- The company prefix, in the code's own terms: P is the partition value that is read, and k the bits and digits of its row.
use Prim.Native.Nat.{ℕ, ◌+◌, ◌^◌, ◌≤◌, ◌<◌}
use mathlib.Core.Path.{◌≡◌, sym, ap, ◌∙◌}
use mathlib.Core.List.{List}
use native.Mathlib.Omega.{arith}
use lib.ListN.{length}
use Rattle.rules.specs.Answers.{refused}
use Rattle.rules.specs.declared.Scheme.{Scheme}
use Rattle.rules.specs.Schemes.{row_at, prefix_bits, prefix_digits}
use Rattle.rules.specs.Conditions.{row_in}
use Rattle.rules.specs.BankNumbers.{tag_of_bank}
use Rattle.rules.proofs.Rows.{row_fair}
use Rattle.rules.proofs.BankReads.{at_lt}
use Rattle.rules.specs.declared.Body.{Body}
use Rattle.rules.specs.declared.Parts.TheVariants.{F}
use Rattle.scheme.specs.declared.rows.Cell.{Cell}
use Rattle.scheme.specs.Rows.{prefix_of}
use Rattle.fields.specs.BitReaders.{LiesInCode, code_field}
use Rattle.bank.specs.Reading.{Coded, prefix_end, Begun}
use Rattle.bank.proofs.Sizes.{roomy}
use Rattle.bank.proofs.Answers as Answers

module _ (b : List ℕ) (s : Scheme) (body : Body) (c : Coded b s (F body)) (P : ℕ) (eP : P ≡ code_field b 11 3) where
  pub no_row : P ≡ 7 → tag_of_bank b ≡ refused 16 0x2B
  no_row e = Answers.no_row b s body c (sym eP ∙ e)

  module _ (row : ¬ (P ≡ 7)) where
    pub listed : P < 7
    listed = omega (arith, at_lt b 0x2B 3)

    module _ (k : Cell) (ek : k ≡ prefix_of (row_at P)) where
      pub few_digits : k.digits ≤ 17
      few_digits = rw ek (omega (arith, (row_fair P listed).most))

      pub prefix_lies : LiesInCode 14 k.bits (length b)
      prefix_lies =
          let n : k.bits ≡ prefix_bits (row_at P) = ap (λ k. k.bits) ek in
          Answers.lies b s (F body) c 14 k.bits (omega (arith, (row_fair P listed).narrow)) (omega (arith, roomy s body c.parts P listed))

      pub prefix_ends : prefix_end b ≡ 14 + k.bits
      prefix_ends = rw (ek, eP)

      -- x is the prefix, and y is one more than it may be
      module _ (x y : ℕ) (ex : x ≡ code_field b 14 k.bits) (ey : y ≡ 10 ^ k.digits) where
        cell_is : k ≡ prefix_of (row_in b)
        cell_is = ek ∙ ap (λ P. prefix_of (row_at P)) eP

        value_is : x ≡ code_field b 14 (prefix_bits (row_in b))
        value_is = ex ∙ ap (λ k. code_field b 14 k.bits) cell_is

        most : y ≡ 10 ^ prefix_digits (row_in b)
        most = ey ∙ ap (λ k. 10 ^ k.digits) cell_is

        pub large_prefix : y ≤ x → tag_of_bank b ≡ refused 17 0x2E
        large_prefix h = Answers.large_prefix b s body c (rw (← eP) listed) (rw (← most, ← value_is) h)

        pub begun : x < y → (z : ℕ) → z ≡ code_field b 8 3 → Begun b s body (record { filter = z; row = P; digits = k.digits; prefix = x })
        begun h z ez =
            record { coded = c; company = rw (ez, value_is, cell_is, eP); listed = rw (← eP) listed; small = rw (← most, ← value_is) h }
