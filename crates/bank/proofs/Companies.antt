-- The reference and the last part, in the code's own terms: k is what is read up to the company prefix, `at` the code bit behind it, and h the shape
-- of what stands there.
use Prim.Native.Nat.{ℕ, ◌+◌, ◌^◌, ◌≤◌, ◌<◌}
use mathlib.Core.Path.{◌≡◌, refl, sym, ap, ◌∙◌}
use Rattle.std.specs.Prelude.{Option, None, Some, Ok, Err}
use mathlib.Core.List.{List}
use native.Mathlib.Omega.{arith}
use lib.ListN.{length}
use Rattle.rules.specs.Answers.{refused}
use Rattle.rules.specs.declared.Scheme.{Scheme}
use Rattle.rules.specs.declared.Body.{Body}
use Rattle.rules.specs.declared.Parts.TheVariants.{F}
use Rattle.rules.specs.Schemes.{row_at, words}
use Rattle.rules.specs.Conditions.{partition_in, row_in}
use Rattle.rules.specs.BankNumbers.{control_fields, tag_of_bank}
use Rattle.rules.specs.declared.ControlFields.{ControlFields}
use Rattle.scheme.specs.declared.refusal.Refusal.{Refusal}
use Rattle.scheme.specs.Refusals.{rule_of, by}
use Rattle.scheme.specs.Records.{reading_of}
use Rattle.fields.specs.BitReaders.{LiesInCode, code_field}
use Rattle.bank.specs.declared.reading.Company.{Company}
use Rattle.bank.specs.declared.reading.Shape.{Shape}
use Rattle.bank.specs.declared.reading.Ending.{Ending}
use Rattle.bank.specs.Reading.{Begun, prefix_end, shape_of, LastLies, ending_at}
use Rattle.bank.proofs.Sizes.{Roomy, roomy}
use Rattle.bank.proofs.Numbers.{reference_address}
use Rattle.bank.proofs.Parts.{last_address}
use Rattle.bank.proofs.Records.{read_to}
use Rattle.bank.proofs.Answers.{lies, last_lies, large_reference, read_last}

module _ (b : List ℕ) (s : Scheme) (body : Body) (k : Company) (g : Begun b s body k) (at : ℕ) (here : at ≡ prefix_end b) where
  pub listed : k.row < 7
  listed = rw g.company g.listed

  module _ (h : Shape) (e : h ≡ shape_of body (row_at k.row)) where
    shape_is : h ≡ shape_of body (row_in b)
    shape_is = e ∙ ap (λ k. shape_of body (row_at k.row)) g.company

    pub room : Roomy (words s) (row_in b) h
    room = rw shape_is (roomy s body g.coded.parts (partition_in b) g.listed)

    pub reference_lies : LiesInCode at h.cell.bits (length b)
    reference_lies = lies b s (F body) g.coded at h.cell.bits room.narrow (omega (arith, here, room))

    -- x is one more than the reference may be, and y is the reference
    module _ (x y : ℕ) (ex : x ≡ 10 ^ h.cell.digits) (ey : y ≡ code_field b at h.cell.bits) where
      most : x ≡ 10 ^ (shape_of body (row_in b)).cell.digits
      most = ex ∙ ap (λ h. 10 ^ h.cell.digits) shape_is

      read : y ≡ code_field b (prefix_end b) (shape_of body (row_in b)).cell.bits
      read = ey ∙ rw (here, shape_is)

      pub large : x ≤ y → tag_of_bank b ≡ refused 18 (0x20 + at)
      large l =
          let place : reference_address b ≡ 0x20 + at = omega (arith, here) in
          large_reference b s body g.coded g.listed g.small (rw (← most, ← read) l) ∙ ap (refused 18) place

      -- y is small, and the last part stands at the code bit `next`
      module _ (l : y < x) (next : ℕ) (there : next ≡ at + h.cell.bits) where
        pub ending_lies : LastLies next h.last (length b)
        ending_lies = last_lies b s (F body) g.coded h.last room.last next (omega (arith, there, here, room))

        below : code_field b (prefix_end b) (shape_of body (row_in b)).cell.bits < 10 ^ (shape_of body (row_in b)).cell.digits
        below = rw (← most, ← read) l

        reads : reading_of (tag_of_bank b) ≡ read_to b s g.small y (0x20 + next) (ending_at b next h.last)
        reads =
            let place : last_address b body ≡ 0x20 + next = omega (arith, there, here, ap (λ h. h.cell.bits) shape_is) in
            let first : next ≡ prefix_end b + (shape_of body (row_in b)).cell.bits = rw (there, here, shape_is) refl in
            rw (← place, first, read, shape_is) (read_last b s body g.coded g.listed g.small below)

        -- o is the last part, if any
        module _ (o : Option Ending) (eo : o ≡ ending_at b next h.last) where
          pub no_ending : o ≡ None → {r : Refusal} → r ≡ by (rule_of 19) (0x20 + next) → Err r ≡ reading_of (tag_of_bank b)
          no_ending none e = ap Err e ∙ sym (reads ∙ rw (← eo, none))

          pub some_ending : (f : ControlFields) → f ≡ control_fields b → (z : Ending) → o ≡ Some z
              → Ok (record { scheme = s; control = f; filter = k.filter; prefix = k.prefix; digits = k.digits; reference = y; serial = z.serial; characters = z.characters; count = z.count }) ≡ reading_of (tag_of_bank b)
          some_ending f ef z is = sym (reads ∙ rw (← eo, is, ef, g.company))
