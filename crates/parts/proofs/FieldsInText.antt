-- The control fields of a text from an index on: umi, then att where umi ends, then the colon.
use Prim.Native.Nat.{ℕ, ◌+◌, ◌≤◌, ◌<◌}
use Prim.Native.Char.{code}
use mathlib.Core.Path.{◌≡◌, sym, ◌∙◌, ap}
use mathlib.Core.List.{List, [], ◌∷◌}
use native.Mathlib.Omega.{arith}
use lib.ListN.{length, get_or, drop, length-append, drop_of_length-le}
use borrow.Author.Tests.{ne_eqb}
use Rattle.rules.specs.declared.ControlFields.{ControlFields}
use Rattle.rules.specs.Bytes.{colon}
use Rattle.rules.specs.declared.ControlName.{ControlName}
use Rattle.rules.specs.declared.ControlName.TheVariants.{Umi, Att}
use Rattle.rules.specs.ControlFields.{standing, fields_text, no_fields}
use Rattle.rules.specs.Answers.{taken, given, ◌>>=◌}
use Rattle.rules.specs.TextNumbers.{after, value_in, bracketed, control_fields_in}
use Rattle.rules.specs.Conditions.{Begins}
use Rattle.rules.proofs.Starts.{begins_behind}
use Rattle.rules.proofs.ControlTexts.{value_is}
use Rattle.rules.proofs.ControlReads.{opened}
use Rattle.digits.proofs.Runs.{drop_next}
use Rattle.parts.specs.Controls.{valued_at, controlled_by}
use Rattle.parts.specs.declared.control.Valued.{Valued}
use Rattle.std.specs.Prelude.{Ok}
use Rattle.scheme.specs.Refusals.{refusal}

-- a field's value is the written rules', and behind the field the text goes on
module _ (f : ControlName) (t : List ℕ) (i : ℕ) (m : Valued) (l : i ≤ length t) (e : m ≡ valued_at f i (drop i t)) where
  behind : Begins t (value_in f (drop i t)).rest m.next
  behind = let r = value_in f (drop i t) in rw e (begins_behind t (standing f r.value) r.rest i (l, sym (value_is f (drop i t)).1))

  value : (value_in f (drop i t)).value ≡ m.value
  value = rw e

  next : m.next ≡ i + length (standing f m.value)
  next = rw e

module _ (t : List ℕ) (i : ℕ) (m : Valued) (inside : i ≤ length t) (first : m ≡ valued_at Umi i (drop i t)) where
  pub umi_inside : m.next ≤ length t
  umi_inside = (behind Umi t i m inside first).0

  module _ (a : Valued) (second : a ≡ valued_at Att m.next (drop m.next t)) where
    abbrev read : ControlFields
    read = record { umi = m.value; att = a.value }

    end : i + length (fields_text read) ≡ a.next
    end = omega (arith, next Umi t i m inside first, next Att t m.next a umi_inside second, length-append (standing Umi m.value) (standing Att a.value))

    fields_read : bracketed i (drop i t) ≡ (given (after (colon ∷ []) (drop a.next t)) 20 a.next >>= λ v. taken (record { control = read; next = a.next + 1; rest = v }))
    fields_read =
        rw (
          (behind Umi t i m inside first).1,
          (behind Att t m.next a umi_inside second).1,
          value Umi t i m inside first,
          value Att t m.next a umi_inside second,
          end,
        )

    pub text_ends : length t ≤ a.next → refusal 20 a.next ≡ controlled_by (bracketed i (drop i t))
    text_ends l = rw (fields_read, drop_of_length-le t l)

    module _ (more : a.next < length t) where
      pub no_colon : ¬ (get_or t a.next 0 ≡ code ":") → refusal 20 a.next ≡ controlled_by (bracketed i (drop i t))
      no_colon n = rw (fields_read, drop_next t a.next more, ne_eqb (code ":") (get_or t a.next 0) (λ e. n (sym e)))

      pub a_colon : get_or t a.next 0 ≡ code ":" → Ok (record { control = read; next = a.next + 1 }) ≡ controlled_by (bracketed i (drop i t))
      a_colon e = rw (fields_read, drop_next t a.next more, e)

-- no bracket, or one
module _ (t : List ℕ) (i : ℕ) where
  pub at_the_end : length t ≤ i → Ok (record { control = no_fields; next = i }) ≡ controlled_by (control_fields_in i (drop i t))
  at_the_end l = rw (drop_of_length-le t l)

  module _ (more : i < length t) where
    pub no_bracket : ¬ (get_or t i 0 ≡ code "[") → Ok (record { control = no_fields; next = i }) ≡ controlled_by (control_fields_in i (drop i t))
    no_bracket n = let d = drop_next t i more in rw (d, ne_eqb (get_or t i 0) (code "[") n)

    pub a_bracket : get_or t i 0 ≡ code "[" → controlled_by (bracketed i (drop i t)) ≡ controlled_by (control_fields_in i (drop i t))
    a_bracket e = ap controlled_by (sym (opened i (drop i t) (drop (i + 1) t, drop_next t i more ∙ ap (◌∷ drop (i + 1) t) e)))
