-- An integer, or so many characters.
use Prim.Native.Nat.{ℕ, ◌/◌, ◌≤◌, ◌<◌}
use mathlib.Core.Path.{◌≡◌, sym, ap, ◌∙◌}
use mathlib.Core.Bool.{true, false}
use mathlib.Core.List.{List}
use lib.ListN.{length}
use borrow.Author.Tests.{le-leb, lt-leb}
use Rattle.std.specs.Prelude.{Some, None, Err, option_map}
use Rattle.std.proofs.lemmas.Result.{err_from_is_err_and}
use Rattle.rules.specs.declared.Scheme.{Scheme}
use Rattle.rules.specs.Schemes.{integer}
use Rattle.rules.specs.Schemes.{about as aboutScheme}
use Rattle.alphabet.specs.Strings.{string_part}
use Rattle.identify.specs.declared.counted.Fault.TheVariants.{WrongText, Unheld}
use Rattle.identify.specs.Words.{fitting, by_row, last_bits, by_serial}
use Rattle.identify.proofs.Verdicts.{the_fault}
use Rattle.identify.proofs.counted.by_serial.Goals as goal
use Rattle.identify.proofs.counted.by_serial.Goals.{After-is_integer, Else-is_integer}

module _ (n : ℕ) (s l : Scheme) (z : List ℕ) where
  an_integer : fitting (integer (last_bits (aboutScheme s).parts)) z ≡ true → by_row n s ≡ by_serial n s l z
  an_integer e = rw e

  module _ (e : fitting (integer (last_bits (aboutScheme s).parts)) z ≡ false) where
    no_characters : None ≡ option_map length (string_part z) → Err WrongText ≡ by_serial n s l z
    no_characters h = rw (e, sym h)

    module _ (k : ℕ) (h : Some k ≡ option_map length (string_part z)) where
      too_many : last_bits (aboutScheme l).parts / 7 < k → Err Unheld ≡ by_serial n s l z
      too_many m = rw (e, sym h, lt-leb k (last_bits (aboutScheme l).parts / 7) m)

      enough : k ≤ last_bits (aboutScheme l).parts / 7 → by_row n l ≡ by_serial n s l z
      enough m = rw (e, sym h, le-leb k (last_bits (aboutScheme l).parts / 7) m)

-- whether it is an integer, from the place where that is asked
judged : (c : After-is_integer) → let a = c.args in c.is_integer.result ≡ fitting (integer (last_bits (aboutScheme a.s).parts)) a.x.now
judged c =
    let a = c.args in
    c.is_integer.ensures ∙ ap (λ b. fitting (integer b) a.x.now) c.last_bits.ensures

no_integer : (c : Else-is_integer) → let a = c.args in fitting (integer (last_bits (aboutScheme a.s).parts)) a.x.now ≡ false
no_integer c = sym (judged (goal.at.Else-is_integer c).After-is_integer) ∙ c.if-is_integer.false

pub is_integer-requires : goal.is_integer-requires
is_integer-requires c = rw c.last_bits.ensures c.requires

pub returns-then-is_integer : goal.returns-then-is_integer
returns-then-is_integer c =
    let i = (goal.at.returns-then-is_integer c).After-is_integer in
    let a = c.args in
    c.by_row.ensures ∙ an_integer a.n a.s a.l a.x.now (sym (judged i) ∙ c.if-is_integer.true)

pub returns-in_err-count : goal.returns-in_err-count
returns-in_err-count c =
    let a = c.args in
    let p = err_from_is_err_and c.from_residual.result c.from_residual.ensures.1 in
    rw (p.1, p.2, the_fault c.in_err-count.ensures.ok_part c.in_err-count.ensures.value)
    (no_characters a.n a.s a.l a.x.now (no_integer (goal.at.returns-in_err-count c).Else-is_integer) (sym c.in_err-count.ensures.ok_part ∙ c.characters_in.ensures))

pub returns-then-last_bits-count : goal.returns-then-last_bits-count
returns-then-last_bits-count c =
    let a = c.args in
    too_many a.n a.s a.l a.x.now (no_integer (goal.at.returns-then-last_bits-count c).Else-is_integer) _ (sym c.in_ok-count.ensures.ok_part ∙ c.characters_in.ensures)
    (rw (← c.last_bits-2.ensures) c.if-last_bits-count.true)

pub returns : goal.returns
returns c =
    let a = c.args in
    c.by_row-2.ensures
    ∙ enough a.n a.s a.l a.x.now (no_integer (goal.at.returns c).Else-is_integer) _ (sym c.in_ok-count.ensures.ok_part ∙ c.characters_in.ensures) (rw (← c.last_bits-2.ensures) c.if-last_bits-count.false)
