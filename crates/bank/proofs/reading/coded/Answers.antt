-- The tests are those of the rules 13 to 15; past them the words are a code of the scheme that the header names.
use mathlib.Core.Path.{◌≡◌, refl, ap, ◌∙◌}
use mathlib.Core.List.{List}
use Prim.Native.Nat.{ℕ, ◌+◌, ◌*◌, ◌≤◌, ◌<◌}
use native.Mathlib.Omega.{arith}
use lib.ListN.{length}
use Rattle.std.proofs.lemmas.Result.{err_from_is_err_and}
use Rattle.rules.specs.declared.Scheme.{Scheme}
use Rattle.rules.specs.declared.Parts.{Parts}
use Rattle.rules.specs.Answers.{refused}
use Rattle.rules.specs.BankNumbers.{tag_of_bank}
use Rattle.rules.proofs.BankReads.{at_lt}
use Rattle.fields.specs.BitReaders.{code_field}
use Rattle.fields.proofs.Readers.{Stands, number, on}
use Rattle.bank.specs.Reading.{Coded}
use Rattle.bank.proofs.Answers.{refuses, missing}
use Rattle.bank.proofs.Headers.{few_counted, Ended, no_scheme, too_few, ended, not_zero, coded}
use Rattle.bank.proofs.reading.coded.Goals as goal
use Rattle.bank.proofs.reading.coded.Goals.{After-about-outline, After-by_header, After-first_one-one, After-new-reader, After-take-header, After-zeros, Else-words-outline, In_ok-s, Start}

coded_as : (b : List ℕ) (s : Scheme) (p q : Parts) → p ≡ q → Coded b s p → Coded b s q
coded_as b s p q e c = rw e at c

-- where the reader stands: at the header, and behind it
header_at : (c : After-new-reader) → Stands c.new-reader.result c.args.bank.now 0
header_at c = record { bank = ap (λ r. r.bank.now) c.new-reader.ensures; place = ap (λ r. r.at.0) c.new-reader.ensures }

parts_at : (c : After-take-header) → Stands c.take-header.new.self c.args.bank.now 8
parts_at c = on (header_at (goal.at.After-take-header c).After-new-reader) 8 c.take-header.ensures.rest

header_is : (c : After-take-header) → c.take-header.result ≡ code_field c.args.bank.now 0 8
header_is c = number (header_at (goal.at.After-take-header c).After-new-reader) 8 c.take-header.ensures.number

pub overflow_cast-header : goal.overflow_cast-header
overflow_cast-header c = let t = (goal.at.overflow_cast-header c).After-take-header in omega (arith, header_is t, at_lt c.args.bank.now 0x20 8)

pub returns-in_err-s : goal.returns-in_err-s
returns-in_err-s c =
    let read = (goal.at.returns-in_err-s c).After-take-header in
    let none = c.in_err-s.ensures in
    let p = err_from_is_err_and c.from_residual.result c.from_residual.ensures.1 in
    rw (p.1, p.2) (refuses (missing _ none.value none.ok_part ∙ c.at_bit.ensures) refl (no_scheme _ _ c.requires _ (header_is read) _ c.by_header.ensures none.ok_part))

pub returns-then-words-outline : goal.returns-then-words-outline
returns-then-words-outline c =
    let read = (goal.at.returns-then-words-outline c).After-take-header in
    refuses c.at.ensures refl (too_few _ _ c.requires _ (header_is read) _ c.by_header.ensures _ c.in_ok-s.ensures.ok_part _ c.about-outline.ensures c.if-words-outline.true)

module _ (c : After-zeros) where
  abbrev test : Else-words-outline
  test = (goal.at.After-zeros c).Else-words-outline

  abbrev outline : After-about-outline
  outline = (goal.at.Else-words-outline test).After-about-outline

  abbrev is : In_ok-s
  is = (goal.at.After-about-outline outline).In_ok-s

  abbrev call : After-by_header
  call = (goal.at.In_ok-s is).After-by_header

  abbrev read : After-take-header
  read = (goal.at.After-by_header call).After-take-header

  abbrev begin : Start
  begin = (goal.at.After-new-reader (goal.at.After-take-header read).After-new-reader).Start

  after : Ended outline.about-outline.result.bits c.zeros.result begin.args.words (length begin.args.bank.now)
  after = ended _ _ begin.requires _ (header_is read) _ call.by_header.ensures _ is.in_ok-s.ensures.ok_part _ outline.about-outline.ensures test.if-words-outline.false _ c.zeros.ensures

-- the first one behind the parts
module _ (c : After-first_one-one) where
  abbrev z : After-zeros
  z = (goal.at.After-first_one-one c).After-zeros

  abbrev first : ℕ
  first = c.first_one-one.result.0

  -- it is one of the words' bits, or behind them
  one_after : first < 16 * (begin z).args.words → tag_of_bank (begin z).args.bank.now ≡ refused 15 (0x20 + first)
  one_after =
      not_zero _ _ (begin z).requires _ (header_is (read z)) _ (call z).by_header.ensures _ (is z).in_ok-s.ensures.ok_part _ (outline z).about-outline.ensures (test z).if-words-outline.false _ z.zeros.ensures _ c.first_one-one.ensures

  in_code : 16 * (begin z).args.words ≤ first → Coded (begin z).args.bank.now (is z).in_ok-s.s (outline z).about-outline.result.parts
  in_code =
      coded _ _ (begin z).requires _ (header_is (read z)) _ (call z).by_header.ensures _ (is z).in_ok-s.ensures.ok_part _ (outline z).about-outline.ensures (test z).if-words-outline.false _ z.zeros.ensures _ c.first_one-one.ensures

pub overflow_mul-end : goal.overflow_mul-end
overflow_mul-end c = omega (arith, few_counted c.args.bank.now _ c.requires)

pub first_one-one-requires : goal.first_one-one-requires
first_one-one-requires c = let a = after (goal.at.first_one-one-requires c).After-zeros in record { order = a.inside; small = omega (arith, a.few); whole = omega arith; inside = omega (arith, a.long) }

pub at_bit-requires-then-one-end : goal.at_bit-requires-then-one-end
at_bit-requires-then-one-end c = omega (arith, c.if-one-end.true, (after (z (goal.at.at_bit-requires-then-one-end c).After-first_one-one)).few)

pub returns-then-one-end : goal.returns-then-one-end
returns-then-one-end c = refuses c.at_bit-then-one-end.ensures refl (one_after (goal.at.returns-then-one-end c).After-first_one-one c.if-one-end.true)

pub general-requires : goal.general-requires
general-requires c =
    let one = (goal.at.general-requires c).After-first_one-one in
    let at = parts_at (read (z one)) in
    rw at.bank (coded_as _ _ _ _ c.in-Integers.is (in_code one c.if-one-end.false), at.place)

pub partitioned-requires : goal.partitioned-requires
partitioned-requires c =
    let one = (goal.at.partitioned-requires c).After-first_one-one in
    let at = parts_at (read (z one)) in
    rw at.bank (coded_as _ _ _ _ c.in-F.is (in_code one c.if-one-end.false), at.place)
