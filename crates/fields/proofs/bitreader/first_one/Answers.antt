use Prim.Native.Nat.{ℕ, ◌+◌, ◌-◌, ◌*◌, ◌%◌, ◌^◌, ◌≤◌, ◌<◌}
use mathlib.Core.Path.{◌≡◌, sym, ap, ◌∙◌}
use native.Mathlib.Omega.{arith}
use mathlib.Core.List.{List}
use lib.ListN.{length}
use Rattle.rules.specs.Bytes.{upto}
use Rattle.rules.specs.Coding.{binary}
use Rattle.rules.proofs.BankReads.{at_lt}
use Rattle.bits.specs.Bits.{field_at}
use Rattle.scheme.specs.declared.counts.CodeBit.{CodeBit}
use Rattle.fields.specs.BitReaders.{code_field, first_one}
use Rattle.fields.proofs.Zeros.{zeros_within}
use Rattle.fields.proofs.Ones.{passes, stops}
use Rattle.fields.proofs.bitreader.first_one.Goals as goal
use Rattle.fields.proofs.bitreader.first_one.Goals.{After-behind-at, After-index, After-rest_of_byte-value, Start}

-- where a byte is read, before its end and before that of all
module _ (c : After-index) where
  abbrev at : CodeBit
  at = c.loop-at.at

  abbrev begin : Start
  begin = (goal.at.After-index c).Start

  abbrev bank : List ℕ
  bank = begin.args.bank.now

  abbrev end : ℕ
  end = begin.args.end

  abbrev width : ℕ
  width = c.loop-at.width

  few : (at.0 + width ≤ end) × (0 < width) × (width ≤ 8)
  few = omega (arith, begin.requires.whole, c.loop-at.invariant.2, c.loop-at-test.true)

  index_is : c.index.result ≡ 0x20 + at.0 - 0x10
  index_is = c.index.ensures ∙ ap (◌- 0x10) c.address.ensures

  width_is : 8 - c.index.result % 8 ≡ width
  width_is = omega (arith, index_is, c.loop-at.invariant.2)

-- and its bits, once they are read
module _ (c : After-rest_of_byte-value) where
  abbrev byte : After-index
  byte = (goal.at.After-rest_of_byte-value c).After-index

  value_is : c.rest_of_byte-value.result ≡ code_field (bank byte) (at byte).0 (width byte)
  value_is =
      let b = bank byte in
      c.rest_of_byte-value.ensures ∙ ap (field_at b byte.index.result) (width_is byte) ∙ ap (λ p. field_at b p (width byte)) (index_is byte)

  value_fits : c.rest_of_byte-value.result < 2 ^ width byte
  value_fits = omega (arith, value_is, at_lt (bank byte) (0x20 + (at byte).0) (width byte))

  inside : 0x20 + end byte ≤ 0x10 + 8 * length (bank byte)
  inside = (begin byte).requires.inside

  so_far : first_one (bank byte) (begin byte).args.from.0 (end byte) ≡ first_one (bank byte) (at byte).0 (end byte)
  so_far = byte.loop-at.invariant.1

pub behind-requires : goal.behind-requires
behind-requires c =
    let p = (goal.at.behind-requires c).After-rest_of_byte-value in
    let (l, _, narrow) = few (byte p) in
    omega (arith, l, (begin (byte p)).requires.small, c.zeros_before.ensures, zeros_within p.rest_of_byte-value.result (width (byte p)) (value_fits p) (omega (arith, narrow)))

pub returns-then-value-ne0 : goal.returns-then-value-ne0
returns-then-value-ne0 c =
    let z = c.before in
    let p = (goal.at.returns-then-value-ne0 c).After-rest_of_byte-value in
    let b = byte p in
    let (l, _, narrow) = few b in
    let place : z.zeros_before.result ≡ length (upto 1 (binary (width b) (code_field (bank b) (at b).0 (width b)))) = z.zeros_before.ensures ∙ ap (λ v. length (upto 1 (binary (width b) v))) (value_is p) in
    let one = stops (bank b) (at b).0 (width b) (end b) l (inside p) (omega (arith, narrow)) (λ e. z.if-value-ne0.true (value_is p ∙ e)) in
    omega (arith, ap (λ b. b.0) c.behind.ensures, place, one, so_far p)

-- they are zeros
module _ (c : After-behind-at) where
  abbrev read : After-rest_of_byte-value
  read = (goal.at.After-behind-at c).After-rest_of_byte-value

  next_is : c.behind-at.result.0 ≡ (at (byte read)).0 + width (byte read)
  next_is = ap (λ b. b.0) c.behind-at.ensures

pub loop-at-preserved : goal.loop-at-preserved
loop-at-preserved c =
    let p = read c in
    let b = byte p in
    let (l, _, _) = few b in
    let on = passes (bank b) (at b).0 (width b) (end b) l (inside p) (sym (value_is p) ∙ c.if-value-ne0.false) in
    (omega (arith, next_is c, l), so_far p ∙ on ∙ ap (λ n. first_one (bank b) n (end b)) (sym (next_is c)), omega (arith, next_is c, width_is b, index_is b))

pub zeros_before-requires : goal.zeros_before-requires
zeros_before-requires c = let p = (goal.at.zeros_before-requires c).After-rest_of_byte-value in (value_fits p, omega (arith, few (byte p)))
