-- The four pieces are the raw line, which is shorter than the output.
use Prim.Native.Nat.{◌+◌, ◌-◌, ◌*◌, ◌/◌, ◌≤◌}
use mathlib.Core.Path.{◌≡◌, ap, ◌∙◌}
use native.Mathlib.Omega.{arith}
use borrow.Author.Rules.{rules}
use lib.ListN.{length, length-take, length-drop}
use Rattle.numeral.specs.Numeral.{size}
use Rattle.rules.specs.Raw.{afi}
use Rattle.digits.proofs.Joins.{then, begun, integer_end}
use Rattle.bank.proofs.RawTexts.{few_words, long, pieces_fit, pieces_are}
use Rattle.bank.proofs.raw.write.Goals as goal
use Rattle.bank.proofs.raw.write.Goals.{After-byte-code, After-decimal, Start}

-- what is known of the bank: its words are few, they are there, and the pieces fit the output
module _ (s : Start) where
  few : s.args.words ≤ 31
  few = omega (arith, few_words s.args.bank.now s.args.words s.requires.0)

  there : 2 + 2 * s.args.words ≤ length s.args.bank.now
  there = long s.args.bank.now s.args.words s.requires.0

  fit : 12 + (size 10 (16 * s.args.words) + (length (afi s.args.bank.now) + (2 + 4 * s.args.words))) ≤ 145
  fit = pieces_fit s.args.bank.now s.args.words s.requires.0

-- the start of the code
code : (c : After-byte-code) → c.byte-code.result ≡ 2
code c = c.byte-code.ensures ∙ ap (λ a. (a - 0x10) / 8) c.address.ensures

-- where the output stands behind the decimal number, and that it is as long as the lent one
behind_decimal : (c : After-decimal) → (c.decimal.new.self.at ≡ 12 + size 10 (16 * c.args.words)) × (length c.decimal.new.self.out.now ≡ length c.args.out.now)
behind_decimal c = (
  omega (arith, integer_end (16 * c.args.words) c.decimal.ensures, c.put.ensures.puts.end, c.new-w.ensures.start),
  omega (arith, c.decimal.ensures.size, c.put.ensures.size, ap length c.new-w.ensures.bytes),
)

pub overflow_mul-words : goal.overflow_mul-words
overflow_mul-words c = omega (arith, few (goal.at.overflow_mul-words c).Start)

pub decimal-requires : goal.decimal-requires
decimal-requires c =
    let s = (goal.at.decimal-requires c).Start in
    omega (arith, c.put.ensures.puts.end, c.put.ensures.size, c.new-w.ensures.start, ap length c.new-w.ensures.bytes, fit s, c.requires.1)

pub put_afi-requires : goal.put_afi-requires
put_afi-requires c =
    let s = (goal.at.put_afi-requires c).Start in
    let (e, l) = behind_decimal (goal.at.put_afi-requires c).After-decimal in
    (omega (arith, there s), omega (arith, e, l, few s, fit s, c.requires.1))

pub size-behind-requires : goal.size-behind-requires
size-behind-requires c = omega (arith, few (goal.at.size-behind-requires c).Start)

pub put_field-requires : goal.put_field-requires
put_field-requires c =
    let s = (goal.at.put_field-requires c).Start in
    let (e, l) = behind_decimal (goal.at.put_field-requires c).After-decimal in
    simp (length-take, length-drop)
    (omega (arith, code (goal.at.put_field-requires c).After-byte-code, c.size-behind.ensures, c.put_afi.ensures.puts.end, c.put_afi.ensures.size, e, l, few s, fit s, c.requires.1))

pub returns : goal.returns
returns c =
    let words = rw (code (goal.at.returns c).After-byte-code, c.size-behind.ensures) at c.put_field.ensures in
    let pieces = then c.put.ensures (then c.decimal.ensures (then c.put_afi.ensures words)) in
    let line = pieces_are c.args.bank.now c.args.words c.requires.0 (begun c.new-w.ensures pieces) in
    record { end = line.end; bytes = search rules }
