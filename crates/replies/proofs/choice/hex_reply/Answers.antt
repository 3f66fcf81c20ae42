-- A line that is a bank is read to it.
use Prim.Native.Nat.{◌/◌, ◌≤◌}
use mathlib.Core.Path.{◌≡◌, refl, sym, ◌∙◌}
use mathlib.Core.Bool.{true}
use lib.ListN.{length, take}
use Rattle.replies.specs.Hex.{is_bank, bytes_in}
use Rattle.replies.proofs.Hexes.{bank_fits, bank_read}
use Rattle.replies.proofs.choice.hex_reply.Goals as goal
use Rattle.replies.proofs.choice.hex_reply.Goals.{After-bank-2-1, Else-not-is_bank}

pub returns-then-not-is_bank : goal.returns-then-not-is_bank
returns-then-not-is_bank c =
    rw (sym c.is_bank.ensures ∙ c.if-not-is_bank.true) c.put_neither.ensures

-- the line is a bank
is_bank_lem : (c : Else-not-is_bank) → is_bank c.args.line.now ≡ true
is_bank_lem c = sym c.is_bank.ensures ∙ c.if-not-is_bank.false

pub read-requires : goal.read-requires
read-requires c = bank_fits c.args.line.now (is_bank_lem (goal.at.read-requires c).Else-not-is_bank)

-- and is read
read : (c : After-bank-2-1) → let l = c.args.line.now in
    let e = c.read.new.bank in
    (length l / 2 ≤ length e) × (length l / 2 ≡ length (take (length l / 2) e)) × (take (length l / 2) e ≡ bytes_in l)
read c =
    let e = (goal.at.After-bank-2-1 c).Else-not-is_bank in
    bank_read c.args.line.now (is_bank_lem e) _ c.read.new.bank refl c.read.ensures

pub returns : goal.returns
returns c =
    let k = (goal.at.returns c).After-bank-2-1 in
    let e = (goal.at.returns c).Else-not-is_bank in
    rw (is_bank_lem e) (rw (read k).2 at c.bank_reply.ensures)

pub slice_bounds-bank-end : goal.slice_bounds-bank-end
slice_bounds-bank-end c = (read c).0

pub slice_bounds-bank_reply-end : goal.slice_bounds-bank_reply-end
slice_bounds-bank_reply-end c = (read (goal.at.slice_bounds-bank_reply-end c).After-bank-2-1).1
