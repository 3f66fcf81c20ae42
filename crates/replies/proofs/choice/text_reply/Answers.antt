-- What is written is the bank in hex, or the number.
use Prim.Native.Nat.{◌≤◌}
use mathlib.Core.Path.{◌≡◌}
use native.Mathlib.Omega.{arith}
use lib.Dec.{lit≤}
use lib.ListN.{length, take, length-take}
use borrow.Author.Rules.{rules}
use borrow.Author.Tests.{le-leb, lt-leb}
use Rattle.rules.specs.Calls.{bank_room}
use Rattle.rules.specs.TextNumbers.{tag_of_text}
use Rattle.replies.specs.Replies.{most_characters, reply_b, of_text}
use Rattle.replies.proofs.Answered.{bank_written, text_refused}
use Rattle.scheme.specs.Refusals.{number}
use Rattle.replies.proofs.choice.text_reply.Goals as goal
use Rattle.replies.proofs.choice.text_reply.Goals.{In-Ok}

pub returns-then-line-gt-MOST_CHARACTERS : goal.returns-then-line-gt-MOST_CHARACTERS
returns-then-line-gt-MOST_CHARACTERS c =
    rw (lt-leb (length c.args.line.now) most_characters (search rules)) c.put_neither.ensures

-- the bank that was written, from the place where its length is known
wrote : (c : In-Ok) → let n = c.in-Ok.written.length in
    let e = c.text_to_bank.new.out in
    (n ≤ bank_room) × (n ≡ length (take n e)) × (of_text (tag_of_text c.args.line.now) ≡ reply_b (take n e))
wrote c =
    bank_written c.args.line.now _ c.text_to_bank.new.out c.in-Ok.written.length (lit≤ tt) _ (rw c.in-Ok.is at c.text_to_bank.ensures)

pub slice_bounds-bank-end : goal.slice_bounds-bank-end
slice_bounds-bank-end c = let (l, e, _) = wrote c in omega (arith, length-take c.in-Ok.written.length c.text_to_bank.new.out)

pub slice_bounds-put_bank-end : goal.slice_bounds-put_bank-end
slice_bounds-put_bank-end c = (wrote (goal.at.slice_bounds-put_bank-end c).In-Ok).1

pub put_bank-requires : goal.put_bank-requires
put_bank-requires c = let (l, e, _) = wrote (goal.at.put_bank-requires c).In-Ok in omega arith

pub returns-in-Ok : goal.returns-in-Ok
returns-in-Ok c =
    let k = (goal.at.returns-in-Ok c).In-Ok in
    rw (le-leb (length c.args.line.now) most_characters c.if-line-gt-MOST_CHARACTERS.false, (wrote k).2) c.put_bank.ensures

pub returns-in-Err : goal.returns-in-Err
returns-in-Err c =
    let e = text_refused c.args.line.now _ c.text_to_bank.new.out (number c.in-Err.refusal.rule) (lit≤ tt) _ (rw c.in-Err.is at c.text_to_bank.ensures) in
    rw (le-leb (length c.args.line.now) most_characters c.if-line-gt-MOST_CHARACTERS.false, e) (rw c.number.ensures at c.put_number.ensures)
