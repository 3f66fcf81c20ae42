-- `raw_line` meets its contract: its tests are rule 1, and the rules 9 and 10 of the bank's words.
use mathlib.Core.Path.{◌≡◌, ap, ◌∙◌}
use native.Mathlib.Omega.{arith}
use Rattle.std.specs.Prelude.{Err}
use Rattle.std.proofs.lemmas.Result.{err_from_is_err_and}
use Rattle.rules.specs.BankNumbers.{words_in}
use Rattle.rules.specs.Conditions.{raw_rules}
use Rattle.rules.specs.Raw.{raw_text}
use Rattle.rules.specs.Calls.{text_room, raw_line}
use Rattle.rules.proofs.BankReads.{words_reads}
use Rattle.digits.proofs.Joins.{from_start}
use Rattle.codec.proofs.Ends.{short, refuses, writes, count_refused, count_taken, raw_numbered}
use Rattle.codec.proofs.RawAnswers.{raw_in, raw_refused, raw_taken}
use Rattle.codec.proofs.raw_line.Goals as goal

pub returns-then-out-lt-TEXT_ROOM : goal.returns-then-out-lt-TEXT_ROOM
unfolding raw_line
returns-then-out-lt-TEXT_ROOM c = let x = c.args in rw c.at.ensures (short text_room x.out.now (raw_in x.bank.now) c.if-out-lt-TEXT_ROOM.true)

pub returns-in_err-words : goal.returns-in_err-words
unfolding raw_line
returns-in_err-words c =
    let x = c.args in
    let b = x.bank.now in
    let r = c.in_err-words.field-0.0 in
    let p = err_from_is_err_and c.from_residual.result c.from_residual.ensures.1 in
    let same : c.from_residual.result ≡ Err r = p.1 ∙ ap Err p.2 in
    let e = count_refused (raw_rules b) (raw_numbered b) _ (words_in b) (words_reads b) r c.in_err-words.ensures in
    rw same (refuses text_room x.out.now c.if-out-lt-TEXT_ROOM.false r (raw_in b) (raw_refused b _ _ e))

pub write-length-requires : goal.write-length-requires
write-length-requires c = (count_taken (words_in c.args.bank.now) c.in_ok-words.words c.in_ok-words.ensures, omega (arith, c.if-out-lt-TEXT_ROOM.false))

pub returns : goal.returns
unfolding raw_line
returns c =
    let x = c.args in
    let b = x.bank.now in
    let W = c.in_ok-words.words in
    let (n, o) = from_start c.write-length.ensures in
    writes text_room x.out.now c.if-out-lt-TEXT_ROOM.false W (raw_text b) (raw_in b) (raw_taken b W (count_taken (words_in b) W c.in_ok-words.ensures)) _ _ n o
