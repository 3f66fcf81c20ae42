-- `bank_to_text` meets its contract: the reading is the rules', what it gives is written, and W is the bank's own.
use Prim.Native.Nat.{ℕ}
use mathlib.Core.Path.{◌≡◌, sym, ap, ◌∙◌}
use native.Mathlib.Omega.{arith}
use mathlib.Core.List.{List}
use Rattle.std.specs.Prelude.{Err}
use Rattle.std.proofs.lemmas.Result.{err_from_is_err_and}
use Rattle.rules.specs.Answers.{Answer, taken, ◌>>=◌}
use Rattle.rules.specs.Grammar.{Tag, text_of}
use Rattle.rules.specs.Coding.{word_count}
use Rattle.rules.specs.Conditions.{bank_rules}
use Rattle.rules.specs.Calls.{Output, text_room, bank_to_text}
use Rattle.rules.specs.BankNumbers.{tag_of_bank}
use Rattle.rules.proofs.Banks.{Shown}
use Rattle.rules.proofs.BankReads.{bank_reads}
use Rattle.scheme.specs.declared.record.Record.{Record}
use Rattle.scheme.specs.Records.{RecordIs, reading_of}
use Rattle.std.specs.Prelude.{Ok}
use Rattle.codec.proofs.Ends.{short, refuses, writes, read_refused, read_taken, bank_numbered}
use Rattle.codec.proofs.bank_to_text.Goals as goal

abbrev shown : List ℕ → Answer Tag → Answer Output
shown b a = a >>= λ τ. taken (word_count b, text_of τ)

pub returns-then-out-lt-TEXT_ROOM : goal.returns-then-out-lt-TEXT_ROOM
unfolding bank_to_text
returns-then-out-lt-TEXT_ROOM c = let x = c.args in rw c.at.ensures (short text_room x.out.now (shown x.bank.now (tag_of_bank x.bank.now)) c.if-out-lt-TEXT_ROOM.true)

pub returns-in_err-tag : goal.returns-in_err-tag
unfolding bank_to_text
returns-in_err-tag c =
    let x = c.args in
    let b = x.bank.now in
    let r = c.in_err-tag.field-0.0 in
    let p = err_from_is_err_and c.from_residual.result c.from_residual.ensures.1 in
    let same : c.from_residual.result ≡ Err r = p.1 ∙ ap Err p.2 in
    let e = read_refused (bank_rules b) (bank_numbered b) (Shown b) (tag_of_bank b) (bank_reads b) r c.in_err-tag.ensures in
    rw same (refuses text_room x.out.now c.if-out-lt-TEXT_ROOM.false r (shown b (tag_of_bank b)) (ap (shown b) e))

-- the tag that was read
tag : (b : List ℕ) (r : Record) → Ok r ≡ reading_of (tag_of_bank b) → (τ : Tag) × (tag_of_bank b ≡ taken τ) × RecordIs r τ
tag b = read_taken (bank_rules b) (bank_numbered b) (Shown b) (tag_of_bank b) (bank_reads b) λ τ h. h.fits

pub write-length-requires-clause-has_tag : goal.write-length-requires-clause-has_tag
write-length-requires-clause-has_tag c =
    let (τ, _, i) = tag c.args.bank.now c.in_ok-tag.tag c.in_ok-tag.ensures in
    record { tag = τ; is = i }

-- such a bank has its words, and so two bytes
pub word_count-requires : goal.word_count-requires
word_count-requires c =
    let b = c.args.bank.now in
    let (τ, a, _) = tag b c.in_ok-tag.tag c.in_ok-tag.ensures in
    omega (arith, (rw a at (bank_reads b)).1.long)

pub returns : goal.returns
unfolding bank_to_text
returns c =
    let x = c.args in
    let b = x.bank.now in
    let (τ, a, i) = tag b c.in_ok-tag.tag c.in_ok-tag.ensures in
    let (n, o) = c.write-length.ensures τ i in
    writes text_room x.out.now c.if-out-lt-TEXT_ROOM.false c.word_count.result (text_of τ) (shown b (tag_of_bank b)) (ap (shown b) a ∙ ap (λ W. taken (W, text_of τ)) (sym c.word_count.ensures)) _ _ n o
