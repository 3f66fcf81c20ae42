-- `text_to_bank` meets its contract: 21 comes before the text is read, the reading is the rules', 22 comes behind it, and what it gives is written.
use Prim.Native.Nat.{ℕ, ◌≤◌}
use mathlib.Core.Path.{◌≡◌, ap, ◌∙◌}
use mathlib.Core.List.{List}
use Rattle.std.specs.Prelude.{Ok, Err}
use Rattle.std.proofs.lemmas.Result.{err_from_is_err_and}
use Rattle.rules.specs.Answers.{taken}
use Rattle.rules.specs.Grammar.{Tag, TagText}
use Rattle.rules.specs.Coding.{bank_of, most_words, EnoughWords}
use Rattle.rules.specs.Conditions.{text_rules}
use Rattle.rules.specs.TextNumbers.{tag_of_text}
use Rattle.rules.specs.Calls.{bank_room, words_to_write, bank_of_text, text_to_bank}
use Rattle.rules.proofs.TextReads.{tag_reads}
use Rattle.scheme.specs.declared.record.Record.{Record}
use Rattle.scheme.specs.Records.{RecordIs, reading_of}
use Rattle.scheme.specs.declared.refusal.Rule.TheVariants.{TooManyWords}
use Rattle.scheme.specs.Refusals.{by, in_code}
use Rattle.codec.proofs.Ends.{short, refuses, writes, read_refused, read_taken, text_numbered}
use Rattle.codec.proofs.AskedAnswers.{scheme_is, too_many, text_refused, too_few, enough_words}
use Rattle.codec.proofs.text_to_bank.Goals as goal

pub returns-then-out-lt-BANK_ROOM : goal.returns-then-out-lt-BANK_ROOM
unfolding text_to_bank
returns-then-out-lt-BANK_ROOM c = let x = c.args in rw c.at.ensures (short bank_room x.out.now (bank_of_text x.words x.text.now) c.if-out-lt-BANK_ROOM.true)

pub returns-then-words-gt-MOST_WORDS : goal.returns-then-words-gt-MOST_WORDS
unfolding text_to_bank
returns-then-words-gt-MOST_WORDS c =
    let x = c.args in
    rw c.at-then-words-gt-MOST_WORDS.ensures (refuses bank_room x.out.now c.if-out-lt-BANK_ROOM.false (by TooManyWords 0) (bank_of_text x.words x.text.now) (too_many x.words x.text.now c.if-words-gt-MOST_WORDS.true))

pub returns-in_err-tag : goal.returns-in_err-tag
unfolding text_to_bank
returns-in_err-tag c =
    let x = c.args in
    let t = x.text.now in
    let r = c.in_err-tag.field-0.0 in
    let p = err_from_is_err_and c.from_residual.result c.from_residual.ensures.1 in
    let same : c.from_residual.result ≡ Err r = p.1 ∙ ap Err p.2 in
    let e = read_refused (text_rules t) (text_numbered t) (TagText t) (tag_of_text t) (tag_reads t) r c.in_err-tag.ensures in
    rw same (refuses bank_room x.out.now c.if-out-lt-BANK_ROOM.false r (bank_of_text x.words t) (text_refused x.words t c.if-words-gt-MOST_WORDS.false _ _ e))

-- the tag that was read, and what its scheme and the words asked for say
module _ (t : List ℕ) (r : Record) (read : Ok r ≡ reading_of (tag_of_text t)) where
  tag : (τ : Tag) × (tag_of_text t ≡ taken τ) × RecordIs r τ
  tag = read_taken (text_rules t) (text_numbered t) (TagText t) (tag_of_text t) (tag_reads t) (λ τ h. h.fits) r read

  of_tag : (W : ℕ) → in_code (words_to_write W r.scheme) ≡ in_code (words_to_write W tag.0.scheme)
  of_tag W = ap (λ s. in_code (words_to_write W s)) (scheme_is r tag.0 tag.2)

  enough : (W : ℕ) → W ≤ most_words → (v : ℕ) → Ok v ≡ in_code (words_to_write W r.scheme)
      → EnoughWords v tag.0.scheme × (bank_of_text W t ≡ taken (v, bank_of v tag.0))
  enough W most v q = enough_words W t most tag.0 tag.1 v (q ∙ of_tag W)

pub returns-in_err-words : goal.returns-in_err-words
unfolding text_to_bank
returns-in_err-words c =
    let x = c.args in
    let t = x.text.now in
    let q = c.in_ok-tag.ensures in
    let (τ, a, i) = tag t c.in_ok-tag.tag q in
    let r = c.in_err-words.field-0.0 in
    let p = err_from_is_err_and c.from_residual-in_err-words.result c.from_residual-in_err-words.ensures.1 in
    let same : c.from_residual-in_err-words.result ≡ Err r = p.1 ∙ ap Err p.2 in
    rw same (refuses bank_room x.out.now c.if-out-lt-BANK_ROOM.false r (bank_of_text x.words t) (too_few x.words t c.if-words-gt-MOST_WORDS.false τ a r (c.in_err-words.ensures ∙ of_tag t _ q x.words)))

pub write-length-requires-clause-has_tag : goal.write-length-requires-clause-has_tag
write-length-requires-clause-has_tag c = let (τ, _, i) = tag c.args.text.now c.in_ok-tag.tag c.in_ok-tag.ensures in record { tag = τ; is = i }

pub write-length-requires-clause-enough_words : goal.write-length-requires-clause-enough_words
write-length-requires-clause-enough_words c =
    let x = c.args in
    let t = x.text.now in
    let q = c.in_ok-tag.ensures in
    let (τ, _, i) = tag t _ q in
    rw (← scheme_is _ τ i) at (enough t _ q x.words c.if-words-gt-MOST_WORDS.false c.in_ok-words.words c.in_ok-words.ensures).0

pub returns : goal.returns
unfolding text_to_bank
returns c =
    let x = c.args in
    let t = x.text.now in
    let q = c.in_ok-tag.ensures in
    let (τ, _, i) = tag t c.in_ok-tag.tag q in
    let W = c.in_ok-words.words in
    let (n, o) = c.write-length.ensures τ i in
    writes bank_room x.out.now c.if-out-lt-BANK_ROOM.false W _ (bank_of_text x.words t) (enough t _ q x.words c.if-words-gt-MOST_WORDS.false W c.in_ok-words.ensures).1 _ _ n o
