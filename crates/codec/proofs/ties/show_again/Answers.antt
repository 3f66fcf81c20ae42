-- `show_again` meets its contract: the first call's answer is the rules', and the second turns back what was written.
use mathlib.Core.Path.{◌≡◌, sym, ap, ◌∙◌}
use lib.Seq.{length-take-le}
use Rattle.rules.specs.Calls.{text_to_bank}
use Rattle.codec.specs.Answers.{Answer, answered}
use Rattle.codec.proofs.TurnedBack.{written_room, written_again_lem, not_written}
use Rattle.codec.proofs.ties.show_again.Goals as goal
use Rattle.codec.proofs.ties.show_again.Goals.{After-text_to_bank}

-- the first call's answer, by its case
called : (c : After-text_to_bank) (r : Answer) → let x = c.args in
    c.text_to_bank.result ≡ r → answered r c.text_to_bank.new.out ≡ text_to_bank x.words x.text.now x.bank.now
called c r e = ap (λ r. answered r c.text_to_bank.new.out) (sym e) ∙ c.text_to_bank.ensures

pub slice_bounds-bank_to_text-end : goal.slice_bounds-bank_to_text-end
slice_bounds-bank_to_text-end c =
    let s = (goal.at.slice_bounds-bank_to_text-end c).After-text_to_bank in
    let x = c.args in
    written_room x.words x.text.now x.bank.now x.out.now c.in-Ok.written c.text_to_bank.new.out (called s _ c.in-Ok.is)

pub slice_bounds-bank_to_text-end-in-Ok : goal.slice_bounds-bank_to_text-end-in-Ok
slice_bounds-bank_to_text-end-in-Ok c =
    let s = (goal.at.slice_bounds-bank_to_text-end-in-Ok c).After-text_to_bank in
    let x = c.args in
    sym (length-take-le _ _ (written_room x.words x.text.now x.bank.now x.out.now c.in-Ok.written c.text_to_bank.new.out (called s _ c.in-Ok.is)))

pub returns-in-Ok-clause-again : goal.returns-in-Ok-clause-again
returns-in-Ok-clause-again c =
    let s = (goal.at.returns-in-Ok-clause-again c).After-text_to_bank in
    let x = c.args in
    c.bank_to_text.ensures ∙ written_again_lem x.words x.text.now x.bank.now x.out.now c.in-Ok.written c.text_to_bank.new.out (called s _ c.in-Ok.is)

pub returns-in-Err-clause-again : goal.returns-in-Err-clause-again
returns-in-Err-clause-again c =
    let s = (goal.at.returns-in-Err-clause-again c).After-text_to_bank in
    let x = c.args in
    not_written x.words x.text.now x.bank.now x.out.now c.in-Err.refusal c.text_to_bank.new.out (called s _ c.in-Err.is)
