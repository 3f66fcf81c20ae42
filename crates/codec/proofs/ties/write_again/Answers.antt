-- `write_again` meets its contract: the first call's answer is the rules', and the second turns back what was written.
use mathlib.Core.Path.{◌≡◌, sym, ap, ◌∙◌}
use lib.Seq.{length-take-le}
use Rattle.std.specs.Prelude.{Err}
use Rattle.std.proofs.lemmas.Result.{err_from_is_err_and}
use Rattle.numeral.proofs.Values.{digits_of_lem}
use Rattle.codec.proofs.TurnedBack.{shown_room, shown_again_lem, not_shown}
use Rattle.codec.proofs.ties.write_again.Goals as goal

pub returns-in_err-shown-clause-again : goal.returns-in_err-shown-clause-again
returns-in_err-shown-clause-again c =
    let x = c.args in
    let d = digits_of_lem 256 x.bank.now λ i h. (c.type_inv.bank i).fits in
    let r = c.in_err-shown.field-0.0 in
    let p = err_from_is_err_and c.from_residual.result c.from_residual.ensures.1 in
    let same : c.from_residual.result ≡ Err r = p.1 ∙ ap Err p.2 in
    rw same (not_shown x.bank.now x.text.now x.out.now d r c.bank_to_text.new.out c.in_err-shown.ensures)

pub slice_bounds-text_to_bank-end : goal.slice_bounds-text_to_bank-end
slice_bounds-text_to_bank-end c =
    let x = c.args in
    let d = digits_of_lem 256 x.bank.now λ i h. (c.type_inv.bank i).fits in
    shown_room x.bank.now x.text.now x.out.now d c.in_ok-shown.shown c.bank_to_text.new.out c.in_ok-shown.ensures

pub slice_bounds-text_to_bank-end-2 : goal.slice_bounds-text_to_bank-end-2
slice_bounds-text_to_bank-end-2 c =
    let x = c.args in
    let d = digits_of_lem 256 x.bank.now λ i h. (c.type_inv.bank i).fits in
    sym (length-take-le _ _ (shown_room x.bank.now x.text.now x.out.now d c.in_ok-shown.shown c.bank_to_text.new.out c.in_ok-shown.ensures))

pub returns-clause-again : goal.returns-clause-again
returns-clause-again c =
    let x = c.args in
    let d = digits_of_lem 256 x.bank.now λ i h. (c.type_inv.bank i).fits in
    c.text_to_bank.ensures ∙ shown_again_lem x.bank.now x.text.now x.out.now d c.in_ok-shown.shown c.bank_to_text.new.out c.in_ok-shown.ensures
