-- `tagcodec_bank_to_text` meets its contract: the codec's answer, in numbers.
use mathlib.Core.List.{[]}
use Rattle.rules.proofs.Places.{places_fit, words_fit}
use Rattle.capi.proofs.Replying.{same, small}
use Rattle.capi.proofs.tagcodec_bank_to_text.Goals as goal

pub in_numbers-requires : goal.in_numbers-requires
in_numbers-requires c =
    let x = c.args in
    small c.bank_to_text.result _ _ c.bank_to_text.ensures (places_fit 0 [] x.bank.now x.out.now).1 (words_fit 0 [] x.bank.now x.out.now).1

pub returns : goal.returns
returns c =
    let call = c.bank_to_text in
    let said = c.in_numbers.ensures in
    same call.result _ _ call.ensures c.in_numbers.result said.number said.place said.words said.length
