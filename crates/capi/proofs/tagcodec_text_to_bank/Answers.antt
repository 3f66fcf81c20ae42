-- `tagcodec_text_to_bank` meets its contract: the codec's answer, in numbers.
use mathlib.Core.List.{[]}
use Rattle.rules.proofs.Places.{places_fit, words_fit}
use Rattle.capi.proofs.Replying.{same, small}
use Rattle.capi.proofs.tagcodec_text_to_bank.Goals as goal

pub in_numbers-requires : goal.in_numbers-requires
in_numbers-requires c =
    let x = c.args in
    small c.text_to_bank.result _ _ c.text_to_bank.ensures (places_fit _ x.text.now [] x.out.now).0 (words_fit _ x.text.now [] x.out.now).0

pub returns : goal.returns
returns c =
    let call = c.text_to_bank in
    let said = c.in_numbers.ensures in
    same call.result _ _ call.ensures c.in_numbers.result said.number said.place said.words said.length
