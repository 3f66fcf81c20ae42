-- `tagcodec_raw_line` meets its contract: the codec's answer, in numbers.
use mathlib.Core.List.{[]}
use Rattle.rules.proofs.Places.{places_fit, words_fit}
use Rattle.capi.proofs.Replying.{same, small}
use Rattle.capi.proofs.tagcodec_raw_line.Goals as goal

pub in_numbers-requires : goal.in_numbers-requires
in_numbers-requires c =
    let x = c.args in
    small c.raw_line.result _ _ c.raw_line.ensures (places_fit 0 [] x.bank.now x.out.now).2 (words_fit 0 [] x.bank.now x.out.now).2

pub returns : goal.returns
returns c =
    let call = c.raw_line in
    let said = c.in_numbers.ensures in
    same call.result _ _ call.ensures c.in_numbers.result said.number said.place said.words said.length
