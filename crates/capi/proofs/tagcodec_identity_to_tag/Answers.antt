-- `tagcodec_identity_to_tag` meets its contract: the call's answer, in numbers.
use native.Mathlib.Omega.{arith}
use Rattle.identities.proofs.Places.{tag_place, words_zero}
use Rattle.capi.proofs.Replying.{same, small}
use Rattle.capi.proofs.tagcodec_identity_to_tag.Goals as goal

pub in_numbers-requires : goal.in_numbers-requires
in_numbers-requires c =
    let x = c.args in
    small c.identity_to_tag.result _ _ c.identity_to_tag.ensures (omega (arith, tag_place x.filter x.text.now x.out.now)) (omega (arith, (words_zero x.filter x.text.now x.out.now).1))

pub returns : goal.returns
returns c =
    let call = c.identity_to_tag in
    let said = c.in_numbers.ensures in
    same call.result _ _ call.ensures c.in_numbers.result said.number said.place said.words said.length
