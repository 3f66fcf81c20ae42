-- `tagcodec_tag_to_identity` meets its contract: the call's answer, in numbers.
use native.Mathlib.Omega.{arith}
use Rattle.identities.proofs.Places.{identity_place, words_zero}
use Rattle.capi.proofs.Replying.{same, small}
use Rattle.capi.proofs.tagcodec_tag_to_identity.Goals as goal

pub in_numbers-requires : goal.in_numbers-requires
in_numbers-requires c =
    let x = c.args in
    small c.tag_to_identity.result _ _ c.tag_to_identity.ensures (omega (arith, identity_place x.text.now x.out.now)) (omega (arith, (words_zero 0 x.text.now x.out.now).0))

pub returns : goal.returns
returns c =
    let call = c.tag_to_identity in
    let said = c.in_numbers.ensures in
    same call.result _ _ call.ensures c.in_numbers.result said.number said.place said.words said.length
