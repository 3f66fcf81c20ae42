-- The start, the parts and the zeros are one stream of bits, which ends with the last word.
use native.Mathlib.Omega.{arith}
use borrow.Author.Rules.{rules}
use Rattle.bank.proofs.PackedBanks.{start_room, fields_fit, keeps, takes_zeros, ends}
use Rattle.bank.proofs.writing.write.Goals as goal
use Rattle.bank.proofs.writing.write.Goals.{After-about-outline, After-new-w, After-put_parts, After-size-n, Start}

pub put_parts-requires : goal.put_parts-requires
put_parts-requires c =
    let r = c.requires in
    (start_room c.new-w.ensures r.bank_room_in_bounds, omega (arith, r.enough_words.1), fields_fit r.has_tag.is c.about-outline.ensures r.enough_words, keeps r.has_tag.is c.about-outline.ensures r.enough_words)

pub put_zeros-requires : goal.put_zeros-requires
put_zeros-requires c =
    let r = c.requires in
    takes_zeros r.has_tag.is c.about-outline.ensures r.enough_words c.new-w.ensures c.put_parts.ensures c.size-n.result c.size-n.ensures r.bank_room_in_bounds

pub returns : goal.returns
returns c τ is =
    let (length, bank) = ends is c.about-outline.ensures c.requires.enough_words c.new-w.ensures c.put_parts.ensures c.size-n.result c.size-n.ensures c.put_zeros.ensures in
    (length, search rules)
