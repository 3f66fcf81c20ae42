-- The start and the parts are the tag's text.
use borrow.Author.Rules.{rules}
use Rattle.text.proofs.Written.{control_fits, writes}
use Rattle.text.proofs.writing.write.Goals as goal

pub put_start-requires : goal.put_start-requires
put_start-requires c = (control_fits c.args.tag c.requires.has_tag, search rules)

pub put_parts-requires : goal.put_parts-requires
put_parts-requires c = (c.requires.has_tag, search rules)

pub returns : goal.returns
returns c τ is =
    let (length, text) = writes c.args.tag c.new-w.ensures c.put_start.ensures.adds c.put_parts.ensures τ is in
    (length, search rules)
