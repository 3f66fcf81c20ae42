-- Each return is one of the cases of `width_in`.
use Rattle.std.proofs.Common.{◌∙◌, ◌≡◌, option_map, arith}
use Rattle.std.proofs.lemmas.Grind.{common_steps}
use Rattle.alphabet.proofs.Classes.{plain_test}
use Rattle.alphabet.proofs.Steps.{left_is}
use Rattle.alphabet.proofs.Widths.{width_plain, width_other, width_escape}
use Rattle.alphabet.proofs.width.Goals as goal

pub returns-then-eq : goal.returns-then-eq
returns-then-eq c = width_plain c.args.text.now c.in-len1-up.len_at_least (plain_test _ _ _ c.class.ensures c.eq.ensures ∙ c.if-eq.true)

pub returns-then-b-ne37 : goal.returns-then-b-ne37
returns-then-b-ne37 c = width_other c.args.text.now c.in-len1-up.len_at_least (plain_test _ _ _ c.class.ensures c.eq.ensures ∙ c.if-eq.false) c.if-b-ne37.true

pub returns : goal.returns
returns c =
    let x = c.args.text.now in
    let mapped : c.map.result ≡ option_map (λ d. 3) c.character_at.result = grind (arith, common_steps) in
    mapped ∙ width_escape x _ c.in-len1-up.len_at_least (plain_test _ _ _ c.class.ensures c.eq.ensures ∙ c.if-eq.false) c.if-b-ne37.false (rw (left_is x 1) at c.character_at.ensures)
