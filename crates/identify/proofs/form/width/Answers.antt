-- The last case, so that it is told by which bytes stand there.
use mathlib.Core.Path.{◌≡◌, sym, ap, ◌∙◌}
use mathlib.Core.Bool.{true, false}
use mathlib.Core.List.{List, [], ◌∷◌}
use Prim.Native.Nat.{ℕ}
use Rattle.std.specs.Prelude.{Some}
use Rattle.std.specs.List.{slice_get}
use Rattle.std.proofs.lemmas.Option.{same_Some}
use Rattle.rules.specs.Bytes.{bytes, among}
use Rattle.identities.specs.Grammar.{part_characters}
use Rattle.rules.specs.TextNumbers.{after}
use Rattle.digits.specs.Starts.{begun}
use Rattle.identify.specs.Words.{opens_part, width_in}
use Rattle.identify.proofs.form.width.Goals as goal
use Rattle.identify.proofs.form.width.Goals.{After-is_part_character}

escape : (u : List ℕ) → opens_part u ≡ false → begun (after (bytes "%2F") u) ≡ false → begun (after (bytes "%23") u) ≡ true → Some 3 ≡ width_in u
escape u o f e = rw (o, f, e)

-- the first byte
first_is : (u : List ℕ) (b : ℕ) → Some b ≡ slice_get u 0 → among b part_characters ≡ opens_part u
first_is [] b e = cc
first_is (c ∷ u) b e = ap (λ y. among y part_characters) (same_Some b c e)

opens : (c : After-is_part_character) → c.is_part_character.result ≡ opens_part c.args.x.now
opens c = c.is_part_character.ensures ∙ first_is c.args.x.now _ c.in_ok-first.ensures.value

pub returns-then-begins-2 : goal.returns-then-begins-2
returns-then-begins-2 c =
    escape c.args.x.now (sym (opens (goal.at.returns-then-begins-2 c).After-is_part_character) ∙ c.if-is_part_character.false) (sym c.begins.ensures ∙ c.if-begins.false) (sym c.begins-2.ensures ∙ c.if-begins-2.true)
