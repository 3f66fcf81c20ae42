-- What the readers inside promise each other. Each promise is about what the written rules read in the same text (`characters_in`).
use Rattle.std.specs.Prelude.{ℕ, ◌+◌, ◌≡◌, List, [], ◌∷◌, cond, eqb, length}
use Rattle.std.specs.Prelude.{Option, None, Some, option_map}
use Rattle.std.proofs.lemmas.List.Edits.{sets}
use Rattle.rules.specs.Bytes.{percent}
use Rattle.rules.specs.Characters.{escaped, plain}
use Rattle.rules.specs.TextNumbers.{escape}

-- the number of characters, with n that were counted before; none for a wrong form
abbrev pub counted : ℕ → Option (List ℕ) → Option ℕ
counted n = option_map (λ cs. n + length cs)

-- z is l with the characters stored from place n on, as far as there is room; after a wrong form nothing is promised of z
abbrev pub Kept : Option (List ℕ) → ℕ → List ℕ → List ℕ → Type 0
Kept None n l z = Unit {0}
Kept (Some cs) n l z = z ≡ sets l n cs

-- the character whose escape has the two digits that a text begins with
abbrev pub escape_in : List ℕ → Option ℕ
escape_in [] = None
escape_in (h ∷ []) = None
escape_in (h ∷ l ∷ t) = escape escaped h l

-- how many bytes the character takes that a text begins with: 1 where the first byte stands for itself, 3 where a percent sign and the two
-- digits of an escape stand there; none where no character begins
abbrev pub width_in : List ℕ → Option ℕ
width_in [] = None
width_in (c ∷ t) = cond (plain c) (Some 1) (cond (eqb c percent) (option_map (λ d. 3) (escape_in t)) None)
