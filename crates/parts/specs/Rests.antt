-- What is left of a text.
use Rattle.std.specs.Prelude.{ℕ, List, drop}
use Rattle.parts.specs.declared.rest.Rest.{Rest}

-- the bytes that are still to be read
abbrev pub left : Rest → List ℕ
left r = drop r.at r.text.now
