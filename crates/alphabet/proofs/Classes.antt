-- The class table, and what a class says of its byte. c is the byte, r the class that was looked up, and t whether it is the class asked for.
use Rattle.std.proofs.Common.{◌≡◌, ℕ, ◌<◌, slice_index_or, map, refl, ap, ◌∙◌, arith, Bool, true, false, ◌&&◌, not, cond}
use Rattle.std.specs.List.{range_with_len}
use Rattle.std.proofs.lemmas.List.FromFn.{get_or-map-range_with_len}
use denote.Enum.Bare.{sameb}
use Rattle.rules.specs.Bytes.{among}
use Rattle.rules.specs.Characters.{table_a1, escaped, character, plain}
use Rattle.alphabet.specs.declared.table.Class.{Class}
use Rattle.alphabet.specs.declared.table.Class.TheVariants.{Outside, Plain, Escaped}
use Rattle.alphabet.specs.declared.table.TheConstants.{CLASSES}
use Rattle.alphabet.specs.contracts.table.Class.{the_type}
use Rattle.alphabet.specs.Strings.{class_of}

-- One test over the 256 entries, which the checker computes: each is the class of its place.
pub class_table : CLASSES ≡ map class_of (range_with_len 0 256)
unfolding class_of table_a1 escaped
class_table = refl

pub class_at : (c : ℕ) → c < 256 → slice_index_or CLASSES c Outside ≡ class_of c
class_at c h = ap (λ t. slice_index_or t c Outside) class_table ∙ get_or-map-range_with_len class_of 0 256 c c Outside h (omega arith)

-- The two questions that the code asks of a class.
pub plain_test : (c : ℕ) (r : Class) (t : Bool) → r ≡ class_of c → t ≡ sameb the_type r Plain → plain c ≡ t
unfolding class_of
plain_test c r t e f = rw (f, e) (go (character c) (among c escaped))
  where
    go : (a b : Bool) → a && not b ≡ sameb the_type (cond a (cond b Escaped Plain) Outside) Plain
    go true true = refl
    go true false = refl
    go false b = refl

pub outside_test : (c : ℕ) (r : Class) (t : Bool) → r ≡ class_of c → t ≡ sameb the_type r Outside → character c ≡ not t
unfolding class_of
outside_test c r t e f = rw (f, e) (go (character c) (among c escaped))
  where
    go : (a b : Bool) → a ≡ not (sameb the_type (cond a (cond b Escaped Plain) Outside) Outside)
    go true true = refl
    go true false = refl
    go false b = refl
