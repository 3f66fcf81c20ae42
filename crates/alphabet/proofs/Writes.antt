-- Characters written one after the other: the text of each begins where that of the last one ends.
use Prim.Native.Nat.{ℕ, ◌+◌, ◌<◌, ◌≤◌}
use mathlib.Core.Path.{◌≡◌, refl, sym, ap}
use mathlib.Core.Bool.{Bool, true, false}
use mathlib.Core.List.{List, [], ◌∷◌, ◌++◌, append_assoc, append-nil}
use native.Mathlib.Numerals.{add-one}
use native.Mathlib.Omega.{arith}
use lib.ListN.{length, take, get_or}
use lib.Seq.{take-suc}
use Rattle.rules.specs.Characters.{plain, spelling, string_text}

text_append : (cs ds : List ℕ) → string_text (cs ++ ds) ≡ string_text cs ++ string_text ds
text_append [] ds = refl
text_append (c ∷ cs) ds = rw (text_append cs ds) (sym (append_assoc (spelling (plain c) c) (string_text cs) (string_text ds)))

abbrev pub spelled : ℕ → List ℕ
spelled c = spelling (plain c) c

pub text_more : (x : List ℕ) (j : ℕ) → j < length x → string_text (take (j + 1) x) ≡ string_text (take j x) ++ spelled (get_or x j 0)
text_more x j h =
    rw (add-one j, take-suc x j 0 h, text_append (take j x) (get_or x j 0 ∷ [])) (ap (string_text (take j x) ++◌) (append-nil (spelled (get_or x j 0))))

pub spelled_length : (c : ℕ) → length (spelled c) ≤ 3
spelled_length c = go (plain c)
  where
    go : (b : Bool) → length (spelling b c) ≤ 3
    go true = omega arith
    go false = omega arith
