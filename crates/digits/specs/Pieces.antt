-- A piece of a text that is written.
use Rattle.std.specs.Prelude.{ℕ, ◌+◌, ◌≡◌, ◌≤◌, List, length}
use Rattle.std.specs.Borrow.{MutBor}
use Rattle.numeral.specs.Numeral.{splice}
use Rattle.digits.specs.declared.Output.{Output}

-- x is written into an output from index `at` up to index n: it was `out`, is now `after`, and is unchanged before and behind x
pub record Puts (x : List ℕ) (at : ℕ) (out : List ℕ) (n : ℕ) (after : List ℕ) : Type 0 where
  pub end : n ≡ at + length x
  pub bytes : after ≡ splice out at x

-- w is the output `out`, and nothing is written yet
pub record Begins (out : MutBor (List ℕ)) (w : Output) : Type 0 where
  pub output : w.out.ghost_name ≡ out.ghost_name
  pub bytes : w.out.now ≡ out.now
  pub start : w.at ≡ 0

-- w has room for n bytes from its place on
abbrev pub Room : Output → ℕ → Type 0
Room w n = w.at + n ≤ length w.out.now

-- v is w with x written from its place on: the same output, as long as before, and its place is behind x
pub record Adds (w : Output) (x : List ℕ) (v : Output) : Type 0 where
  pub output : v.out.ghost_name ≡ w.out.ghost_name
  pub size : length v.out.now ≡ length w.out.now
  pub puts : Puts x w.at w.out.now v.at v.out.now
