-- The turn of a call: without the room, at the end of the input, and while there is more. And that no second answer is right.
use Prim.Native.Nat.{ℕ, ◌+◌, ◌≤◌, ◌<◌}
use mathlib.Core.Path.{◌≡◌, refl, sym, ap, ◌∙◌}
use mathlib.Core.List.{List, [], ◌∷◌, ◌++◌}
use mathlib.Core.Bool.{false}
use Rattle.std.specs.Prelude.{None, Some}
use native.Mathlib.Omega.{arith}
use lib.Dec.{lit≤}
use lib.ListN.{length, take, drop, length-take, length-drop, take-append-drop, drop_of_length-le}
use lib.Seq.{take_all, take-nil, drop-nil, take-add, take_at, drop_at, length-take-le}
use borrow.Author.Tests.{le-leb, lt-leb}
use Rattle.replies.specs.Writing.{Wrote}
use Rattle.replies.specs.declared.Program.{Program}
use Rattle.lines.specs.Lines.{output_of, input_room}
use Rattle.lines.specs.Turns.{finished, whole, most_kept, kept, end_reply, Turn, turn_of, turn_at, seen, Took}
use Rattle.lines.specs.declared.Turned.{Turned}
use Rattle.replies.proofs.Pieces.{wrote_nothing, wrote_part, one_writing}

pub whole_within : (input : List ℕ) → length (whole input) ≤ length input
unfolding whole
whole_within input = omega (arith, length-take (finished input) input)

-- a read that gives something
more : (π : Program) (rest read : List ℕ) → 0 < length read
    → let input = rest ++ read in turn_of π rest read ≡ record { prints = output_of π (whole input); keeps = kept (length (whole input)) input; ends = false }
more π rest [] h = absurd (omega arith)
more π rest (x ∷ read) h = refl

pub few_kept : (π : Program) (rest read : List ℕ) → length (turn_of π rest read).keeps ≤ most_kept
few_kept π rest [] = lit≤ tt
few_kept π rest (x ∷ read) = let input : List ℕ = rest ++ x ∷ read in omega (arith, length-take most_kept (drop (length (whole input)) input))

module _ (π : Program) (n : ℕ) (input out : List ℕ) where
  pub no_room : length out < input_room input
      → Took (turn_at π n (seen input out)) input out (record { kept = None; written = 0 }) input out
  no_room h =
      rw (lt-leb (input_room input) (length out) h, take-nil n, drop-nil n)
      (record { printed = wrote_nothing out; kept = wrote_nothing input; told = refl })

  module _ (h : input_room input ≤ length out) (k : ℕ) (out' : List ℕ) where
    pub at_end : length input ≤ n → Wrote (end_reply π input) out k out'
        → Took (turn_at π n (seen input out)) input out (record { kept = None; written = k }) input out'
    at_end l w =
        rw (le-leb (input_room input) (length out) h, take_all n input l, drop_of_length-le input l)
        (record { printed = w; kept = wrote_nothing input; told = refl })

    pub goes_on : n < length input → Wrote (output_of π (whole input)) out k out' → (m : ℕ) (input' : List ℕ) → Wrote (kept (length (whole input)) input) input m input'
        → Took (turn_at π n (seen input out)) input out (record { kept = Some m; written = k }) input' out'
    goes_on l w m input' v =
        rw (le-leb (input_room input) (length out) h, more π (take n input) (drop n input) (simp length-drop (omega arith)), take-append-drop n input)
        (record { printed = w; kept = record { end = omega arith; bytes = v.bytes }; told = ap Some (omega (arith, v.end)) })

-- a call on the first n + k bytes of a buffer, of which the first n were kept, and k were read
pub on_buffer : (π : Program) (n k : ℕ) (buffer out : List ℕ) (r : Turned) (start out' : List ℕ) → n + k ≤ length buffer → input_room buffer ≤ length out → length start ≡ length (take (n + k) buffer)
    → let input = take (n + k) buffer in
    Took (turn_at π n (seen input out)) input out r start out' → Took (turn_of π (take n buffer) (take k (drop n buffer))) buffer out r (start ++ drop (n + k) buffer) out'
on_buffer π n k buffer out r start out' h room l t =
    let input : List ℕ = take (n + k) buffer in
    let few : length input ≡ n + k = length-take-le (n + k) buffer h in
    let parts : input ≡ take n buffer ++ take k (drop n buffer) = take-add n k buffer in
    let first : length (take n buffer) ≡ n = length-take-le n buffer (omega arith) in
    let a : take n input ≡ take n buffer = ap (take n) parts ∙ take_at (take n buffer) (take k (drop n buffer)) n first in
    let b : drop n input ≡ take k (drop n buffer) = ap (drop n) parts ∙ drop_at (take n buffer) (take k (drop n buffer)) n first in
    let u = rw (le-leb (input_room input) (length out) (omega arith), a, b) at t in
    record { printed = u.printed; kept = wrote_part (turn_of π (take n buffer) (take k (drop n buffer))).keeps buffer start (n + k) (length (turn_of π (take n buffer) (take k (drop n buffer))).keeps) u.kept l; told = u.told }

-- no second answer, input and output keep what `Took` says
pub one_answer_of_turn : (t : Turn) (input out : List ℕ) (r s : Turned) (i j o p : List ℕ) → Took t input out r i o → Took t input out s j p → (r ≡ s) × (i ≡ j) × (o ≡ p)
one_answer_of_turn t input out r s i j o p x y =
    let (_, e) = one_writing t.keeps input (length t.keeps) (length t.keeps) i j x.kept y.kept in
    let (w, f) = one_writing t.prints out r.written s.written o p x.printed y.printed in
    let k = x.told ∙ sym y.told in
    let same : ◌≡◌ {A = Turned} (record { kept = r.kept; written = r.written }) s = rw (k, w) in
    (same, e, f)
