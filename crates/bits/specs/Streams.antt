-- A stream of bits that fills bytes: full bytes are stored, and the bits left over wait.
use Rattle.std.specs.Prelude.{◌≡◌, ℕ, ◌+◌, ◌/◌, ◌^◌, ◌≤◌, ◌<◌, List, ◌++◌, length}
use Rattle.std.specs.Borrow.{MutBor}
use Rattle.numeral.specs.Numeral.{numeral, Digits, splice}
use Rattle.bits.specs.Bits.{bits}
use Rattle.bits.specs.declared.Stream.{Stream}
use Rattle.bits.specs.declared.Writer.{Writer}

-- the bits that wait
abbrev pub waiting : Stream → List ℕ
waiting s = numeral 2 s.count s.bits

-- fewer than eight bits wait, and `bits` holds nothing else
pub record Sound (s : Stream) : Type 0 where
  pub few : s.count < 8
  pub clear : s.bits < 2 ^ s.count

-- the bits ds are written from byte a on: the bytes `whole` are stored, and the bits behind them wait; the output was `before` and is now `after`
pub record Written (before : List ℕ) (a : ℕ) (ds after : List ℕ) (s : Stream) : Type 0 where
  pub whole : List ℕ
  pub bytes : Digits 256 whole
  pub parts : ds ≡ bits whole ++ waiting s
  pub stored : after ≡ splice before a whole
  pub stands : s.at ≡ a + length whole
  pub inside : s.at ≤ length before

-- the same, where every full byte is stored
pub record Streamed (before : List ℕ) (a : ℕ) (ds after : List ℕ) (s : Stream) : Type 0 where
  pub sound : Sound s
  pub written : Written before a ds after s

-- the stream s can take the `width` bits of v: the output has so many bytes, which is room enough; 57 bits and 7 that wait are 64
pub record Takes (s : Stream) (width v bytes : ℕ) : Type 0 where
  pub sound : Sound s
  pub narrow : width ≤ 57
  pub small : v < 2 ^ width
  pub room : s.at + (s.count + width) / 8 ≤ bytes

-- the writer w has the output `out`, and nothing is written yet
pub record Begins (out : MutBor (List ℕ)) (w : Writer) : Type 0 where
  pub output : w.out.ghost_name ≡ out.ghost_name
  pub bytes : w.out.now ≡ out.now
  pub start : w.stream ≡ record { at = 0; bits = 0; count = 0 }

-- the writer v is w with the bits xs behind its stream, in the same output
pub record Adds (w : Writer) (xs : List ℕ) (v : Writer) : Type 0 where
  pub output : v.out.ghost_name ≡ w.out.ghost_name
  pub written : Streamed w.out.now w.stream.at (waiting w.stream ++ xs) v.out.now v.stream
