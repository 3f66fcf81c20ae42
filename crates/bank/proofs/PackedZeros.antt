-- Zeros behind the bits of a stream, up to byte n: none, or a push of up to seven bytes and then whole bytes.
use Prim.Native.Nat.{ℕ, zero, suc, ◌+◌, ◌-◌, ◌*◌, ◌/◌, ◌%◌, min, ◌≤◌}
use mathlib.Core.Path.{◌≡◌, refl, ap, ◌∙◌}
use mathlib.Core.List.{List, [], ◌∷◌, ◌++◌, append_assoc, append-nil}
use native.Mathlib.Omega.{arith}
use native.Mathlib.Numerals.{add-one}
use lib.ListN.{length, replicate, length-append, replicate-append-replicate}
use lib.Pow.{pow_pos}
use Rattle.numeral.specs.Numeral.{numeral, splice}
use Rattle.numeral.proofs.Values.{length_numeral, numeral_nil}
use Rattle.bits.specs.declared.Stream.{Stream}
use Rattle.bits.specs.declared.Writer.{Writer}
use Rattle.bits.specs.Streams.{waiting, Streamed, Takes, Adds}
use Rattle.bits.proofs.Streams.{counted, kept, unstored, continued}
use Rattle.bits.proofs.Pushes.{pushed}
use Rattle.bank.specs.Writing.{ZerosFit, zeros_to}

pub zeros_are : (n : ℕ) → numeral 2 n 0 ≡ replicate n 0
unfolding numeral
zeros_are zero = refl
zeros_are (suc n) = ap (◌++ (0 ∷ [])) (zeros_are n) ∙ replicate-append-replicate n 1 0 ∙ ap (λ k. replicate k 0) (add-one n)

module _ (w : Writer) (n : ℕ) (h : ZerosFit w n) where
  abbrev s : Stream
  s = w.stream

  abbrev before : List ℕ
  before = w.out.now

  -- a stream that stands there
  pub none_left : s.at ≡ n → Adds w (replicate (zeros_to n s) 0) w
  none_left e =
      let none : zeros_to n s ≡ 0 = omega arith in
      record { output = refl; written = rw (none, append-nil) (record { sound = h.sound; written = unstored before s (omega (arith, h.before, h.inside)) }) }

  -- up to seven bytes, the first of them with the bits of s
  abbrev bytes : ℕ
  bytes = min (n - s.at) 7

  abbrev pub width : ℕ
  width = 8 * bytes - s.count

  pub takes_some : Takes s width 0 (length before)
  takes_some = record {
    sound = h.sound;
    narrow = omega arith;
    small = pow_pos width;
    room = omega (arith, h.before, h.inside, h.sound.few);
  }

  module _ {v : Writer} (a : Adds w (numeral 2 width 0) v) where
    abbrev r : Stream
    r = v.stream

    abbrev after : List ℕ
    after = v.out.now

    abbrev u : Streamed before s.at (waiting s ++ numeral 2 width 0) after r
    u = a.written

    stands : 8 * r.at + r.count ≡ 8 * s.at + 8 * bytes
    stands = omega (arith, h.before, h.sound.few, simp (length-append, length_numeral) at (counted u.written))

    -- no bits wait any more
    none : r.count ≡ 0
    none = omega (arith, stands, u.sound.few)

    pub before_end : r.at ≤ n
    before_end = omega (arith, stands, none, h.before)

    pub inside : r.at + (n - r.at) ≤ length after
    inside = omega (arith, before_end, h.inside, kept u.written)

    rest : width + 8 * (n - r.at) ≡ zeros_to n s
    rest = omega (arith, stands, none, h.before, h.sound.few)

    zeros : (waiting s ++ numeral 2 width 0) ++ numeral 2 (8 * (n - r.at)) 0 ≡ waiting s ++ replicate (zeros_to n s) 0
    zeros =
        append_assoc (waiting s) (numeral 2 width 0) (numeral 2 (8 * (n - r.at)) 0)
        ∙ rw (zeros_are, zeros_are (8 * (n - r.at)), replicate-append-replicate {A = ℕ} width (8 * (n - r.at)) 0, rest)

    -- the bytes from there to byte n
    whole_bytes : Streamed after r.at (numeral 2 (8 * (n - r.at)) 0) (splice after r.at (numeral 256 (n - r.at) 0)) (record { at = n; bits = 0; count = 0 })
    whole_bytes =
        let m : ℕ = n - r.at in
        let whole : 8 * m / 8 ≡ m = omega arith in
        let even : 8 * m % 8 ≡ 0 = omega arith in
        let place : r.at + m ≡ n = omega (arith, before_end) in
        rw (even, whole, place) at (pushed after r.at 0 (8 * m) (rw whole inside))

    pub all_there : {after' : List ℕ} → after' ≡ splice after r.at (numeral 256 (n - r.at) 0)
        → Streamed before s.at (waiting s ++ replicate (zeros_to n s) 0) after' (record { at = n; bits = 0; count = 0 })
    all_there e = rw (← zeros, e) (continued u (numeral 2 (8 * (n - r.at)) 0) (rw (none, numeral_nil) whole_bytes))
