-- One push after the other: what a writer with room takes, and the room that is left behind it.
use Prim.Native.Nat.{ℕ, ◌+◌, ◌^◌, ◌≤◌, ◌<◌}
use mathlib.Core.Path.{◌≡◌, ◌∙◌}
use mathlib.Core.List.{List, ◌++◌, append_assoc}
use native.Mathlib.Omega.{arith}
use lib.ListN.{length, length-append}
use Rattle.numeral.proofs.Values.{length_numeral}
use Rattle.bits.specs.declared.Writer.{Writer}
use Rattle.bits.specs.Streams.{Takes, Adds}
use Rattle.bits.proofs.Streams.{counted, kept, continued}
use Rattle.bank.specs.Writing.{Room}

pub takes : {w : Writer} {n : ℕ} → Room w n → (width v : ℕ) → width ≤ 57 → width ≤ n → v < 2 ^ width → Takes w.stream width v (length w.out.now)
takes h width v narrow few small = record { sound = h.sound; narrow = narrow; small = small; room = omega (arith, h.room) }

pub fewer : {w : Writer} {n : ℕ} → Room w n → (m : ℕ) → m ≤ n → Room w m
fewer h m l = record { sound = h.sound; room = omega (arith, h.room) }

module _ {w v : Writer} {xs : List ℕ} (a : Adds w xs v) where
  -- of the room for n bits, that for m is left
  pub left : {n m : ℕ} → Room w n → length xs + m ≤ n → Room v m
  left h l =
      let e = simp (length-append, length_numeral) at (counted a.written.written) in
      record { sound = a.written.sound; room = omega (arith, h.room, e, kept a.written.written) }

  -- the same bits in other words
  pub same_bits : {ys : List ℕ} → xs ≡ ys → Adds w ys v
  same_bits e = rw e at a

  -- the writer goes on with the bits ys
  pub then : {ys : List ℕ} {u : Writer} → Adds v ys u → Adds w (xs ++ ys) u
  then {ys} b = record { output = b.output ∙ a.output; written = rw append_assoc at (continued a.written ys b.written) }
