-- Streams of bits: how one begins, goes on and ends. The bits written decide what is stored and what waits.
use mathlib.Core.Path.{◌≡◌, refl, sym, ap, ◌∙◌}
use Prim.Native.Nat.{ℕ, ◌+◌, ◌*◌, ◌/◌, ◌^◌, ◌≤◌, ◌<◌}
use native.Mathlib.Omega.{arith}
use native.Mathlib.Nat.{add-zero, pow-zero}
use mathlib.Core.List.{List, [], ◌∷◌, ◌++◌, append_assoc, append-nil}
use lib.ListN.{length, length-append}
use lib.Dec.{lit<}
use Rattle.numeral.specs.Numeral.{spread, gather, splice}
use Rattle.numeral.proofs.Values.{length_numeral, numeral_nil, numeral_inj, digits_append}
use Rattle.numeral.proofs.Spreads.{length_spread, spread_append, gather_spread, spread_inj}
use Rattle.numeral.proofs.Splices.{length_splice, splice_nil, splice_after}
use Rattle.bits.specs.Bits.{bits}
use Rattle.bits.specs.Streams.{waiting, Written, Streamed, Takes}
use Rattle.bits.specs.declared.Stream.{Stream}

module _ {before : List ℕ} {a : ℕ} {ds after : List ℕ} {s : Stream} (w : Written before a ds after s) where
  -- the place of the stream tells how many bits are written
  pub counted : 8 * s.at + s.count ≡ 8 * a + length ds
  counted =
      let e : length ds ≡ 8 * length w.whole + s.count = ap length w.parts ∙ simp (length-append, length_spread, length_numeral) in
      omega arith

  pub kept : length after ≡ length before
  kept = ap length w.stored ∙ length_splice before a w.whole (omega arith)

  -- what is written next begins with the bits that wait
  pub more : (xs : List ℕ) {after' : List ℕ} {r : Stream} → Written after s.at (waiting s ++ xs) after' r → Written before a (ds ++ xs) after' r
  more xs u = record {
    whole = w.whole ++ u.whole;
    bytes = digits_append 256 w.whole u.whole w.bytes u.bytes;
    parts = rw (w.parts, append_assoc (bits w.whole) (waiting s) xs, u.parts, spread_append 2 8 w.whole u.whole, append_assoc);
    stored = u.stored ∙ rw w.stored (splice_after before a w.whole u.whole s.at (omega arith) (sym w.stands));
    stands = simp length-append (omega arith);
    inside = omega (arith, kept);
  }

-- all bits wait
pub unstored : (l : List ℕ) (s : Stream) → s.at ≤ length l → Written l s.at (waiting s) l s
unfolding spread
unstored l s h = record { whole = []; bytes = tt; parts = refl; stored = sym (splice_nil l s.at); stands = sym (add-zero s.at); inside = h }

-- a stream that begins at byte a
pub begun : (l : List ℕ) (a : ℕ) → a ≤ length l → Streamed l a [] l (record { at = a; bits = 0; count = 0 })
begun l a h =
    let s : Stream = record { at = a; bits = 0; count = 0 } in
    record { sound = record { few = lit< tt; clear = rw pow-zero (lit< tt) }; written = rw (numeral_nil 2 0) at (unstored l s h) }

module _ {before : List ℕ} {a : ℕ} {ds after : List ℕ} {s : Stream} (w : Streamed before a ds after s) where
  -- there is room as long as the bits fit behind byte a
  pub takes : (width v : ℕ) → width ≤ 57 → v < 2 ^ width → a + (length ds + width) / 8 ≤ length before → Takes s width v (length after)
  takes width v n small room = record { sound = w.sound; narrow = omega arith; small = small; room = omega (arith, counted w.written, kept w.written) }

  -- the stream goes on with the bits xs
  pub continued : (xs : List ℕ) {after' : List ℕ} {r : Stream} → Streamed after s.at (waiting s ++ xs) after' r → Streamed before a (ds ++ xs) after' r
  continued xs u = record { sound = u.sound; written = more w.written xs u.written }

  -- the bits are those of k bytes
  pub ended : (k : ℕ) → length ds ≡ 8 * k → (after ≡ splice before a (gather 2 8 k ds)) × (s.at ≡ a + k)
  ended k e =
      let none : s.count ≡ 0 = omega (arith, counted w.written) in
      let size : length w.written.whole ≡ k = omega (arith, counted w.written) in
      let all : ds ≡ bits w.written.whole = w.written.parts ∙ rw (none, numeral_nil, append-nil) in
      (w.written.stored ∙ rw (all, gather_spread 2 8 k w.written.whole w.written.bytes size), omega arith)

-- two equal lists, cut at the same place, have equal parts
cut_inj : (a b c d : List ℕ) → length a ≡ length c → a ++ b ≡ c ++ d → (a ≡ c) × (b ≡ d)
cut_inj [] b [] d l e = (refl, e)
cut_inj [] b (y ∷ c) d l e = absurd (omega arith)
cut_inj (x ∷ a) b [] d l e = absurd (omega arith)
cut_inj (x ∷ a) b (y ∷ c) d l e = let r = cut_inj a b c d (omega arith) (cc) in (cc, r.1)

-- the bits written decide what is stored and what waits: there is one result
pub one_result : (before : List ℕ) (a : ℕ) (ds x y : List ℕ) (s t : Stream) → Streamed before a ds x s → Streamed before a ds y t → (x ≡ y) × (s ≡ t)
one_result before a ds x y s t h k =
    let u = h.written in
    let w = k.written in
    let size : length u.whole ≡ length w.whole = omega (arith, counted u, counted w) in
    let count : s.count ≡ t.count = omega (arith, counted u, counted w) in
    let cut = cut_inj (bits u.whole) (waiting s) (bits w.whole) (waiting t) (simp (length_spread, size)) (sym u.parts ∙ w.parts) in
    let whole : u.whole ≡ w.whole = spread_inj 2 8 u.whole w.whole u.bytes w.bytes size cut.0 in
    let waits : s.bits ≡ t.bits = numeral_inj 2 t.count s.bits t.bits (rw count at h.sound.clear) k.sound.clear (rw count at cut.1) in
    let at : s.at ≡ t.at = omega arith in
    let stream : ◌≡◌ {A = Stream} (record { at = s.at; bits = s.bits; count = s.count }) t = rw (at, waits, count) in
    (u.stored ∙ rw whole (sym w.stored), stream)
