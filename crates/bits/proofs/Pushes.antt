-- What `push` does: the new bits join those that wait in one number. Its whole bytes are stored, and its last bits wait.
use mathlib.Core.Path.{◌≡◌, refl, sym, ◌∙◌}
use Prim.Native.Nat.{ℕ, ◌+◌, ◌*◌, ◌/◌, ◌%◌, ◌^◌, ◌≤◌, ◌<◌}
use native.Mathlib.Omega.{arith}
use native.Mathlib.Nat.{lt_of_lt_of_le, mod-lt}
use mathlib.Core.List.{List, ◌++◌}
use lib.ListN.{length}
use lib.Arith.{digits_lt, digits_div, digits_mod}
use lib.Pow.{pow-add, pow_pos, pow_mono}
use lib.Dec.{lit<}
use Rattle.numeral.specs.Numeral.{numeral, splice}
use Rattle.numeral.proofs.Values.{numeral_append, numeral_mod, length_numeral, digits_numeral}
use Rattle.numeral.proofs.Spreads.{spread_numeral}
use Rattle.bits.specs.Streams.{Streamed}

-- n bits and w more are one number; up to 64 bits fit a word
module _ (n w u v : ℕ) (h : v < 2 ^ w) where
  pub join : numeral 2 n u ++ numeral 2 w v ≡ numeral 2 (n + w) (u * 2 ^ w + v)
  join =
      let tail : numeral 2 w (u * 2 ^ w + v) ≡ numeral 2 w v = sym (numeral_mod 2 w (u * 2 ^ w + v) (lit< tt)) ∙ rw (digits_mod u h) in
      sym (numeral_append 2 n w (u * 2 ^ w + v) ∙ rw (digits_div u h, tail))

  pub join_lt : n + w ≤ 64 → u < 2 ^ n → u * 2 ^ w + v < 2 ^ 64
  join_lt k l = lt_of_lt_of_le (rw pow-add (digits_lt l h)) (pow_mono k)

-- the n bits of b: whole bytes are stored, and the bits behind them wait
pub pushed : (l : List ℕ) (a b n : ℕ) → a + n / 8 ≤ length l
    → Streamed l a (numeral 2 n b) (splice l a (numeral 256 (n / 8) (b / 2 ^ (n % 8)))) (record { at = a + n / 8; bits = b % 2 ^ (n % 8); count = n % 8 })
pushed l a b n h =
    let k = n / 8 in
    let r = n % 8 in
    let x = b / 2 ^ r in
    let e : 8 * k + r ≡ n = omega arith in
    record {
      sound = record { few = mod-lt n (lit< tt); clear = mod-lt b (pow_pos r) };
      written = record {
        whole = numeral 256 k x;
        bytes = digits_numeral 256 k x (lit< tt);
        parts = rw (spread_numeral 2 8 k x (lit< tt), numeral_mod 2 r b (lit< tt)) (rw e at (numeral_append 2 (8 * k) r b));
        stored = refl;
        stands = rw length_numeral (omega arith);
        inside = omega arith;
      };
    }
