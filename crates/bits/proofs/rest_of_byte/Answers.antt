-- The mask is one less than 2 ^ (8 - at % 8); the low bits of a byte are its bits from one on (`rest_is`).
use mathlib.Core.Path.{◌≡◌, sym, ap, ◌∙◌}
use Prim.Native.Nat.{ℕ, ◌+◌, ◌-◌, ◌/◌, ◌%◌, ◌^◌, ◌<◌}
use native.Mathlib.Omega.{arith}
use native.Mathlib.Nat.{mod-lt}
use lib.ListN.{get_or}
use lib.Arith.{digits_div}
use lib.Dec.{lit<}
use lib.Pow.{ones_split, ones_lt}
use lib.Bits.{bit_and, and_mask}
use Rattle.bits.proofs.Pieces.{rest_is}
use Rattle.bits.proofs.rest_of_byte.Goals as goal

-- 255 without its k low bits
mask : (k : ℕ) → k < 8 → 255 / 2 ^ k ≡ 2 ^ (8 - k) - 1
mask k h =
    let all : 8 - k + k ≡ 8 = omega arith in
    ap (◌/ 2 ^ k) (rw all at (ones_split (8 - k) k)) ∙ digits_div (2 ^ (8 - k) - 1) (ones_lt k)

pub returns : goal.returns
returns c =
    let s = c.args in
    let byte = get_or s.bank.now (s.at / 8) 0 in
    ap (bit_and byte) (mask (s.at % 8) (mod-lt s.at (lit< tt))) ∙ and_mask byte (8 - s.at % 8) ∙ sym (rest_is s.bank.now s.at c.requires)
