-- The two counts of bits: code bit 0 is address 20h.
use Rattle.std.specs.Prelude.{ℕ, ◌+◌}
use Rattle.scheme.specs.declared.counts.BankAddress.{BankAddress}
use Rattle.scheme.specs.declared.counts.CodeBit.{CodeBit}

abbrev pub address_of : CodeBit → BankAddress
address_of c = record { 0 = 0x20 + c.0 }

-- the code bit n bits further on
abbrev pub behind_of : CodeBit → ℕ → CodeBit
behind_of c n = record { 0 = c.0 + n }
