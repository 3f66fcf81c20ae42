-- Two characters, and the digits behind them.
use Rattle.digits.proofs.Joins.{then}
use Rattle.bank.proofs.raw.put_field.Goals as goal

pub returns : goal.returns
returns c = then c.put.ensures c.hex.ensures
