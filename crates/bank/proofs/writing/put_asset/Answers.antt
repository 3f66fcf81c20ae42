-- The reference has the width that the row has for it.
use mathlib.Core.Path.{◌≡◌, ap, ◌∙◌}
use Rattle.rules.specs.Schemes.{asset_bits, row_at, row_of}
use Rattle.bank.proofs.PackedRows.{asset_row, asset_wide}
use Rattle.bank.proofs.writing.put_asset.Goals as goal
use Rattle.bank.proofs.writing.put_asset.Goals.{After-asset-width}

pub asset-width-requires : goal.asset-width-requires
asset-width-requires c = rw c.by_digits.ensures (asset_row c.requires.1)

width : (c : After-asset-width) → c.asset-width.result ≡ asset_bits (row_of c.args.tag.digits)
width c = c.asset-width.ensures ∙ ap (λ p. asset_bits (row_at p)) c.by_digits.ensures

pub put_wide-requires : goal.put_wide-requires
put_wide-requires c = (c.requires.0, rw (width (goal.at.put_wide-requires c).After-asset-width) (asset_wide c.requires.1))
