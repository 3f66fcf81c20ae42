-- `tagcodec_screen` meets its contract: the codec's line, named by its text and its length.
use native.Mathlib.Omega.{arith}
use Rattle.capi.proofs.Replying.{past, of_tag_lem, of_raw}
use Rattle.capi.proofs.tagcodec_screen.Goals as goal

pub returns-then-number-gt255 : goal.returns-then-number-gt255
returns-then-number-gt255 c = past _ _ _ (omega (arith, c.if-number-gt255.true))

pub returns-then-number-eq0 : goal.returns-then-number-eq0
returns-then-number-eq0 c = of_tag_lem _ _ _ _ c.screen-line.ensures.shown c.if-number-eq0.true

pub returns : goal.returns
returns c = of_raw _ _ _ _ c.screen-line.ensures.shown c.if-number-eq0.false
