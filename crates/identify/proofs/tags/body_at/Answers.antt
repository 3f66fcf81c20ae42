-- The pieces before the parts, one after the other.
use mathlib.Core.Path.{ap}
use native.Mathlib.Omega.{arith}
use lib.ListN.{length}
use Rattle.rules.specs.Schemes.{about}
use Rattle.rules.proofs.Lengths.{control_length}
use Rattle.text.proofs.Rooms.{label_short}
use Rattle.identities.proofs.Lengths.{filter_length}
use Rattle.identify.proofs.tags.body_at.Goals as goal

pub overflow_add-result : goal.overflow_add-result
overflow_add-result c = omega (arith, c.control_length.ensures, control_length c.args.control)

pub overflow_add-result-2 : goal.overflow_add-result-2
overflow_add-result-2 c = let a = c.args in omega (arith, c.control_length.ensures, control_length a.control, ap length c.label.ensures, label_short a.s)

pub overflow_add-result-3 : goal.overflow_add-result-3
overflow_add-result-3 c =
    let a = c.args in
    omega (arith, c.control_length.ensures, control_length a.control, ap length c.label.ensures, label_short a.s, c.filter_length.ensures, filter_length (about a.s).parts 0)

pub returns : goal.returns
returns c = omega (arith, c.control_length.ensures, ap length c.label.ensures, c.filter_length.ensures)
