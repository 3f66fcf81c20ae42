-- Both fields, and the colon where one of them stands.
use mathlib.Core.Path.{◌≡◌}
use mathlib.Core.Logic.{◌⊎◌, inl, inr}
use native.Mathlib.Omega.{arith}
use Rattle.digits.proofs.Joins.{nothing, then}
use Rattle.digits.specs.Pieces.{Adds}
use Rattle.rules.specs.ControlFields.{fields_text}
use Rattle.rules.proofs.Lengths.{fields_length, control_length}
use Rattle.text.proofs.Fields.{umi_length, none_stands, one_stands}
use Rattle.text.proofs.control.put_control.Goals as goal
use Rattle.text.proofs.control.put_control.Goals.{After-put_field-2, Joined-else-control-eq0, else-control-eq0-via-then-control-eq0+else-control-eq0-2, else-control-eq0-via-else-control-eq0}

pub returns-then-control-eq0-2 : goal.returns-then-control-eq0-2
returns-then-control-eq0-2 c =
    record { adds = rw (none_stands c.args.control c.if-control-eq0.true c.if-control-eq0-2.true) (nothing c.args.w.now); upper_bound = omega arith }

-- where the fields are written one of them is not zero
one : (c : Joined-else-control-eq0) → (¬ (c.args.control.umi ≡ 0)) ⊎ (¬ (c.args.control.att ≡ 0))
one c = elim c.else-control-eq0.branch [ else-control-eq0-via-then-control-eq0+else-control-eq0-2 w ↦ inr w.if-control-eq0-2.false | else-control-eq0-via-else-control-eq0 w ↦ inl w.if-control-eq0.false ]

pub put_field-requires-2 : goal.put_field-requires-2
put_field-requires-2 c =
    let umi = c.put_field.ensures in
    (c.requires.0.1, omega (arith, umi.puts.end, umi.size, umi_length c.args.control.umi, c.requires.1))

-- both fields, from the place where the second is written
fields : (c : After-put_field-2) → Adds c.args.w.now (fields_text c.args.control) c.put_field-2.new.w
fields c = then c.put_field.ensures c.put_field-2.ensures

pub byte-requires : goal.byte-requires
byte-requires c =
    let both = fields (goal.at.byte-requires c).After-put_field-2 in
    omega (arith, both.puts.end, both.size, fields_length c.args.control, c.requires.1)

pub returns : goal.returns
returns c =
    let att = (goal.at.returns c).After-put_field-2 in
    let joined = (goal.at.returns c).Joined-else-control-eq0 in
    let a = rw (← one_stands c.args.control (one joined)) at (then (fields att) c.byte.ensures) in
    record { adds = a; upper_bound = omega (arith, a.puts.end, control_length c.args.control) }
