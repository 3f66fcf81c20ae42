-- Each name has its writer.
use native.Mathlib.Omega.{arith}
use Rattle.text.proofs.control.put_field.Goals as goal

pub put_umi-requires : goal.put_umi-requires
put_umi-requires c =
    let small = c.requires.0 in
    (rw c.in-Umi.is at small, omega (arith, c.requires.1))

pub returns-in-Umi : goal.returns-in-Umi
returns-in-Umi c = rw c.in-Umi.is c.put_umi.ensures

pub returns-in-Att : goal.returns-in-Att
returns-in-Att c = rw c.in-Att.is c.put_att.ensures
