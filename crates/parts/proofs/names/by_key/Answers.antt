-- `by_key` meets its contract: each key is the rest of the name that its scheme alone has, and in the default there is no such scheme.
use Prim.Native.Nat.{ℕ}
use mathlib.Core.Path.{◌≡◌}
use Rattle.std.proofs.Common.{arith}
use Rattle.std.proofs.lemmas.Bool.Decides.{nat_tests}
use lib.ListN.{length}
use Rattle.numeral.specs.Numeral.{value}
use Rattle.rules.specs.declared.Scheme.{Scheme}
use Rattle.rules.specs.declared.Scheme.TheVariants.{Sgtin96, Sgtin198, Sscc96, Sgln96, Sgln195, Grai96, Grai170, Giai96, Gsrn96, Gsrnp96, Gdti96, Gdti174, Gid96, Gdti113, Sgcn96, Cpi96}
use Rattle.rules.specs.Schemes.{schemes}
use Rattle.std.specs.Prelude.{Some}
use Rattle.parts.specs.Names.{first_of, rest_of, key_of, keyed_by}
use Rattle.parts.proofs.Keys.{sound}
use Rattle.parts.proofs.names.by_key.Goals as goal

arm : (s r : Scheme) (k : ℕ) → r ≡ s → k ≡ key_of s → Some (record { 0 = r; 1 = first_of s; 2 = length (rest_of s) }) ≡ keyed_by k
arm s r k e q = rw (e, q) (sound s).own

pub returns-in-29119918770043190 : goal.returns-in-29119918770043190
unfolding value
returns-in-29119918770043190 c = arm Sgtin96 _ _ c.new.ensures c.in-29119918770043190.is

pub returns-in-7454699205130533176 : goal.returns-in-7454699205130533176
unfolding value
returns-in-7454699205130533176 c = arm Sgtin198 _ _ c.new-in-7454699205130533176.ensures c.in-7454699205130533176.is

pub returns-in-126870702864694 : goal.returns-in-126870702864694
unfolding value
returns-in-126870702864694 c = arm Sscc96 _ _ c.new-in-126870702864694.ensures c.in-126870702864694.is

pub returns-in-113715402586422 : goal.returns-in-113715402586422
unfolding value
returns-in-113715402586422 c = arm Sgln96 _ _ c.new-in-113715402586422.ensures c.in-113715402586422.is

pub returns-in-29111143061600565 : goal.returns-in-29111143061600565
unfolding value
returns-in-29111143061600565 c = arm Sgln195 _ _ c.new-in-29111143061600565.ensures c.in-29111143061600565.is

pub returns-in-125762701965622 : goal.returns-in-125762701965622
unfolding value
returns-in-125762701965622 c = arm Grai96 _ _ c.new-in-125762701965622.ensures c.in-125762701965622.is

pub returns-in-32195251702675248 : goal.returns-in-32195251702675248
unfolding value
returns-in-32195251702675248 c = arm Grai170 _ _ c.new-in-32195251702675248.ensures c.in-32195251702675248.is

pub returns-in-115867097315638 : goal.returns-in-115867097315638
unfolding value
returns-in-115867097315638 c = arm Giai96 _ _ c.new-in-115867097315638.ensures c.in-115867097315638.is

pub returns-in-126935311923510 : goal.returns-in-126935311923510
unfolding value
returns-in-126935311923510 c = arm Gsrn96 _ _ c.new-in-126935311923510.ensures c.in-126935311923510.is

pub returns-in-32495440975706422 : goal.returns-in-32495440975706422
unfolding value
returns-in-32495440975706422 c = arm Gsrnp96 _ _ c.new-in-32495440975706422.ensures c.in-32495440975706422.is

pub returns-in-110451143555382 : goal.returns-in-110451143555382
unfolding value
returns-in-110451143555382 c = arm Gdti96 _ _ c.new-in-110451143555382.ensures c.in-110451143555382.is

pub returns-in-28275492749653812 : goal.returns-in-28275492749653812
unfolding value
returns-in-28275492749653812 c = arm Gdti174 _ _ c.new-in-28275492749653812.ensures c.in-28275492749653812.is

pub returns-in-452652251446 : goal.returns-in-452652251446
unfolding value
returns-in-452652251446 c = arm Gid96 _ _ c.new-in-452652251446.ensures c.in-452652251446.is

pub returns-in-28275492749652275 : goal.returns-in-28275492749652275
unfolding value
returns-in-28275492749652275 c = arm Gdti113 _ _ c.new-in-28275492749652275.ensures c.in-28275492749652275.is

pub returns-in-113676747880758 : goal.returns-in-113676747880758
unfolding value
returns-in-113676747880758 c = arm Sgcn96 _ _ c.new-in-113676747880758.ensures c.in-113676747880758.is

pub returns-in-482800908598 : goal.returns-in-482800908598
unfolding value
returns-in-482800908598 c = arm Cpi96 _ _ c.new-in-482800908598.ensures c.in-482800908598.is

pub returns-in_default : goal.returns-in_default
unfolding keyed_by schemes value
returns-in_default c =
    grind (arith, nat_tests)
