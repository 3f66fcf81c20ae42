-- At each family the line of the table is computed.
use mathlib.Core.Path.{◌≡◌, refl}
use Rattle.identities.specs.declared.Family.{Family}
use Rattle.identities.specs.declared.Family.TheVariants.{Sgtin, Sscc, Sgln, Grai, Giai, Gsrn, Gsrnp, Gdti, Gid, Sgcn, Cpi}
use Rattle.identities.specs.Families.{about}
use Rattle.identify.specs.declared.form.Shape.{Shape}
use Rattle.identify.specs.Words.{components_of, total_in, ShapeOf}
use Rattle.identify.proofs.form.about.Goals as goal

arm : (g : Family) {f : Family} {r : Shape} → f ≡ g → components_of r ≡ (about g).components → total_in r ≡ (about g).total → ShapeOf f r
arm g e h k = rw e (record { components = h; total = k })

pub returns-in-Sgtin : goal.returns-in-Sgtin
returns-in-Sgtin c = arm Sgtin c.in-Sgtin.is refl refl

pub returns-in-Sscc : goal.returns-in-Sscc
returns-in-Sscc c = arm Sscc c.in-Sscc.is refl refl

pub returns-in-Sgln : goal.returns-in-Sgln
returns-in-Sgln c = arm Sgln c.in-Sgln.is refl refl

pub returns-in-Grai : goal.returns-in-Grai
returns-in-Grai c = arm Grai c.in-Grai.is refl refl

pub returns-in-Giai : goal.returns-in-Giai
returns-in-Giai c = arm Giai c.in-Giai.is refl refl

pub returns-in-Gsrn : goal.returns-in-Gsrn
returns-in-Gsrn c = arm Gsrn c.in-Gsrn.is refl refl

pub returns-in-Gsrnp : goal.returns-in-Gsrnp
returns-in-Gsrnp c = arm Gsrnp c.in-Gsrnp.is refl refl

pub returns-in-Gdti : goal.returns-in-Gdti
returns-in-Gdti c = arm Gdti c.in-Gdti.is refl refl

pub returns-in-Gid : goal.returns-in-Gid
returns-in-Gid c = arm Gid c.in-Gid.is refl refl

pub returns-in-Sgcn : goal.returns-in-Sgcn
returns-in-Sgcn c = arm Sgcn c.in-Sgcn.is refl refl

pub returns-in-Cpi : goal.returns-in-Cpi
returns-in-Cpi c = arm Cpi c.in-Cpi.is refl refl
