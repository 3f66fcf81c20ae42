-- At each family the literal is the name and the colon.
use Rattle.identify.proofs.families.label.Goals as goal

pub returns-in-Sgtin : goal.returns-in-Sgtin
returns-in-Sgtin c = rw c.in-Sgtin.is

pub returns-in-Sscc : goal.returns-in-Sscc
returns-in-Sscc c = rw c.in-Sscc.is

pub returns-in-Sgln : goal.returns-in-Sgln
returns-in-Sgln c = rw c.in-Sgln.is

pub returns-in-Grai : goal.returns-in-Grai
returns-in-Grai c = rw c.in-Grai.is

pub returns-in-Giai : goal.returns-in-Giai
returns-in-Giai c = rw c.in-Giai.is

pub returns-in-Gsrn : goal.returns-in-Gsrn
returns-in-Gsrn c = rw c.in-Gsrn.is

pub returns-in-Gsrnp : goal.returns-in-Gsrnp
returns-in-Gsrnp c = rw c.in-Gsrnp.is

pub returns-in-Gdti : goal.returns-in-Gdti
returns-in-Gdti c = rw c.in-Gdti.is

pub returns-in-Gid : goal.returns-in-Gid
returns-in-Gid c = rw c.in-Gid.is

pub returns-in-Sgcn : goal.returns-in-Sgcn
returns-in-Sgcn c = rw c.in-Sgcn.is

pub returns-in-Cpi : goal.returns-in-Cpi
returns-in-Cpi c = rw c.in-Cpi.is
