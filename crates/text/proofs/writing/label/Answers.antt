-- At each variant the label is computed, and its bytes are the literal's.
use Rattle.text.proofs.writing.label.Goals as goal

pub returns-in-Sgtin96 : goal.returns-in-Sgtin96
returns-in-Sgtin96 c = rw c.in-Sgtin96.is

pub returns-in-Sgtin198 : goal.returns-in-Sgtin198
returns-in-Sgtin198 c = rw c.in-Sgtin198.is

pub returns-in-Sscc96 : goal.returns-in-Sscc96
returns-in-Sscc96 c = rw c.in-Sscc96.is

pub returns-in-Sgln96 : goal.returns-in-Sgln96
returns-in-Sgln96 c = rw c.in-Sgln96.is

pub returns-in-Sgln195 : goal.returns-in-Sgln195
returns-in-Sgln195 c = rw c.in-Sgln195.is

pub returns-in-Grai96 : goal.returns-in-Grai96
returns-in-Grai96 c = rw c.in-Grai96.is

pub returns-in-Grai170 : goal.returns-in-Grai170
returns-in-Grai170 c = rw c.in-Grai170.is

pub returns-in-Giai96 : goal.returns-in-Giai96
returns-in-Giai96 c = rw c.in-Giai96.is

pub returns-in-Gsrn96 : goal.returns-in-Gsrn96
returns-in-Gsrn96 c = rw c.in-Gsrn96.is

pub returns-in-Gsrnp96 : goal.returns-in-Gsrnp96
returns-in-Gsrnp96 c = rw c.in-Gsrnp96.is

pub returns-in-Gdti96 : goal.returns-in-Gdti96
returns-in-Gdti96 c = rw c.in-Gdti96.is

pub returns-in-Gdti174 : goal.returns-in-Gdti174
returns-in-Gdti174 c = rw c.in-Gdti174.is

pub returns-in-Gid96 : goal.returns-in-Gid96
returns-in-Gid96 c = rw c.in-Gid96.is

pub returns-in-Gdti113 : goal.returns-in-Gdti113
returns-in-Gdti113 c = rw c.in-Gdti113.is

pub returns-in-Sgcn96 : goal.returns-in-Sgcn96
returns-in-Sgcn96 c = rw c.in-Sgcn96.is

pub returns-in-Cpi96 : goal.returns-in-Cpi96
returns-in-Cpi96 c = rw c.in-Cpi96.is
