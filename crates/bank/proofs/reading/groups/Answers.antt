use Prim.Native.Nat.{◌+◌, ◌≤◌}
use mathlib.Core.Path.{◌≡◌, ◌∙◌}
use native.Mathlib.Omega.{arith}
use Rattle.fields.proofs.Readers.{number, on}
use Rattle.bank.proofs.Groups.{Stored, next_groups, all_groups}
use Rattle.bank.proofs.reading.groups.Goals as goal
use Rattle.bank.proofs.reading.groups.Goals.{After-split}

-- n more are stored
stored : (c : After-split) → c.loop-i.i + c.min-n.result ≤ c.args.k → let r = c.args.reader in Stored r.bank.now r.at.0 c.args.k (c.loop-i.i + c.min-n.result) c.split.new.out
stored c more =
    let v = c.loop-i in
    let r = c.args.reader in
    c.split.ensures ∙ rw (number v.invariant.1 _ c.take-next.ensures.number) (next_groups r.bank.now r.at.0 c.args.k c.requires.inside v.i c.min-n.result v.groups more c.requires.most v.invariant.2)

pub loop-i-preserved : goal.loop-i-preserved
loop-i-preserved c =
    let v = c.loop-i in
    let eight : c.min-n.result ≡ 8 = omega arith in
    let next = on v.invariant.1 _ c.take-next.ensures.rest in
    (omega arith, record { bank = next.bank; place = omega (arith, next.place) }, rw eight at (stored (goal.at.loop-i-preserved c).After-split (omega arith)))

pub returns : goal.returns
returns c =
    let v = c.loop-i in
    let all : v.i ≡ c.args.k = omega arith in
    all_groups _ _ _ (rw all at v.invariant.2)

pub returns-2 : goal.returns-2
returns-2 c =
    let all : c.loop-i.i + c.min-n.result ≡ c.args.k = omega arith in
    all_groups _ _ _ (rw all at (stored (goal.at.returns-2 c).After-split (omega arith)))
