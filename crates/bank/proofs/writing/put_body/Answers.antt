-- The company comes first; in each arm what follows it is known, and goes on where it ends.
use Prim.Native.Nat.{◌≤◌}
use mathlib.Core.Path.{◌≡◌}
use native.Mathlib.Omega.{arith}
use lib.Dec.{lit≤}
use lib.ListN.{length, length-append}
use Rattle.numeral.proofs.Values.{length_numeral}
use Rattle.rules.specs.declared.Body.{Body}
use Rattle.bank.specs.Writing.{Room, company_bits, KeepsBehind}
use Rattle.bank.proofs.PackedRows.{company_narrow, reference_narrow}
use Rattle.bank.proofs.Rooms.{fewer, left, then}
use Rattle.bank.proofs.writing.put_body.Goals as goal
use Rattle.bank.proofs.writing.put_body.Goals.{After-put_company}

-- behind the company there is room for all that may follow
module _ (c : After-put_company) where
  keeps : {body : Body} → c.args.body ≡ body → KeepsBehind body c.args.tag
  keeps e = rw e at c.requires.1.1

  company_few : length (company_bits c.args.tag) ≤ 46
  company_few = simp (length-append, length_numeral) (omega (arith, company_narrow c.requires.1.0))

  roomy : Room c.put_company.new.w 178
  roomy = left c.put_company.ensures c.requires.0 (omega (arith, company_few))

pub put_reference-requires : goal.put_reference-requires
put_reference-requires c =
    let company = (goal.at.put_reference-requires c).After-put_company in
    (fewer (roomy company) _ (lit≤ tt), (keeps company c.in-Then.is).0)

pub put_last-requires : goal.put_last-requires
put_last-requires c =
    let company = (goal.at.put_last-requires c).After-put_company in
    let (k, l) = keeps company c.in-Then.is in
    (left c.put_reference.ensures (roomy company) (rw length_numeral (omega (arith, reference_narrow k))), l)

pub returns-in-Then : goal.returns-in-Then
returns-in-Then c = rw c.in-Then.is (then c.put_company.ensures (then c.put_reference.ensures c.put_last.ensures))

pub put_reference-requires-in-Zeros : goal.put_reference-requires-in-Zeros
put_reference-requires-in-Zeros c =
    let company = (goal.at.put_reference-requires-in-Zeros c).After-put_company in
    (fewer (roomy company) _ (lit≤ tt), keeps company c.in-Zeros.is)

pub returns-in-Zeros : goal.returns-in-Zeros
returns-in-Zeros c = rw c.in-Zeros.is (then c.put_company.ensures c.put_reference-in-Zeros.ensures)

pub put_asset-requires : goal.put_asset-requires
put_asset-requires c =
    let company = (goal.at.put_asset-requires c).After-put_company in
    (fewer (roomy company) _ (lit≤ tt), keeps company c.in-E.is)

pub returns-in-E : goal.returns-in-E
returns-in-E c = rw c.in-E.is (then c.put_company.ensures c.put_asset.ensures)
