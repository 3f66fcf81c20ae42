-- A string that is counted is its groups.
use Rattle.bank.proofs.Records.{counted}
use Rattle.bank.proofs.reading.last_part.Goals as goal

pub returns-in_ok-count-in-String : goal.returns-in_ok-count-in-String
returns-in_ok-count-in-String c =
    let r = c.args.reader in
    rw c.in-String.is (counted r.bank.now r.at.0 _ (rw c.in-String.is at c.requires).most _ c.groups-characters.ensures _ c.in_ok-count-in-String.ensures)
