-- The invariant: i groups are stored, zeros stand behind them, and the reader stands at the next one.
use Prim.Native.Nat.{◌+◌, ◌-◌, ◌*◌, ◌≤◌}
use Rattle.fields.proofs.Readers.{Stands}
use Rattle.bank.proofs.Groups.{Stored}
use Rattle.bank.proofs.reading.groups.Given as goal

abbrev pub invariant-loop-i : goal.invariant-loop-i
invariant-loop-i l =
    let r = l.initial.reader in
    (l.i ≤ l.k) × Stands l.reader r.bank.now (r.at.0 + 7 * l.i) × Stored r.bank.now r.at.0 l.k l.i l.groups

abbrev pub decreases-loop-i : goal.decreases-loop-i
decreases-loop-i l = l.k - l.i
