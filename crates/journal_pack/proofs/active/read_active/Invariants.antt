use Rattle.journal_pack.proofs.Words.{◌≡◌, ◌-◌, length, Area, base_of, IsSwitched, IsInGrammar, newest_first, IsReadIn}
use Rattle.std.proofs.Common.{All}
use Rattle.journal_pack.proofs.active.read_active.Given as goal

abbrev pub invariant-loop-records : goal.invariant-loop-records
invariant-loop-records l = (area : Area) × IsSwitched l.bytes area × (l.base ≡ base_of area) × IsReadIn
    l.bytes area (newest_first l.records.items) l.gate × All IsInGrammar l.records.items

abbrev pub decreases-loop-records : goal.decreases-loop-records
decreases-loop-records l = length l.bytes - l.gate
