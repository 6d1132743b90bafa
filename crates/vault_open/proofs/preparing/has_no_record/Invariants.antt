use Rattle.vault_open.proofs.Words.{◌≡◌, ◌-◌, List, length, Record, Area, base_of, IsSwitched, IsReadIn, IsFirstAnswer}
use Rattle.vault_open.proofs.preparing.has_no_record.Given as goal

abbrev pub invariant-loop-entry : goal.invariant-loop-entry
invariant-loop-entry l = (area : Area) × (rs : List Record) × (l.base ≡ base_of area) × IsSwitched l.bytes
    area × IsReadIn l.bytes area rs l.gate × IsFirstAnswer l.base rs l.answer

abbrev pub decreases-loop-entry : goal.decreases-loop-entry
decreases-loop-entry l = length l.bytes - l.gate
