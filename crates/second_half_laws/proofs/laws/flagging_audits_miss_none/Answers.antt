use Rattle.second_half_laws.proofs.Flagging.{flagging_misses_none, unaudited_misses_none}
use Rattle.second_half_laws.proofs.laws.flagging_audits_miss_none.Goals as goal

pub returns-clause-flagged : goal.returns-clause-flagged
returns-clause-flagged c = flagging_misses_none

pub returns-clause-unaudited : goal.returns-clause-unaudited
returns-clause-unaudited c = unaudited_misses_none
