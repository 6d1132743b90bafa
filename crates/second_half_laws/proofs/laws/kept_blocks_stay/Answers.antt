use Rattle.second_half_laws.proofs.Kept.{effect_stays, work_stays}
use Rattle.second_half_laws.proofs.laws.kept_blocks_stay.Goals as goal

pub returns-clause-in_effect : goal.returns-clause-in_effect
returns-clause-in_effect c = effect_stays

pub returns-clause-worked_on : goal.returns-clause-worked_on
returns-clause-worked_on c = work_stays
