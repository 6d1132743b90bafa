use Rattle.record_defs.proofs.Words.{refl, length-replicate, four_set_up}
use Rattle.std.proofs.Common.{ℕ, ◌-◌, ◌^◌}
use Rattle.record_defs.proofs.AreaLaws.{text-active}
use Rattle.record_defs.proofs.TwoAreas.{filled-first, filled-other}
use Rattle.record_defs.proofs.laws.two_areas_hold_texts.Goals as goal

pub returns-clause-active : goal.returns-clause-active
returns-clause-active c = text-active four_set_up refl

pub returns-clause-filled : goal.returns-clause-filled
returns-clause-filled c = length-replicate {A = ℕ} (2 ^ 23 - 51) 0

pub returns-clause-front : goal.returns-clause-front
returns-clause-front c = λ filling. refl

pub returns-clause-area : goal.returns-clause-area
returns-clause-area c = filled-first

pub returns-clause-other_area : goal.returns-clause-other_area
returns-clause-other_area c = filled-other
