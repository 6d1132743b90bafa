use Rattle.second_half_laws.proofs.Words.{Fetched, contains_in}
use Rattle.second_half_laws.proofs.InRuns.{in_run}
use Rattle.second_half_laws.proofs.laws.damage_of_pinned_files_is_new.Goals as goal

pub returns-clause-held : goal.returns-clause-held
returns-clause-held c limit mark start ms number job file j stripe h runs pinned l b bad =
    (in_run limit mark start ms h).reads number job file j stripe runs
    (contains_in job.pinned file pinned) l b bad

pub returns-clause-fetched : goal.returns-clause-fetched
returns-clause-fetched c limit mark start ms number job file j stripe block h runs pinned l b given wrong =
    (in_run limit mark start ms h).gave number job file j stripe block runs
    (contains_in job.pinned file pinned) l b (contains_in job.given (Fetched j file.id stripe block) given)
    wrong
