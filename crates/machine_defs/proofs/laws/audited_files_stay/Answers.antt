use Rattle.machine_defs.proofs.Held.{contains_in, all}
use Rattle.machine_defs.proofs.laws.audited_files_stay.Goals as goal

pub returns : goal.returns
returns c limit start ms number job file j stripe clean run runs kind pinned none =
    (all limit start clean ms run).held.audited number job file j stripe runs kind
    (contains_in job.pinned file pinned) none
