use Rattle.machine_defs.proofs.Held.{contains_in}
use Rattle.second_half_laws.proofs.InDoubt.{kept}
use Rattle.second_half_laws.proofs.laws.audited_files_stay_in_doubt.Goals as goal

pub returns : goal.returns
returns c limit start ms d job file j stripe clean run at maker kind pinned none =
    (kept limit start clean ms run).audited d job file j stripe at maker kind
    (contains_in job.pinned file pinned) none
