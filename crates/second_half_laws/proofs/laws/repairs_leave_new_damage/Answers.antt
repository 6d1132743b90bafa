use Rattle.machine_defs.specs.Runs.{now}
use Rattle.second_half_laws.proofs.InRuns.{in_calm, clears_all}
use Rattle.second_half_laws.proofs.laws.repairs_leave_new_damage.Goals as goal

pub returns-clause-running : goal.returns-clause-running
returns-clause-running c limit start ms number job name file j stripe h runs kind in_effect l b bad =
    (in_calm limit start ms h).audited.repair number job runs kind name file j stripe in_effect l b bad

pub returns-clause-in_doubt : goal.returns-clause-in_doubt
returns-clause-in_doubt c limit start ms d number name file j h at e in_effect l wrong =
    clears_all start ms ((now start ms).audits number)
    ((in_calm limit start ms h).audited.repair_doubt d number at e) name file j in_effect l wrong
