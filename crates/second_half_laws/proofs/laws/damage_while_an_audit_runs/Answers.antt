use Rattle.second_half_laws.proofs.Words.{now, first_moments, WasWrong, WrongAt}
use Rattle.second_half_laws.proofs.InRuns.{in_calm, clears}
use Rattle.second_half_laws.proofs.laws.damage_while_an_audit_runs.Goals as goal

pub returns-clause-running : goal.returns-clause-running
returns-clause-running c limit start ms number job name file j h runs kind in_effect l wrong = clears start ms
    job.begun (WrongAt start ms job.begun) (WasWrong (now start (first_moments job.begun ms)) j file.id)
    ((in_calm limit start ms h).audited.audit number job runs kind) name file j in_effect l wrong (λ s x. x)

pub returns-clause-in_doubt : goal.returns-clause-in_doubt
returns-clause-in_doubt c limit start ms d number undecided counts name file j h at e in_effect l wrong =
    clears start ms ((now start ms).audits number) (WrongAt start ms ((now start ms).audits number))
    (WasWrong (now start (first_moments ((now start ms).audits number) ms)) j file.id)
    ((in_calm limit start ms h).audited.audit_doubt d number undecided counts at e) name file j in_effect l
    wrong (λ s x. x)
