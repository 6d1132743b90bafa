use Rattle.job_laws.proofs.Words.{None, refl, GetJob, Got, setup_in, ran_from, MayName}
use Rattle.job_laws.proofs.Runs.{job-ends}
use Rattle.job_laws.proofs.Gets.{all-leaves}
use Rattle.job_laws.proofs.Complete.{shape-of, get-complete, get-right, get-forged}
use Rattle.job_laws.proofs.files.few_bad_providers_give_file.Goals as goal

pub returns-clause-complete : goal.returns-clause-complete
unfolding setup_in
returns-clause-complete c w new moment name bytes answer heard file O spelled r in_effect fits size few =
    get-complete (ran_from w new heard) name bytes file (shape-of w new heard O) in_effect fits size answer
    (all-leaves w new name answer heard O
    (job-ends w new moment (GetJob name) None answer heard O spelled (MayName.none refl) r)).by_kind few

pub returns-clause-right : goal.returns-clause-right
unfolding setup_in
returns-clause-right c w new moment name bytes got heard file O spelled r in_effect fits size few =
    get-right (ran_from w new heard) name bytes file (shape-of w new heard O) in_effect fits size got
    (all-leaves w new name (Got got) heard O
    (job-ends w new moment (GetJob name) None (Got got) heard O spelled (MayName.none refl) r)).by_kind few

pub returns-clause-forged : goal.returns-clause-forged
unfolding setup_in
returns-clause-forged c w new moment name bytes got heard file O spelled r in_effect fits size =
    get-forged (ran_from w new heard) name bytes file (shape-of w new heard O) in_effect fits size got
    (all-leaves w new name (Got got) heard O
    (job-ends w new moment (GetJob name) None (Got got) heard O spelled (MayName.none refl) r)).by_kind
