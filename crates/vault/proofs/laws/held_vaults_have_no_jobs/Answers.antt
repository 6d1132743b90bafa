use Rattle.std.proofs.Common.{◌∙◌}
use Rattle.vault.proofs.Free.{none_kept, none_comes}
use Rattle.vault.proofs.laws.held_vaults_have_no_jobs.Goals as goal

pub returns : goal.returns
returns c = λ v d w number job S. none_comes v.desk.core job (S.desk.core.barred ∙ S.unbarred)
    (none_kept v.desk.core.setup v.desk.core.jobs w.jobs S.desk.core.jobs S.idle)
