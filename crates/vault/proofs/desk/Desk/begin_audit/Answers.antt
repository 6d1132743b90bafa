use Rattle.vault.proofs.Words.{ℕ, ◌*◌, ◌∙◌, ap, min, refl, AuditJob}
use Rattle.std.proofs.Common.{length}
use Rattle.vault.proofs.AuditBegins.{few-files, audit-task}
use Rattle.vault.proofs.desk.Desk.begin_audit.Goals as goal
use Rattle.vault.proofs.GetBegins.{least}

pub returns-in-Ok-clause-machine : goal.returns-in-Ok-clause-machine
returns-in-Ok-clause-machine c = λ w d moment stands.
    let v = c.args.self.now in
    let count = c.count.ensures
    ∙ ap (λ t. length t.files) c.table.ensures in
    let new = rw c.next_job.ensures at c.in-Ok.ensures in
    c.admit.ensures.machine w d moment AuditJob stands refl tt
    (λ accepted. audit-task v d w moment stands c.in-Ok.task
    (c.min-files.result * (c.from.result * c.from-2.result)) new
    (λ i. (c.min-files.ensures
    ∙ ap (λ (k : ℕ). min k 1024) count
    ∙ least (length v.core.table.files) 1024 (few-files v d w moment stands)) i *
    (c.from.ensures i * c.from-2.ensures i)))
