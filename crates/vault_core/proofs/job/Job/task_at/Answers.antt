use Rattle.vault_core.proofs.Words.{length, refl, slice_get_read}
use Rattle.vault_core.proofs.Rests.{task_found, tasks_over}
use Rattle.vault_core.proofs.job.Job.task_at.Goals as goal

pub returns-in-Some : goal.returns-in-Some
returns-in-Some c = λ n l stays.
    let h = c.in-Some.ensures.lookup in
    task_found c.args.place l stays (rw c.deref.ensures.value at (slice_get_read c.deref.result.now (length
    c.deref.result.now) c.args.place c.in-Some.task.now refl h.3.0 h.1))

pub returns-in-None : goal.returns-in-None
returns-in-None c = λ n l stays. tasks_over c.args.place
    (rw c.deref.ensures.value at c.in-None.ensures.lookup.3) (c.closing.ensures n)
