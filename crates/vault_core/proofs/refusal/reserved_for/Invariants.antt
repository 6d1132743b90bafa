use Rattle.vault_core.proofs.Words.{◌≡◌, ◌≤◌, take, sum_by, room_behind}
use Rattle.std.proofs.Common.{◌*◌}
use Rattle.vault_core.specs.declared.job.Job.{Job}
use Rattle.vault_core.proofs.refusal.reserved_for.Given as goal

abbrev pub invariant-loop-job : goal.invariant-loop-job
invariant-loop-job l = record {
  value : l.room ≡ sum_by (λ (j : Job). room_behind l.version l.providers j.wish j.appends)
      (take l.job-index l.jobs);
  bound : l.room ≤ l.job-index * 1045;
}
