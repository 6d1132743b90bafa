use Rattle.vault_core.proofs.Words.{◌∙◌, ◌+◌, ap, length, aims_kept, taken_names}
use Rattle.std.proofs.Math.ListN.{drop_of_length-le}
use Rattle.vault_core.proofs.Refusals.{none-more}
use Rattle.vault_core.proofs.refusal.names_beside.Goals as goal

pub returns-clause-value : goal.returns-clause-value
returns-clause-value c = c.loop-place.invariant.value
    ∙ (ap (λ js. c.loop-place.count + length (taken_names c.args.table.now.files (aims_kept js)))
    (drop_of_length-le c.args.jobs.now c.loop-place-test.false)
    ∙ ap (λ k. c.loop-place.count + k) (none-more c.args.table.now.files))
