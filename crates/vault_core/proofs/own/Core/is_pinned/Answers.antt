use Rattle.vault_core.proofs.Words.{◌∙◌, ap, ◌==◌, list_any, core_job, is_pinned_in}
use Rattle.vault_core.proofs.Places.{any-map}
use Rattle.vault_core.proofs.own.Core.is_pinned.Goals as goal

pub returns : goal.returns
returns c = c.pin.ensures
    ∙ (ap (list_any (λ j. list_any (λ file. file.id == c.args.object) j.pinned.items))
    c.deref.ensures.value
    ∙ (any-map core_job
    (λ j. list_any (λ file. file.id == c.args.object) j.plan.pins)
    c.self.inside.jobs.items
    ∙ ap (λ x. is_pinned_in x.jobs c.args.object) c.self.view_is))
