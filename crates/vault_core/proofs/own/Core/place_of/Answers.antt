use Rattle.vault_core.proofs.Words.{◌∙◌, ap, ◌==◌, position, core_job}
use Rattle.vault_core.proofs.Places.{position-map}
use Rattle.vault_core.proofs.own.Core.place_of.Goals as goal

pub returns : goal.returns
returns c = c.place_in.ensures
    ∙ (ap (position (λ j. j.number == c.args.job)) c.deref.ensures.value
    ∙ (position-map core_job
    (λ j. j.number == c.args.job) c.self.inside.jobs.items
    ∙ ap (λ x. position (λ j. j.number == c.args.job) x.jobs) c.self.view_is))
