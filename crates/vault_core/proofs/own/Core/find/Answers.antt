use Rattle.vault_core.proofs.Words.{◌∙◌, ap, sym, Some, ◌==◌, slice_get, CoreJob, core_job}
use Rattle.std.proofs.lemmas.List.Quantifiers.{position-Some}
use Rattle.vault_core.proofs.Kept.{seen_at}
use Rattle.vault_core.proofs.Places.{found_at, found_none}
use Rattle.vault_core.proofs.own.Core.find.Goals as goal

pub returns-in-Some-clause-found : goal.returns-in-Some-clause-found
returns-in-Some-clause-found c =
    sym (found_at c.args.self.now.jobs c.args.job (sym c.place_of.ensures ∙ c.in-Some.is) ∙
    (ap (λ x. slice_get x.jobs c.in-Some.place) (sym c.self.view_is) ∙
    (seen_at c.self.inside c.in-Some.place (rw (← c.self.view_is) at
    (position-Some (λ (j : CoreJob). j.number == c.args.job) c.args.self.now.jobs c.in-Some.place
    (core_job c.index.result.now) (sym c.place_of.ensures ∙ c.in-Some.is)).0) c.index.ensures
    ∙ ap (λ x. Some (core_job c.index.result.now)) c.self.view_is)))

pub returns-in-None-clause-found : goal.returns-in-None-clause-found
returns-in-None-clause-found c =
    sym (found_none c.args.self.now.jobs c.args.job (sym c.place_of.ensures ∙ c.in-None.is))
