use Rattle.vault_core.proofs.Words.{ap, sym, ◌∙◌, Some, option_map}
use Rattle.vault_core.proofs.own.Core.wish.Goals as goal

pub returns-in-Some-clause-own : goal.returns-in-Some-clause-own
returns-in-Some-clause-own c = λ p e. ap (option_map (λ j. j.plan.profile)) (sym c.in-Some.ensures.found)
    ∙ ap Some (c.in-Some.ensures.kept.steady.stays.own p e)
