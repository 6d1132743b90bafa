use Rattle.vault_core.proofs.job.Job.action_over.Goals as goal

pub returns-clause-within : goal.returns-clause-within
returns-clause-within c = λ s j kept. c.action.ensures.within s.n j kept.steady

pub returns-clause-appends : goal.returns-clause-appends
returns-clause-appends c = λ s kept. c.action.ensures.appends s.n kept.steady
