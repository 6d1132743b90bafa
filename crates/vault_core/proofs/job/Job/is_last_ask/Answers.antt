use Rattle.vault_core.proofs.Words.{◌∙◌, Ask}
use Rattle.vault_core.proofs.Gates.{not_over, asks_last}
use Rattle.vault_core.proofs.job.Job.is_last_ask.Goals as goal

pub after-requires-clause-going : goal.after-requires-clause-going
after-requires-clause-going c = not_over c.args.providers c.args.self.now
    (Ask c.in-Ask.provider c.in-Ask.object c.in-Ask.round) c.requires.kept
    (c.in-Ask.ensures.value c.args.providers c.requires.kept) (λ e. cc)

pub returns-in-Ask : goal.returns-in-Ask
returns-in-Ask c = c.is_start.ensures ∙ asks_last c.in-Ask.provider c.in-Ask.object c.in-Ask.round
    (c.in-Ask.ensures.value c.args.providers c.requires.kept) c.after.ensures
