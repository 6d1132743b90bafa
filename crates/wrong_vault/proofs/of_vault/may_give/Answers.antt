use Rattle.wrong_vault.proofs.of_vault.may_give.Goals as goal

pub returns : goal.returns
returns c = record { refused = c.may_give-may.ensures.refused }
