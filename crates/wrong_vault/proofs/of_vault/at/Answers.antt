use Rattle.wrong_vault.proofs.of_vault.at.Goals as goal

pub returns : goal.returns
returns c = c.at-heard.ensures
