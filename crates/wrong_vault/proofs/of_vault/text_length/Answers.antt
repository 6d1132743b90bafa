use Rattle.wrong_vault.proofs.of_vault.text_length.Goals as goal

pub returns : goal.returns
returns c = c.text_length-told.ensures
