use Rattle.wrong_vault.proofs.of_vault.start.Goals as goal

pub returns : goal.returns
returns g c = record { start = c.start-told.ensures.start }
