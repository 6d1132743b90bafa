use Rattle.wrong_vault.proofs.of_vault_open.init.Goals as goal

pub returns : goal.returns
returns g c = record { unlooked = c.init-told.ensures.unlooked; set_up = c.init-told.ensures.set_up }
