use Rattle.wrong_vault.proofs.of_vault_open.read_store.Goals as goal

pub returns : goal.returns
returns g c = record { read = c.read_store-told.ensures.read; start = c.read_store-told.ensures.start }
