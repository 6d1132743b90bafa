use Rattle.wrong_client.proofs.of_command_jobs.open_vault.Goals as goal

pub returns : goal.returns
returns g c = record { disk = c.open_vault-opened.ensures.disk }
