use Rattle.wrong_client.proofs.of_command_jobs.run_pack.Goals as goal

pub returns : goal.returns
returns g c = record { ended = c.run_pack-packed.ensures.ended }
