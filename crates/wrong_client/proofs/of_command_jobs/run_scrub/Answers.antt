use Rattle.wrong_client.proofs.of_command_jobs.run_scrub.Goals as goal

pub returns : goal.returns
returns g c = record { ended = c.run_scrub-scrubbed.ensures.ended }
