use Rattle.wrong_client.proofs.of_command_jobs.run_job.Goals as goal

pub returns : goal.returns
returns g c = record { ended = c.run_job-ended.ensures.ended }
