use Rattle.wrong_client.proofs.of_command_jobs.run_stream.Goals as goal

pub returns : goal.returns
returns g c = record { ended = c.run_stream-streamed.ensures.ended }
