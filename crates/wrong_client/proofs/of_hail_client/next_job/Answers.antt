use Rattle.wrong_client.proofs.of_hail_client.next_job.Goals as goal

pub returns : goal.returns
returns c = c.next_job-number.ensures
