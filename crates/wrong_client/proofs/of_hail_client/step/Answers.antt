use Rattle.wrong_client.proofs.of_hail_client.step.Goals as goal

pub returns : goal.returns
returns g c = record { machine = c.step-turn.ensures.machine }
