use Rattle.wrong_replay.proofs.of_hail_replay.perform.Goals as goal

pub returns : goal.returns
returns g c = record { performed = c.perform-outcome.ensures.performed }
