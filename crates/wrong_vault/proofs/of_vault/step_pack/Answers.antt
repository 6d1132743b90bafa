use Rattle.wrong_vault.proofs.of_vault.step_pack.Goals as goal

pub returns : goal.returns
returns g c = record { machine = c.step_pack-turn.ensures.machine; calls = c.step_pack-turn.ensures.calls }
