use Rattle.wrong_vault.proofs.of_vault.begin_put.Goals as goal

pub returns : goal.returns
returns c = record { machine = c.begin_put-begun.ensures.machine }
