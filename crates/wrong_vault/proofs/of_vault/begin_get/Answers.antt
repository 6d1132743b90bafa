use Rattle.wrong_vault.proofs.of_vault.begin_get.Goals as goal

pub returns : goal.returns
returns c = record { busy = c.begin_get-begun.ensures.busy }
