use Rattle.wrong_vault.proofs.of_vault.scrub.Goals as goal

pub returns : goal.returns
returns c = record { begun = c.scrub-begun.ensures.begun }
