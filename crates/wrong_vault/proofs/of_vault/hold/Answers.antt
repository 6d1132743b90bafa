use Rattle.wrong_vault.proofs.of_vault.hold.Goals as goal

pub returns : goal.returns
returns c = record { holds = c.hold-begun.ensures.holds }
