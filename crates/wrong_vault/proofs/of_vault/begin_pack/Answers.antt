use Rattle.wrong_vault.proofs.of_vault.begin_pack.Goals as goal

pub returns-clause-begins : goal.returns-clause-begins
returns-clause-begins c = c.begin_pack-begun.ensures.begins

pub returns-clause-is_of : goal.returns-clause-is_of
returns-clause-is_of c = c.begin_pack-begun.ensures.is_of
