use Rattle.wrong_vault.proofs.of_vault.step.Goals as goal

pub returns-clause-machine : goal.returns-clause-machine
returns-clause-machine g c = c.step-turn.ensures.machine

pub returns-clause-calls : goal.returns-clause-calls
returns-clause-calls g c = c.step-turn.ensures.calls

pub returns-clause-waits : goal.returns-clause-waits
returns-clause-waits g c = c.step-turn.ensures.waits
