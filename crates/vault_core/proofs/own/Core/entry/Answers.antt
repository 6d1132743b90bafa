use Rattle.vault_core.proofs.Words.{option_map, entry_of}
use Rattle.vault_core.proofs.Standing.{entry_machine}
use Rattle.vault_core.proofs.own.Core.entry.Goals as goal

pub returns-clause-machine : goal.returns-clause-machine
returns-clause-machine c = λ w is free. entry_machine c.args.self.now w c.args.job
    (option_map entry_of c.writing.result) is free c.writing.ensures.value
