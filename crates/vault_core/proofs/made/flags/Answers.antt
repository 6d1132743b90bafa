use Rattle.vault_core.proofs.Words.{◌∙◌, ap, sym, due_flags, option_map, due_of_pair}
use Rattle.vault_core.proofs.Pins.{flags_none}
use Rattle.vault_core.proofs.made.flags.Goals as goal

pub returns-in-None-clause-flags : goal.returns-in-None-clause-flags
returns-in-None-clause-flags c = λ j. flags_none 16 j
    ∙ ap (λ o. due_flags c.args.tolerance (option_map due_of_pair o) j) (sym c.in-None.is)
