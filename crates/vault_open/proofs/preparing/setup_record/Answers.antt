use Rattle.std.proofs.Common.{◌&&◌}
use Rattle.vault_open.proofs.preparing.setup_record.Goals as goal

pub returns-clause-in_grammar : goal.returns-clause-in_grammar
returns-clause-in_grammar c =
    record { spelled = (λ i. c.requires i && c.key_is_spelled.ensures i); padded = tt }
