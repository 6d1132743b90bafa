use Rattle.std.proofs.Common.{ap, sym, ◌∙◌}
use Rattle.std.specs.Prelude.{Option}
use Rattle.record_defs.specs.Records.{Setup, is_setup}
use Rattle.machine_defs.specs.Setups.{setup_or_none}
use Rattle.vault_rows.proofs.cores.core_of.Goals as goal

pub new-requires-2-clause-set_up : goal.new-requires-2-clause-set_up
new-requires-2-clause-set_up c = ap (λ (o : Option Setup). is_setup (setup_or_none o))
    (sym c.in_ok-setup.ensures) ∙ sym (c.if-not-check.ensures c.in_ok-setup.field-0-1.0)
