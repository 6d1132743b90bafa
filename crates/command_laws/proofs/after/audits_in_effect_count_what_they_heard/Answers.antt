use Rattle.command_laws.proofs.AuditInEffect.{audit-in-effect}
use Rattle.command_laws.proofs.after.audits_in_effect_count_what_they_heard.Goals as goal

pub returns : goal.returns
returns c records undecided counts old new next end A S N F =
    audit-in-effect records undecided counts old new next end S N F A.0
