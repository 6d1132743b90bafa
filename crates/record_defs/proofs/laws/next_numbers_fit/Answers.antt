use Rattle.record_defs.proofs.OrderLaws.{next_id-fits, next_audit-fits}
use Rattle.record_defs.proofs.laws.next_numbers_fit.Goals as goal

pub returns-clause-id : goal.returns-clause-id
returns-clause-id c = next_id-fits

pub returns-clause-audit : goal.returns-clause-audit
returns-clause-audit c = next_audit-fits
