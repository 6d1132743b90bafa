use Rattle.record_codec.proofs.Values.{size_of_counts, size_of_due}
use Rattle.record_codec.proofs.records.Record.size.Goals as goal

pub returns-in-AuditDone : goal.returns-in-AuditDone
returns-in-AuditDone c = size_of_counts c.args.self.now c.in-AuditDone.number c.in-AuditDone.undecided
    c.in-AuditDone.counts c.in-AuditDone.is c.requires

pub returns-in-Due : goal.returns-in-Due
returns-in-Due c = size_of_due c.args.self.now c.in-Due.number c.in-Due.counts c.in-Due.is c.requires
