use Rattle.std.proofs.Common.{arith}
use Rattle.bench_works.specs.declared.stripes.TheConstants.{MASTER}
use Rattle.bench_works.proofs.audit.AuditWork.from_words.Goals as goal

pub invariant_of-result-clause-some_rows : goal.invariant_of-result-clause-some_rows
invariant_of-result-clause-some_rows c = omega (arith, c.rows.ensures.value MASTER.0)
