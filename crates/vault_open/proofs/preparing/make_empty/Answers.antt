use Rattle.vault_open.proofs.Words.{ap, WriteFault, on_err}
use Rattle.std.proofs.Common.{Err}
use Rattle.vault_open.proofs.Emptied.{failed-short}
use Rattle.vault_open.proofs.preparing.make_empty.Goals as goal

pub returns-in_err-write_at-clause-left : goal.returns-in_err-write_at-clause-left
returns-in_err-write_at-clause-left g c =
    on_err c.from_residual.result _ (λ short. failed-short c.in_err-write_at.field-0.0
    (g.D.Disk.holds c.args.disk.now) (g.D.Disk.holds c.write_at.new.self)
    (λ is. c.in_err-write_at.ensures.failed (ap (λ (f : WriteFault). Err f) is))
    (λ is. c.in_err-write_at.ensures.memory (ap (λ (f : WriteFault). Err f) is)) short)
