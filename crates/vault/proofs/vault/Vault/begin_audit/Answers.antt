use Rattle.vault.proofs.Words.{None, AuditJob}
use Rattle.vault.proofs.AtWork.{begun_works, begin_keeps}
use Rattle.vault.proofs.Free.{not_free, begin_made}
use Rattle.vault.proofs.vault.Vault.begin_audit.Goals as goal

pub returns-in_err-unheld-clause-machine : goal.returns-in_err-unheld-clause-machine
returns-in_err-unheld-clause-machine c = λ w d moment stands.
    absurd (not_free c.args.self.now.held c.in_err-unheld.ensures.held stands.free)

pub returns-clause-machine : goal.returns-clause-machine
returns-clause-machine c = λ w d moment stands. begin_made w moment AuditJob None _ _ d stands.free
    (c.begin_audit.ensures.machine w d moment stands.desk)

pub invariant_of-self : goal.invariant_of-self
invariant_of-self c =
    record {
      at_work = begun_works c.args.self.now.desk c.begin_audit.new.self AuditJob None c.begin_audit.result
          (begin_keeps c.args.self.now.desk c.begin_audit.new.self c.begin_audit.result
          c.begin_audit.ensures.unchanged c.begin_audit.ensures.streams)
          c.begin_audit.ensures.machine c.args.self.now.at_work;
    }

pub returns-clause-streams : goal.returns-clause-streams
returns-clause-streams c = (begin_keeps c.args.self.now.desk c.begin_audit.new.self c.begin_audit.result
    c.begin_audit.ensures.unchanged c.begin_audit.ensures.streams).none
