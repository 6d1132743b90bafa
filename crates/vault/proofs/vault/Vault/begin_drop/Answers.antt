use Rattle.vault.proofs.Words.{None, DropJob}
use Rattle.vault.proofs.AtWork.{begun_works, begin_keeps}
use Rattle.vault.proofs.Free.{not_free, begin_made}
use Rattle.vault.proofs.vault.Vault.begin_drop.Goals as goal

pub returns-in_err-unheld-clause-machine : goal.returns-in_err-unheld-clause-machine
returns-in_err-unheld-clause-machine c = λ w d moment stands.
    absurd (not_free c.args.self.now.held c.in_err-unheld.ensures.held stands.free)

pub returns-clause-machine : goal.returns-clause-machine
returns-clause-machine c = λ w d moment stands. begin_made w moment (DropJob c.args.name.now) None _ _ d
    stands.free (c.begin_drop.ensures.machine w d moment stands.desk)

pub invariant_of-self : goal.invariant_of-self
invariant_of-self c =
    record {
      at_work = begun_works c.args.self.now.desk c.begin_drop.new.self (DropJob c.args.name.now) None
          c.begin_drop.result (begin_keeps c.args.self.now.desk c.begin_drop.new.self c.begin_drop.result
          c.begin_drop.ensures.unchanged c.begin_drop.ensures.streams)
          c.begin_drop.ensures.machine c.args.self.now.at_work;
    }

pub returns-clause-streams : goal.returns-clause-streams
returns-clause-streams c = (begin_keeps c.args.self.now.desk c.begin_drop.new.self c.begin_drop.result
    c.begin_drop.ensures.unchanged c.begin_drop.ensures.streams).none
