use Rattle.vault.proofs.Words.{Err, None, sym, subst, refl, RepairJob, BeginFault, err-is, DeskMakesBegin}
use Rattle.vault.proofs.Begun.{memory-alone, found_none}
use Rattle.vault.proofs.RepairBegins.{repair-task}
use Rattle.vault.proofs.desk.Desk.begin_repair.Goals as goal

pub returns-in_err-task-clause-machine : goal.returns-in_err-task-clause-machine
returns-in_err-task-clause-machine c = λ w d moment stands.
    let v = c.args.self.now in
    let why = c.in_err-task.field-0.0 in
    (rw (← (err-is c.from_residual.result why c.from_residual.ensures.1)) at
    (subst (λ (f : BeginFault). DeskMakesBegin w moment RepairJob None (Err f) v d)
    (sym (memory-alone c.repair_task.result why c.repair_task.ensures.err c.in_err-task.was))
    (found_none v v d w moment RepairJob None stands)))

pub returns-clause-machine : goal.returns-clause-machine
returns-clause-machine c = λ w d moment stands. c.admit.ensures.machine w d moment RepairJob stands refl tt
    (λ accepted. repair-task c.args.self.now d w moment _ stands c.in_ok-task.ensures.ok)
