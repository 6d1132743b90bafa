use Rattle.hail_top.proofs.Words.{Err, refl, ap, with_master, InitFault}
use Rattle.hail_top.proofs.InitRuns.{init-on, ready-tells, refused-tells}
use Rattle.hail_top.proofs.SetUpEnds.{ready-told, not_set_up-told}
use Rattle.hail_top.proofs.set_up.set_up_disk.Goals as goal

pub returns-in-Ok-clause-answers : goal.returns-in-Ok-clause-answers
returns-in-Ok-clause-answers g c providers left left' count count' =
    ready-told (with_master c.args.setup.now c.args.master.now.0) _ _ _ _ _ c.of.ensures c.ready_line.ensures
    c.write_text.ensures.writes c.in-Ok.ensures.set_up.ok refl

pub returns-in-Err-clause-answers : goal.returns-in-Err-clause-answers
returns-in-Err-clause-answers g c providers left left' count count' = not_set_up-told
    (with_master c.args.setup.now c.args.master.now.0) _ _ _ c.in-Err.fault c.not_set_up.ensures
    c.in-Err.ensures.set_up.refused c.in-Err.ensures.set_up.looked c.in-Err.ensures.set_up.left
    (λ same. c.in-Err.ensures.called.cause.rose (ap (λ (f : InitFault). Err f) same)) refl refl

pub returns-in-Ok-clause-goes_on : goal.returns-in-Ok-clause-goes_on
returns-in-Ok-clause-goes_on g c providers =
    init-on (with_master c.args.setup.now c.args.master.now.0) _ _ _ c.init.result
    c.setups_are_spelled.ensures (λ w moment may there. c.init.ensures.machine w providers moment may there)
    (ready-tells c.init.result _ _ _ _ _ c.in-Ok.is c.of.ensures c.write_text.ensures.writes)

pub returns-in-Err-clause-goes_on : goal.returns-in-Err-clause-goes_on
returns-in-Err-clause-goes_on g c providers =
    init-on (with_master c.args.setup.now c.args.master.now.0) _ _ _ c.init.result
    c.setups_are_spelled.ensures (λ w moment may there. c.init.ensures.machine w providers moment may there)
    (refused-tells c.init.result c.in-Err.fault _ c.in-Err.is c.not_set_up.ensures)
