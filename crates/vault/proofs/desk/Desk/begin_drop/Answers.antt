use Rattle.vault.proofs.Words.{None, ◌∷◌, ◌∙◌, DropJob, err-is}
use Rattle.vault.proofs.Begun.{causes_of_name, aims-counted, turned_down}
use Rattle.vault.proofs.Puts.{name_cause}
use Rattle.vault.proofs.desk.Desk.begin_drop.Goals as goal

pub returns-in_err-name-clause-machine : goal.returns-in_err-name-clause-machine
returns-in_err-name-clause-machine c = λ w d moment stands.
    let v = c.args.self.now in
    let kind = DropJob c.args.name.now in
    let why = c.in_err-name.field-0.0 in
    (rw (← (err-is c.from_residual.result why c.from_residual.ensures.1)) at
    (turned_down v v d w moment kind None stands why
    (aims-counted w (name_cause c.args.name.now ∷ causes_of_name w kind c.args.name.now)
    ∙ c.in_err-name.ensures.refused w (causes_of_name w kind c.args.name.now) stands.core)))
