use Rattle.vault_core.proofs.Pins.{targets_other}
use Rattle.vault_core.proofs.made.tasks_of.Goals as goal

pub returns-in_default : goal.returns-in_default
returns-in_default c =
    λ key. (rw (targets_other c.args.wish.now c.args.profile c.args.pinned.now c.in_default.not-Put) at
    (c.tasks_for-in_default.ensures key))
