use Rattle.vault.proofs.Words.{refl, UpgradeJob}
use Rattle.vault.proofs.desk.Desk.begin_upgrade.Goals as goal

pub returns-clause-machine : goal.returns-clause-machine
returns-clause-machine c = λ w d moment stands.
    c.admit.ensures.machine w d moment UpgradeJob stands refl tt (λ accepted. refl)
