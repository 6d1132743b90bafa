use Rattle.vault.proofs.Replaced.{vault_replaced, held_replaced}
use Rattle.vault.proofs.laws.vaults_stand_over_other_providers.Goals as goal

pub returns-clause-stands : goal.returns-clause-stands
returns-clause-stands c = λ v d w ps providers S handed. vault_replaced d w ps providers v S handed

pub returns-clause-beside : goal.returns-clause-beside
returns-clause-beside c = λ v d w ps providers number S handed.
    held_replaced d w ps providers v number S handed
