use Rattle.vault.proofs.RunningJobs.{made_there}
use Rattle.vault.proofs.desk.Desk.sums_of.Goals as goal

pub unreachable-requires : goal.unreachable-requires
unreachable-requires c = made_there _ _ _ _ c.requires c.sums.ensures.value c.in-None.is
