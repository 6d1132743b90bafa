-- What an upgrade leaves whose job was the only one.
--
--   UpgradeLeaves x answer     == what it leaves where it ended with this answer
use Rattle.std.specs.Prelude.{[], ◌∷◌}
use Rattle.device_defs.specs.Faults.{Rose}
use Rattle.record_defs.specs.Records.{Version}
use Rattle.machine_defs.specs.Answers.{Answer, Upgraded, DiskFault, Memory}
use Rattle.command_defs.specs.Ran.{Ran, SameHeld, IsWhole, IsCut, IsCutInDoubt}

-- what an upgrade leaves: the journal has its second version, and providers hold what they held
abbrev pub UpgradeLeaves : Ran → Answer → Type 0
UpgradeLeaves x Upgraded = IsWhole x (Version ∷ []) × SameHeld x
UpgradeLeaves x DiskFault = Rose x.disk_before x.disk_after × IsCutInDoubt x (Version ∷ []) × SameHeld x
UpgradeLeaves x Memory = IsCut x (Version ∷ []) × SameHeld x
UpgradeLeaves x answer = ⊥
