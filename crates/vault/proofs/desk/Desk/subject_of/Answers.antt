use Rattle.std.proofs.Common.{sym, ◌∙◌}
use Rattle.vault.proofs.RunningJobs.{read_there}
use Rattle.vault.proofs.desk.Desk.subject_of.Goals as goal

pub unreachable-requires : goal.unreachable-requires
unreachable-requires c = read_there _ _ c.requires (sym c.subject.ensures ∙ c.in-None.is)
