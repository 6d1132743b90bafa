use Rattle.run_laws.proofs.ByEvents.{stored_is_kept}
use Rattle.run_laws.proofs.laws.stored_files_are_kept.Goals as goal

pub returns : goal.returns
returns c = stored_is_kept
