use Rattle.epoch_laws.proofs.Stories.{kept}
use Rattle.epoch_laws.proofs.transcripts.kept_files_are_got.Goals as goal

pub returns : goal.returns
returns c = kept
