use Rattle.record_defs.proofs.FilesLaws.{find-files_of}
use Rattle.record_defs.proofs.laws.files_are_in_effect.Goals as goal

pub returns : goal.returns
returns c = find-files_of
