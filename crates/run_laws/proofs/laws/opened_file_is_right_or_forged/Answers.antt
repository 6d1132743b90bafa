use Rattle.run_laws.proofs.Files.{file_or_forged}
use Rattle.run_laws.proofs.laws.opened_file_is_right_or_forged.Goals as goal

pub returns : goal.returns
returns c = file_or_forged
