use Rattle.std.proofs.Common.{refl}
use Rattle.file_parts.proofs.kept_file.KeptFile.give_up.Goals as goal

pub returns : goal.returns
returns g c = refl
