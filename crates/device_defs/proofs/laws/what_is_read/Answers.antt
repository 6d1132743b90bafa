use Rattle.device_defs.proofs.PickLaws.{IsImage-reads}
use Rattle.device_defs.proofs.laws.what_is_read.Goals as goal

pub returns : goal.returns
returns c = IsImage-reads
