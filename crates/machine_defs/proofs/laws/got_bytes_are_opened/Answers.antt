use Rattle.machine_defs.proofs.Gets.{got_is_opened}
use Rattle.machine_defs.proofs.laws.got_bytes_are_opened.Goals as goal

pub returns : goal.returns
returns c = got_is_opened
