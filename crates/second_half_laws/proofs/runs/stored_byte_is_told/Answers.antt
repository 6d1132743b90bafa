use Rattle.machine_defs.proofs.PutRun.{moments as stored}
use Rattle.second_half_laws.proofs.ByteRun.{get_begin, get_end, steps}
use Rattle.second_half_laws.proofs.ByteTold.{all_told, none_asks}
use Rattle.second_half_laws.proofs.runs.stored_byte_is_told.Goals as goal

pub returns-clause-told : goal.returns-clause-told
returns-clause-told c = (stored, steps, get_begin, get_end, all_told)

pub returns-clause-others : goal.returns-clause-others
returns-clause-others c = none_asks
