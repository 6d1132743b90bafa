use Rattle.std.proofs.Common.{refl}
use Rattle.second_half_laws.proofs.ByteRun.{moments, is_run, transcript, fetched}
use Rattle.second_half_laws.proofs.runs.stored_byte_is_got.Goals as goal

pub returns : goal.returns
returns c = (moments, is_run, transcript, refl, fetched)
