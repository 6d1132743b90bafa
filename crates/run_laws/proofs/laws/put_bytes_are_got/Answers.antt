use Rattle.run_laws.proofs.PutBytes.{put_is_got}
use Rattle.run_laws.proofs.laws.put_bytes_are_got.Goals as goal

pub returns : goal.returns
returns c = put_is_got
