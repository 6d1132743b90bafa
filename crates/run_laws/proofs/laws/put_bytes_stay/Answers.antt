use Rattle.run_laws.proofs.PutBytes.{put_bytes_stay}
use Rattle.run_laws.proofs.laws.put_bytes_stay.Goals as goal

pub returns : goal.returns
returns c = put_bytes_stay
