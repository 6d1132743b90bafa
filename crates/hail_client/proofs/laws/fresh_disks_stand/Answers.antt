use Rattle.hail_client.proofs.Fresh.{fresh-stands}
use Rattle.hail_client.proofs.laws.fresh_disks_stand.Goals as goal

pub returns : goal.returns
returns c = fresh-stands
