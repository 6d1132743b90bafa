use Rattle.hail_client.proofs.Fresh.{is-start, are-devices, untold-start}
use Rattle.hail_client.proofs.laws.there_is_a_start.Goals as goal

pub returns-clause-start : goal.returns-clause-start
returns-clause-start c = is-start

pub returns-clause-devices : goal.returns-clause-devices
returns-clause-devices c = are-devices

pub returns-clause-untold : goal.returns-clause-untold
returns-clause-untold c = untold-start
