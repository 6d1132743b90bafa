use Rattle.hail_client.proofs.Standing.{devices-of}
use Rattle.hail_client.proofs.laws.what_a_client_stands_for.Goals as goal

pub returns-clause-devices : goal.returns-clause-devices
returns-clause-devices c = λ client. devices-of client.vault client.alone client.next_job
