use Rattle.std.proofs.Common.{rules}
use Rattle.hail_client.proofs.Beside.{same-client}
use Rattle.hail_client.proofs.client.Client.give_up.Goals as goal

pub returns-in-Some : goal.returns-in-Some
returns-in-Some c = record { closed = same-client _ _ (search rules) (search rules) c.next_job-self.ensures }

pub returns-in_default : goal.returns-in_default
returns-in_default c = record { closed = same-client _ _ (search rules) (search rules) c.next_job-self.ensures }
