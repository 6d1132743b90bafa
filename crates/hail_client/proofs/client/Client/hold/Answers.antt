use Rattle.std.proofs.Common.{refl, rules}
use Rattle.hail_client.proofs.Beside.{same-client}
use Rattle.hail_client.proofs.client.Client.hold.Goals as goal

pub returns-in-Some : goal.returns-in-Some
returns-in-Some c = record { held = λ streamless. same-client _ _ (search rules) refl refl }

pub returns-in_default : goal.returns-in_default
returns-in_default c = record { held = λ streamless. same-client _ _ (search rules) refl refl }
