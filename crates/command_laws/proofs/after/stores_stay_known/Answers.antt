use Rattle.command_laws.proofs.Afterwards.{known-refused, sure-refused, refusal-told, sure-next, sure-same, sure-init}
use Rattle.command_laws.proofs.DoneStores.{known-always}
use Rattle.command_laws.proofs.after.stores_stay_known.Goals as goal

pub returns-clause-always : goal.returns-clause-always
returns-clause-always c = known-always

pub returns-clause-refusal : goal.returns-clause-refusal
returns-clause-refusal c = refusal-told

pub returns-clause-refused : goal.returns-clause-refused
returns-clause-refused c = known-refused

pub returns-clause-refused_sure : goal.returns-clause-refused_sure
returns-clause-refused_sure c = sure-refused

pub returns-clause-next : goal.returns-clause-next
returns-clause-next c = sure-next

pub returns-clause-init : goal.returns-clause-init
returns-clause-init c = sure-init

pub returns-clause-row : goal.returns-clause-row
returns-clause-row c n l b seen records old new end A S = sure-same records old new A.1.disk A.1.providers S

pub returns-clause-usage : goal.returns-clause-usage
returns-clause-usage c records old new end U S =
    sure-same records old new U.touches.disk U.touches.providers S
