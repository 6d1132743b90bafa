use Rattle.remote_adapters.proofs.Shapes.{shape_of}
use Rattle.remote_adapters.proofs.ahead.AheadLink.send.Goals as goal

pub returns-clause-sure : goal.returns-clause-sure
returns-clause-sure g c = λ r spelled sound nothing told.
    rw c.told.ensures.same (c.try_send-sent.ensures.sure sound nothing told (shape_of _ r spelled))
