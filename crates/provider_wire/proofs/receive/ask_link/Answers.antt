use Rattle.std.proofs.Common.{length}
use Rattle.provider_wire.proofs.Asked.{asked_for}
use Rattle.provider_wire.proofs.receive.ask_link.Goals as goal

pub returns-in-Ok-clause-told : goal.returns-in-Ok-clause-told
returns-in-Ok-clause-told g c = asked_for c.args.request.now c.receive_answer.new.symbols _
    (g.L.Link.behind c.send.new.self) _ _ (length c.args.symbols.now) c.in-Ok.ensures.sent
    c.receive_answer.ensures.told
