use Rattle.provider_wire.proofs.Words.{arith, drop, length-drop, request_of}
use Rattle.provider_wire.proofs.Looped.{sent_busy, sent_whole}
use Rattle.provider_wire.proofs.loop_link.LoopLinkLink.send.Goals as goal

pub returns-then-self-len-clause-sent : goal.returns-then-self-len-clause-sent
returns-then-self-len-clause-sent g c =
    let link = c.args.self.now in
    sent_busy (g.P.Provider.held link.provider) _ _ _ (drop link.given link.due) c.args.bytes.now
    (omega (arith, length-drop link.given link.due, c.len.ensures, c.if-self-len.true))

pub returns-in-Some-clause-sent : goal.returns-in-Some-clause-sent
returns-in-Some-clause-sent g c = sent_whole (g.P.Provider.held c.args.self.now.provider)
    (g.P.Provider.held c.answer-self.new.provider) _ _ _ _ _ _ _ c.args.bytes.now c.answer-self.result
    (request_of c.in-Some.request) c.in-Some.ensures.found c.answer-self.ensures
