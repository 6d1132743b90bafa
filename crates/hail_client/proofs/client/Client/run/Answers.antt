use Rattle.hail_client.proofs.Words.{◌++◌, sym, ◌∙◌, now, devices_seen}
use Rattle.std.proofs.Common.{length}
use Rattle.hail_client.proofs.Runs.{one-more, at-end}
use Rattle.hail_client.proofs.client.Client.run.Goals as goal

pub loop-turn-preserved-else-not-goes_on-4 : goal.loop-turn-preserved-else-not-goes_on-4
loop-turn-preserved-else-not-goes_on-4 g c = (
  λ start ms reached. (let way = c.loop-turn.invariant.0 start ms reached in
      one-more start ms c.args.job c.loop-turn.self c.step-turn.new.self
      (devices_seen g.D.Disk g.P.Provider c.loop-turn.disk c.loop-turn.providers)
      (devices_seen g.D.Disk g.P.Provider c.step-turn.new.disk c.step-turn.new.providers)
      way c.step-turn.result
      (sym c.goes_on.ensures ∙ c.if-not-goes_on.false)
      (c.step-turn.ensures.machine (now start (way.steps ++ ms))
      (length (way.steps ++ ms)) way.reached.stands).makes),
  λ opened. (let S = c.loop-turn.invariant.1 (sym c.step-turn.ensures.stays_open ∙ opened) in
      let M = (c.step-turn.ensures.machine S.state 0 S.stands).makes in
      record { state = M.state; stands = M.stands }),
  c.step-turn.ensures.calls.called.count ∙ c.loop-turn.invariant.2,
  c.step-turn.ensures.calls.tells ∙ c.loop-turn.invariant.3,
)

pub loop-turn-preserved-else-not-goes_on-5 : goal.loop-turn-preserved-else-not-goes_on-5
loop-turn-preserved-else-not-goes_on-5 g c = (
  λ start ms reached. (let way = c.loop-turn.invariant.0 start ms reached in
      one-more start ms c.args.job c.loop-turn.self c.step-turn.new.self
      (devices_seen g.D.Disk g.P.Provider c.loop-turn.disk c.loop-turn.providers)
      (devices_seen g.D.Disk g.P.Provider c.step-turn.new.disk c.step-turn.new.providers)
      way c.step-turn.result
      (sym c.goes_on.ensures ∙ c.if-not-goes_on.false)
      (c.step-turn.ensures.machine (now start (way.steps ++ ms))
      (length (way.steps ++ ms)) way.reached.stands).makes),
  λ opened. (let S = c.loop-turn.invariant.1 (sym c.step-turn.ensures.stays_open ∙ opened) in
      let M = (c.step-turn.ensures.machine S.state 0 S.stands).makes in
      record { state = M.state; stands = M.stands }),
  c.step-turn.ensures.calls.called.count ∙ c.loop-turn.invariant.2,
  c.step-turn.ensures.calls.tells ∙ c.loop-turn.invariant.3,
)

pub returns-then-not-goes_on-clause-machine : goal.returns-then-not-goes_on-clause-machine
returns-then-not-goes_on-clause-machine g c = λ start ms reached.
    (let way = c.loop-turn.invariant.0 start ms reached in
    at-end start ms c.args.job c.loop-turn.self c.step-turn.new.self
    (devices_seen g.D.Disk g.P.Provider c.loop-turn.disk c.loop-turn.providers)
    (devices_seen g.D.Disk g.P.Provider c.step-turn.new.disk c.step-turn.new.providers) way c.step-turn.result
    (sym c.goes_on.ensures ∙ c.if-not-goes_on.true)
    (c.step-turn.ensures.machine (now start (way.steps ++ ms))
    (length (way.steps ++ ms)) way.reached.stands).makes
    (c.step-turn.ensures.heard (now start (way.steps ++ ms)) way.reached.stands))
