use Rattle.command_jobs.proofs.Words.{◌+◌, length, refl, ap, ◌∙◌, arith, length-map, now, provider_seen}
use Rattle.vault.specs.declared.turn.Turn.TheVariants as turn
use Rattle.command_jobs.proofs.Fronts.{step-front}
use Rattle.command_jobs.proofs.Fresh.{stands-enough}
use Rattle.command_jobs.proofs.Goings.{no-steps, steps-turn, one-more, at-end, never-stops}
use Rattle.command_jobs.proofs.run.finish.Goals as goal

pub loop-ended-init : goal.loop-ended-init
loop-ended-init g c = (
  λ start w kind own moment only stands. no-steps start kind own w moment c.args.vault.now _ only stands,
  c.requires.streams,
  refl,
)

pub step-requires-clause-handed : goal.step-requires-clause-handed
step-requires-clause-handed g c =
    let u = c.requires.under_way in
    let few = stands-enough c.loop-ended.vault _ _ (c.loop-ended.invariant.0 u.start u.state u.kind u.own 0
    u.only u.stands).stands in
    omega (arith, few, length-map c.loop-ended.providers (provider_seen g.P.Provider))

pub step-requires-clause-given : goal.step-requires-clause-given
step-requires-clause-given g c =
    c.only_streams_wait.ensures c.loop-ended.vault c.args.number c.loop-ended.invariant.1

pub loop-ended-preserved : goal.loop-ended-preserved
loop-ended-preserved g c = (
  λ start w kind own moment only stands.
      let way = c.loop-ended.invariant.0 start w kind own moment only stands in
      one-more start kind own w moment c.args.number c.requires.first c.loop-ended.vault c.step.new.self _ _ _ way
      (step-front c.loop-ended.vault _ _ (now w way.steps) c.args.number turn.More way.stands
      (c.only_streams_wait.ensures c.loop-ended.vault c.args.number c.loop-ended.invariant.1)
      (λ none. ap g.D.Disk.holds (c.in-More.ensures.calls.still none))
      (λ entry. c.in-More.ensures.moves (now w way.steps) entry way.stands))
      (c.in-More.ensures.machine (now w way.steps) (moment + length way.steps) way.stands),
  c.step.ensures.leaves.streams c.loop-ended.invariant.1,
  c.step.ensures.calls.tells ∙ c.loop-ended.invariant.2,
)

pub returns-in-Done-clause-ended : goal.returns-in-Done-clause-ended
returns-in-Done-clause-ended g c = λ start w kind own moment only stands.
    let way = c.loop-ended.invariant.0 start w kind own moment only stands in
    at-end start kind own w moment c.args.number c.requires.first c.loop-ended.vault c.step.new.self _ _ _ way
    c.in-Done.ended
    (step-front c.loop-ended.vault _ _ (now w way.steps) c.args.number (turn.Done c.in-Done.ended) way.stands
    (c.only_streams_wait.ensures c.loop-ended.vault c.args.number c.loop-ended.invariant.1)
    (λ none. ap g.D.Disk.holds (c.in-Done.ensures.calls.still none))
    (λ entry. c.in-Done.ensures.moves (now w way.steps) entry way.stands))
    (c.in-Done.ensures.machine (now w way.steps) (moment + length way.steps) way.stands)

pub returns-in-Done-clause-tells : goal.returns-in-Done-clause-tells
returns-in-Done-clause-tells g c = c.step.ensures.calls.tells ∙ c.loop-ended.invariant.2

pub returns-in-Done-clause-padded : goal.returns-in-Done-clause-padded
returns-in-Done-clause-padded g c = c.in-Done.ensures.leaves.padded

pub unreachable-requires : goal.unreachable-requires
unreachable-requires g c =
    let u = c.requires.under_way in
    let way = c.loop-ended.invariant.0 u.start u.state u.kind u.own 0 u.only u.stands in
    never-stops c.step.result c.in-Waiting.is
    (steps-turn u.start u.kind u.own (now u.state way.steps) 0 c.args.number c.step.result c.step.new.self _ _
    way.only c.requires.first (c.step.ensures.machine (now u.state way.steps) 0 way.stands))
