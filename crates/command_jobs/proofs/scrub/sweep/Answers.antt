use Rattle.command_jobs.proofs.Words.{true, map, arith, now, provider_seen}
use Rattle.command_jobs.proofs.Sweeps.{no-sweep, sweep-more, sweep-end}
use Rattle.command_jobs.proofs.scrub.sweep.Goals as goal

pub loop-answer-init : goal.loop-answer-init
loop-answer-init g c = (
  c.requires.going,
  c.requires.there,
  λ w m moment opened unbarred idle stands. no-sweep w m moment c.args.scrub
      (map (provider_seen g.P.Provider) c.args.providers.now) stands,
)

pub loop-answer-preserved : goal.loop-answer-preserved
loop-answer-preserved g c = (
  c.in-More.ensures.over,
  omega (arith, c.loop-answer.invariant.1, c.step.ensures.providers, c.step.ensures.calls.count),
  λ w m moment opened unbarred idle stands.
      let way = c.loop-answer.invariant.2 w m moment opened unbarred idle stands in
      sweep-more w m moment c.loop-answer.scrub c.step.new.self _ _ opened unbarred way
      (c.in-More.ensures.machine (now w way.steps) way.next true way.stands),
)

pub returns-in-Done : goal.returns-in-Done
returns-in-Done g c = λ w m moment opened unbarred idle stands.
    let way = c.loop-answer.invariant.2 w m moment opened unbarred idle stands in
    sweep-end w m moment c.loop-answer.scrub c.step.new.self _ _ opened unbarred way c.in-Done.answer idle
    (c.in-Done.ensures.machine (now w way.steps) way.next true way.stands)
