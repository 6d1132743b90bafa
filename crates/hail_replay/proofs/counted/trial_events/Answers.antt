use Rattle.hail_replay.proofs.Words.{ap, length, arith, into_iter_items, nil_from_length, event_command, commands_of, TrialCounts, entries_heard}
use Rattle.hail_replay.proofs.Course.{on-err}
use Rattle.hail_replay.proofs.Loops.{begin-count, count-course, count-on, count-wrong, count-short, count-home}
use Rattle.hail_replay.proofs.counted.trial_events.Goals as goal

pub loop-event-init : goal.loop-event-init
loop-event-init g c = (let P = begin-count c.args.expected.now _ _ _ _ _ _
    (ap commands_of c.into_iter-left.ensures.rest) c.requires.nothing c.requires.fresh c.requires.zero in (
      P.0,
      P.1,
      (let n = ap (λ (t : TrialCounts). t.events) c.requires.zero in
          let m = ap length c.into_iter-left.ensures.rest in omega (arith, n, m)),
    ))

pub returns-in_err-reserve-clause-err : goal.returns-in_err-reserve-clause-err
returns-in_err-reserve-clause-err g c = (on-err c.from_residual.result
    (count-short c.args.expected.now _ _ _ _ _ _ _ _ c.reserve.ensures.same c.loop-event.invariant.1))

pub loop-event-preserved : goal.loop-event-preserved
loop-event-preserved g c = (let W = c.loop-event.invariant in
    let is = ap commands_of c.in-Some.ensures.items in (
      count-course c.args.expected.now _ _ _ (event_command c.in-Some.event) _ _ _ _ _ _ _ _
          (entries_heard c.trial_event.new.heard) is c.reserve.ensures.same W.0 W.1
          c.trial_event.ensures.kept,
      count-on c.args.expected.now _ _ _ (event_command c.in-Some.event) _ _ _ _ _ _ _ _ _ is
          c.reserve.ensures.same W.0 W.1 _ c.in_ok-trial_event.ensures.ok,
      (let w = W.2 in let n = c.trial_event.ensures.counted in let m = ap length c.in-Some.ensures.items in
          omega (arith, w, n, m)),
    ))

pub returns-in_err-trial_event-clause-err : goal.returns-in_err-trial_event-clause-err
returns-in_err-trial_event-clause-err g c = (on-err c.from_residual-in_err-trial_event.result
    (count-wrong c.args.expected.now _ _ _ (event_command c.in-Some.event) _ _ _ _ _ _ _ _ _
    (ap commands_of c.in-Some.ensures.items) c.reserve.ensures.same c.loop-event.invariant.0
    c.loop-event.invariant.1 c.in_err-trial_event.ensures.err))

pub returns-clause-ok : goal.returns-clause-ok
returns-clause-ok g c = (count-home c.args.expected.now _ _ _ _ _ _ _
    (ap commands_of (nil_from_length (into_iter_items c.loop-event.left)
    (let n = c.in_default.ensures.cases.0 in let m = c.loop-event.left.rest.ok.0 in
    omega (arith, n, m))))
    c.loop-event.invariant.1)
