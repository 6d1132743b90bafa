use Rattle.hail_replay.proofs.Words.{inl, inr, refl, ap, ◌∙◌, arith, into_iter_items, nil_from_length, event_command, commands_of}
use Rattle.hail_replay.proofs.Counts.{then-fell}
use Rattle.hail_replay.proofs.Loops.{begin-course, go-on, go-wrong, go-short, go-home}
use Rattle.hail_replay.proofs.schedule.replay_events.Goals as goal

pub loop-event-init : goal.loop-event-init
loop-event-init g c = (begin-course _ _ _ _ _ _ _ (ap commands_of c.into_iter-left.ensures.rest)
    c.requires.nothing c.requires.fresh)

pub returns-then-is_err-clause-runs : goal.returns-then-is_err-clause-runs
returns-then-is_err-clause-runs g c =
    (go-short _ _ _ _ _ _ _ _ _ _ _ c.reserve.ensures.same c.loop-event.invariant.1)

pub returns-then-status-ne-WRITTEN-clause-runs : goal.returns-then-status-ne-WRITTEN-clause-runs
returns-then-status-ne-WRITTEN-clause-runs g c = (go-wrong _ _ _ (event_command c.in-Some.event) _ _ _ _ _ _ _
    _ _ _ _ _ _ _ _ (ap commands_of c.in-Some.ensures.items) c.reserve.ensures.same c.loop-event.invariant
    c.replay_event-status.ensures.kept c.replay_event-status.ensures.goes_on
    c.replay_event-status.ensures.count (λ e. (let n = c.if-status-ne-WRITTEN.true in omega (arith, n, e))))

pub loop-event-preserved : goal.loop-event-preserved
loop-event-preserved g c = go-on _ _ _ (event_command c.in-Some.event) _ _ _ _ _ _ _ _ _ _ _ _ _ _ _
    (ap commands_of c.in-Some.ensures.items) c.reserve.ensures.same c.loop-event.invariant
    c.replay_event-status.ensures.kept c.replay_event-status.ensures.goes_on
    c.replay_event-status.ensures.count (let n = c.if-status-ne-WRITTEN.false in omega (arith, n))

pub returns-clause-runs : goal.returns-clause-runs
returns-clause-runs g c =
    (go-home _ _ _ _ _ _ _ _ _ _ (ap commands_of (nil_from_length (into_iter_items c.loop-event.left)
    (let n = c.in_default.ensures.cases.0 in let m = c.loop-event.left.rest.ok.0 in
    omega (arith, n, m)))) c.loop-event.invariant.1)

pub returns-then-is_err-clause-ends : goal.returns-then-is_err-clause-ends
returns-then-is_err-clause-ends g c = inr (inr refl)

pub returns-then-is_err-clause-tells : goal.returns-then-is_err-clause-tells
returns-then-is_err-clause-tells g c = c.loop-event.invariant.0.tells

pub returns-then-is_err-clause-counts : goal.returns-then-is_err-clause-counts
returns-then-is_err-clause-counts g c = c.loop-event.invariant.0.counts

pub returns-then-is_err-clause-sink_count : goal.returns-then-is_err-clause-sink_count
returns-then-is_err-clause-sink_count g c = c.loop-event.invariant.2

pub returns-clause-ends : goal.returns-clause-ends
returns-clause-ends g c = inl refl

pub returns-clause-tells : goal.returns-clause-tells
returns-clause-tells g c = c.loop-event.invariant.0.tells

pub returns-clause-counts : goal.returns-clause-counts
returns-clause-counts g c = c.loop-event.invariant.0.counts

pub returns-clause-sink_count : goal.returns-clause-sink_count
returns-clause-sink_count g c = c.loop-event.invariant.2

pub returns-then-status-ne-WRITTEN-clause-tells : goal.returns-then-status-ne-WRITTEN-clause-tells
returns-then-status-ne-WRITTEN-clause-tells g c =
    c.replay_event-status.ensures.kept.tells ∙ c.loop-event.invariant.0.tells

pub returns-then-status-ne-WRITTEN-clause-counts : goal.returns-then-status-ne-WRITTEN-clause-counts
returns-then-status-ne-WRITTEN-clause-counts g c =
    then-fell _ _ _ c.loop-event.invariant.0.counts c.replay_event-status.ensures.kept.counts
