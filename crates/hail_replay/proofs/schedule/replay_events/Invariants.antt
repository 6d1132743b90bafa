use Rattle.hail_replay.proofs.Words.{◌≤◌, length, into_iter_items, commands_of, entries_heard, devices_of}
use Rattle.hail_replay.proofs.Loops.{IsOnCourse, AreDone}
use Rattle.hail_replay.proofs.schedule.replay_events.Given as goal

abbrev pub invariant-loop-event : goal.invariant-loop-event
invariant-loop-event g l = IsOnCourse (commands_of l.fn.events.items) (commands_of (into_iter_items l.left))
    l.client (devices_of g.D.Disk g.P.Provider l.initial.disk l.initial.providers)
    (devices_of g.D.Disk g.P.Provider l.disk l.providers) × AreDone (commands_of l.fn.events.items)
    (commands_of (into_iter_items l.left)) l.client
    (devices_of g.D.Disk g.P.Provider l.initial.disk l.initial.providers)
    (devices_of g.D.Disk g.P.Provider l.disk l.providers) (g.K.Sink.written l.initial.sink)
    (g.K.Sink.written l.sink) (g.K.Sink.faults l.initial.sink) (g.K.Sink.faults l.sink)
    (entries_heard l.heard) × (g.K.Sink.faults l.initial.sink ≤ g.K.Sink.faults l.sink)

abbrev pub decreases-loop-event : goal.decreases-loop-event
decreases-loop-event g l = length (into_iter_items l.left)
