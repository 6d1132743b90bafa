use Rattle.hail_replay.proofs.Words.{◌+◌, ◌≤◌, length, into_iter_items, commands_of, entries_heard, devices_of}
use Rattle.hail_replay.proofs.Loops.{IsOnCourse, AreCounted}
use Rattle.hail_replay.proofs.counted.trial_events.Given as goal

abbrev pub invariant-loop-event : goal.invariant-loop-event
invariant-loop-event g l = IsOnCourse (commands_of l.fn.events.items) (commands_of (into_iter_items l.left))
    l.client (devices_of g.D.Disk g.P.Provider l.initial.disk l.initial.providers)
    (devices_of g.D.Disk g.P.Provider l.disk l.providers) × AreCounted l.expected
    (commands_of l.fn.events.items) (commands_of (into_iter_items l.left)) l.client
    (devices_of g.D.Disk g.P.Provider l.initial.disk l.initial.providers)
    (devices_of g.D.Disk g.P.Provider l.disk l.providers) l.tally (entries_heard l.heard) ×
    (l.tally.events + length (into_iter_items l.left) ≤ length l.fn.events.items)

abbrev pub decreases-loop-event : goal.decreases-loop-event
decreases-loop-event g l = length (into_iter_items l.left)
