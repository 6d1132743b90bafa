use Rattle.hail_replay.proofs.Words.{inl, refl, trial_lines}
use Rattle.hail_replay.proofs.Loops.{trial-told}
use Rattle.hail_replay.proofs.Wrote.{ends-of}
use Rattle.hail_replay.proofs.counted.tell_trial.Goals as goal

pub returns-in-Ok-clause-runs : goal.returns-in-Ok-clause-runs
returns-in-Ok-clause-runs g c = λ start before told L. inl (trial-told c.args.number start before _ _
    (trial_lines c.args.number c.count_events.new.tally) c.count_events.new.tally _ _ _ _ c.requires.events
    c.requires.expected (c.in-Ok.ensures.ok start before told L) refl
    (c.tell.ensures.writes _ c.lines.ensures))

pub returns-in-Ok-clause-ends : goal.returns-in-Ok-clause-ends
returns-in-Ok-clause-ends g c = ends-of _ _ _ (c.tell.ensures.writes _ c.lines.ensures)
