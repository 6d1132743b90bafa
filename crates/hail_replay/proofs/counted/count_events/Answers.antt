use Rattle.hail_replay.proofs.counted.count_events.Goals as goal

pub trial_events-counted-requires-clause-fresh : goal.trial_events-counted-requires-clause-fresh
trial_events-counted-requires-clause-fresh g c = record {
  closed = c.new-client.ensures.closed;
  first = c.new-client.ensures.first;
  stands = c.new-client.ensures.continued;
}

pub trial_events-counted-requires-clause-zero : goal.trial_events-counted-requires-clause-zero
trial_events-counted-requires-clause-zero g c = c.requires.zero c.as_slice.result.now

pub trial_events-counted-requires-clause-nothing : goal.trial_events-counted-requires-clause-nothing
trial_events-counted-requires-clause-nothing g c = c.requires.nothing
