use Rattle.provider_wire.proofs.Words.{◌≤◌, ◌-◌, length, take, ServesAll, provider_seen}
use Rattle.provider_wire.proofs.server.serve_front.Given as goal

abbrev pub invariant-loop-request : goal.invariant-loop-request
invariant-loop-request g l = record {
  within : l.at ≤ length l.bytes;
  so_far : ServesAll (take l.at l.bytes) (provider_seen g.P.Provider l.initial.provider)
      (provider_seen g.P.Provider l.provider) (g.K.Sink.written l.initial.sink) (g.K.Sink.written l.sink);
  count : g.K.Sink.faults l.initial.sink ≤ g.K.Sink.faults l.sink;
}

abbrev pub decreases-loop-request : goal.decreases-loop-request
decreases-loop-request g l = length l.bytes - l.at
