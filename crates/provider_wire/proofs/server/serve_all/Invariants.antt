use Rattle.provider_wire.proofs.Words.{◌≡◌, ◌≤◌, ◌<◌, ◌-◌, false, length, SpellsNoRequest, is_bad_request, provider_seen}
use Rattle.provider_wire.proofs.Progress.{Progress}
use Rattle.provider_wire.proofs.server.serve_all.Given as goal

abbrev pub invariant-loop-count : goal.invariant-loop-count
invariant-loop-count g l = record {
  so_far : Progress (g.S.Source.left l.initial.source) (g.S.Source.left l.source) l.taken l.window
      (provider_seen g.P.Provider l.initial.provider)
      (provider_seen g.P.Provider l.provider) (g.K.Sink.written l.initial.sink) (g.K.Sink.written l.sink);
  within : l.taken ≤ 16777216;
  none : SpellsNoRequest l.window;
  fine : is_bad_request l.window ≡ false;
  short : length l.window < 2062;
  source_count : g.S.Source.faults l.initial.source ≤ g.S.Source.faults l.source;
  sink_count : g.K.Sink.faults l.initial.sink ≤ g.K.Sink.faults l.sink;
}

abbrev pub decreases-loop-count : goal.decreases-loop-count
decreases-loop-count g l = 16777217 - l.taken
