use Rattle.std.proofs.Common.{◌≡◌, ◌≤◌, ◌-◌, length, None}
use Rattle.provider_wire.proofs.Received.{SoFar}
use Rattle.provider_wire.proofs.receive.receive_all.Given as goal

abbrev pub invariant-loop-at : goal.invariant-loop-at
invariant-loop-at g l = record {
  within : l.at ≤ length l.out;
  so_far : SoFar (g.L.Link.behind l.initial.link) (g.L.Link.behind l.link) l.out l.at;
  untold : g.L.Link.behind l.initial.link ≡ None → g.L.Link.behind l.link ≡ None;
  no_fault : g.L.Link.faults l.link ≡ g.L.Link.faults l.initial.link;
}

abbrev pub decreases-loop-at : goal.decreases-loop-at
decreases-loop-at g l = length l.out - l.at
