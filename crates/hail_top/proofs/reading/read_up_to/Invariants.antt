use Rattle.hail_top.proofs.Words.{◌≡◌, ◌-◌, ◌≤◌, min, vec_len, then_told}
use Rattle.hail_top.proofs.reading.read_up_to.Given as goal

abbrev pub invariant-loop-piece : goal.invariant-loop-piece
invariant-loop-piece g l = record {
  front : g.S.Source.left l.initial.source ≡ then_told l.bytes.items (g.S.Source.left l.source);
  few : vec_len l.bytes ≤ l.most;
  room : vec_len l.piece ≡ min l.most 65536;
  faults : g.S.Source.faults l.initial.source ≤ g.S.Source.faults l.source;
}

abbrev pub decreases-loop-piece : goal.decreases-loop-piece
decreases-loop-piece g l = l.most - vec_len l.bytes
