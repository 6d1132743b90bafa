use Rattle.command_jobs.proofs.Words.{◌≡◌, ◌-◌, ◌≤◌, length, min, take, then_told}
use Rattle.command_jobs.proofs.piece.read_piece.Given as goal

abbrev pub invariant-loop-count : goal.invariant-loop-count
invariant-loop-count g l = record {
  front : g.S.Source.left l.initial.source ≡ then_told (take l.count l.stripe) (g.S.Source.left l.source);
  few : l.count ≤ l.most;
  most : l.most ≡ min (length l.stripe) (4194305 - l.before);
  room : length l.stripe ≡ length l.initial.stripe;
  faults : g.S.Source.faults l.initial.source ≤ g.S.Source.faults l.source;
}

abbrev pub decreases-loop-count : goal.decreases-loop-count
decreases-loop-count g l = l.most - l.count
