use Rattle.server_code.proofs.Words.{◌≡◌, length, coefficient_sum}
use Rattle.server_code.proofs.quarters.add_quarters.Given as goal

abbrev pub invariant-loop-q : goal.invariant-loop-q
invariant-loop-q l = record {
  room : length l.room ≡ length l.initial.room;
  long : length l.sum ≡ length l.initial.sum;
  sum : l.sum ≡ coefficient_sum l.quarters.level l.quarters.first l.q l.block;
}
