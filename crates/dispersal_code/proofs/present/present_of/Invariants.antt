use Rattle.dispersal_code.proofs.Words.{◌≡◌, ◌≤◌, ◌++◌, length, drop, present_points, present_symbols}
use Rattle.dispersal_code.proofs.present.present_of.Given as goal

abbrev pub invariant-loop-k : goal.invariant-loop-k
invariant-loop-k l = record {
  few : length l.present.points ≤ l.k;
  points_are : l.present.points ++ present_points (drop l.k l.points) (drop l.k l.seen)
      ≡ present_points l.points l.seen;
  symbols_are : l.present.symbols ++ present_symbols (drop l.k l.seen) ≡ present_symbols l.seen;
}
