use Rattle.hail_poly.proofs.Words.{◌≡◌, ◌+◌, ◌-◌, drop, take, vanish, interpolate}
use Rattle.hail_poly.proofs.load.interpolate_into.Given as goal

abbrev pub invariant-loop-done : goal.invariant-loop-done
invariant-loop-done l = record {
  whole_is : take (l.done + 1) l.whole ≡ vanish (drop (l.count - l.done) l.points);
  rest_is : take l.done l.rest ≡ interpolate (drop (l.count - l.done) l.points)
      (drop (l.count - l.done) l.values);
}
