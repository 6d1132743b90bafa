use Rattle.hail_syndrome.proofs.Words.{◌≡◌, ◌≤◌, ◌++◌, take, drop, nim, sound_points, sound_values}
use Rattle.hail_syndrome.proofs.gather.gather.Given as goal

abbrev pub invariant-loop-k : goal.invariant-loop-k
invariant-loop-k l = record {
  bound : l.count ≤ l.k;
  points_are : take l.count l.sound ++ sound_points nim l.work.factor (drop l.k l.points)
      ≡ sound_points nim l.work.factor l.points;
  values_are : take l.count l.seen ++ sound_values nim l.work.factor (drop l.k l.points) (drop l.k l.values)
      ≡ sound_values nim l.work.factor l.points l.values;
}
