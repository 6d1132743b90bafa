use Rattle.code_points.proofs.Words.{◌≡◌, ◌<◌, ℕ, length, get_or, upto, multiplier}
use Rattle.code_points.proofs.generator.kept_multipliers.Given as goal

abbrev pub invariant-loop-k : goal.invariant-loop-k
invariant-loop-k l = record {
  long : length l.out ≡ l.profile.keep;
  done : (k : ℕ) → k < l.k → get_or l.out k 0 ≡ multiplier k (upto l.profile.keep);
}
