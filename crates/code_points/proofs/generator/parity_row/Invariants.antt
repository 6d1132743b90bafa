use Rattle.code_points.proofs.Words.{◌≡◌, ◌<◌, ℕ, get_or, coefficient}
use Rattle.code_points.proofs.generator.parity_row.Given as goal

abbrev pub invariant-loop-k : goal.invariant-loop-k
invariant-loop-k l = (k : ℕ) → k < l.k → get_or l.out k 0 ≡ coefficient l.fn.profile.keep l.place k
