use Rattle.hail_scrub.proofs.Words.{◌≡◌, ℕ, ◌+◌, ◌≤◌, length, stores_from}
use Rattle.hail_scrub.proofs.compare.count_off.Given as goal

abbrev pub invariant-loop-j : goal.invariant-loop-j
invariant-loop-j l = record {
  count : (o t : ℕ) → l.count + length (stores_from l.providers l.j l.off o t)
      ≡ length (stores_from l.providers 0 l.off o t);
  few : l.count ≤ l.j;
}
