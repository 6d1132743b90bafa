use Rattle.hail_scrub.proofs.Words.{◌≡◌, ℕ, stores_from}
use Rattle.hail_scrub.proofs.moves.off_from.Given as goal

abbrev pub invariant-loop-j : goal.invariant-loop-j
invariant-loop-j l = (o t : ℕ) →
    stores_from l.providers l.from l.off o t ≡ stores_from l.providers l.j l.off o t
