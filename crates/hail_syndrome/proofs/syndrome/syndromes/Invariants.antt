use Rattle.hail_syndrome.proofs.Words.{◌≡◌, ◌<◌, ℕ, get_or, drop, map, length, nim_mul, nim_pow, multiplier, dot}
use Rattle.hail_syndrome.proofs.syndrome.syndromes.Given as goal

abbrev pub invariant-loop-place : goal.invariant-loop-place
invariant-loop-place l = (k : ℕ) → k < length l.out →
    get_or l.out k 0 ≡ dot (map (λ x. nim_mul (multiplier x l.points) (nim_pow x k)) (drop l.place l.points))
    (drop l.place l.values)
