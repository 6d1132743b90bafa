use Rattle.hail_syndrome.proofs.Words.{◌≡◌, ◌≤◌, ◌<◌, ℕ, get_or, nim_add, nim_mul, nim_pow}
use Rattle.hail_syndrome.proofs.syndrome.add_powers.Given as goal

abbrev pub invariant-loop-k : goal.invariant-loop-k
invariant-loop-k l = record {
  power : l.term ≡ nim_mul l.fn.c (nim_pow l.x l.k);
  done : (j : ℕ) → j < l.k →
      get_or l.out j 0 ≡ nim_add (get_or l.initial.out j 0) (nim_mul l.fn.c (nim_pow l.x j));
  left : (j : ℕ) → l.k ≤ j → get_or l.out j 0 ≡ get_or l.initial.out j 0;
}
