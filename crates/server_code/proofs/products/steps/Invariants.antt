use Rattle.server_code.proofs.Words.{◌≡◌, ◌<◌, ◌*◌, ℕ, get_or, length, nim_mul}
use Rattle.server_code.proofs.products.steps.Given as goal

abbrev pub invariant-loop-b : goal.invariant-loop-b
invariant-loop-b l = record {
  long : length l.out ≡ 16;
  done : (j : ℕ) → j < l.b → get_or l.out j 0 ≡ nim_mul (l.step * j) l.c;
}
