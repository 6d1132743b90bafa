use Rattle.vault_core.proofs.Words.{◌≡◌, ◌<◌, ℕ, length, get_or, nat_lt, flag_at}
use Rattle.vault_core.proofs.made.flags_of.Given as goal

abbrev pub invariant-loop-j : goal.invariant-loop-j
invariant-loop-j l = record {
  long : length l.flagged ≡ 16;
  flags : (k : ℕ) → k < l.j → flag_at l.flagged k ≡ nat_lt l.tolerance (get_or l.counts.by k 0);
}
