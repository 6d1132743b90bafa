use Rattle.vault_core.proofs.Words.{◌≡◌, ◌+◌, ◌≤◌, length, rewrites_from}
use Rattle.vault_core.proofs.made.count_flagged.Given as goal

abbrev pub invariant-loop-j : goal.invariant-loop-j
invariant-loop-j l = record {
  count : l.count + length (rewrites_from l.j l.providers l.flagged 0 0)
      ≡ length (rewrites_from 0 l.providers l.flagged 0 0);
  bound : l.count ≤ l.j;
}
