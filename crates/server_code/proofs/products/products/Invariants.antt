use Rattle.server_code.proofs.Words.{◌≡◌, ◌<◌, ℕ, length, get_or, AreMultiples, Multiples}
use Rattle.server_code.proofs.products.products.Given as goal

abbrev pub invariant-loop-c : goal.invariant-loop-c
invariant-loop-c l = record {
  count : length l.table.items ≡ l.c;
  each : (c : ℕ) (other : Multiples) → c < l.c → AreMultiples c (get_or l.table.items c other);
}
