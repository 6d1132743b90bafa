use Rattle.std.proofs.Common.{◌≡◌, ◌+◌, ◌*◌, ◌≤◌, ◌++◌, take, vec_len, vec_capacity}
use Rattle.column_defs.specs.Objects.{bytes_of_symbols}
use Rattle.vault.proofs.work.push_symbols.Given as goal

abbrev pub invariant-loop-symbol : goal.invariant-loop-symbol
invariant-loop-symbol l = record {
  so_far : l.bytes.items ≡ l.initial.bytes.items ++ bytes_of_symbols (take l.symbol-index l.symbols);
  size : vec_len l.bytes ≡ vec_len l.initial.bytes + 16 * l.symbol-index;
  grown : vec_capacity l.initial.bytes ≤ vec_capacity l.bytes;
}
