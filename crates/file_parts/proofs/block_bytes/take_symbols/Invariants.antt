use Rattle.std.proofs.Common.{◌≡◌, ◌*◌, take}
use Rattle.column_defs.specs.Objects.{bytes_of_symbols}
use Rattle.file_parts.proofs.block_bytes.take_symbols.Given as goal

abbrev pub invariant-loop-k : goal.invariant-loop-k
invariant-loop-k l = bytes_of_symbols (take l.k l.out) ≡ take (16 * l.k) l.bytes
