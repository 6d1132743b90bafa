use Rattle.std.proofs.Common.{◌≡◌, ◌*◌, take}
use Rattle.column_defs.specs.Objects.{bytes_of_symbols}
use Rattle.file_parts.proofs.block_bytes.put_symbols.Given as goal

abbrev pub invariant-loop-k : goal.invariant-loop-k
invariant-loop-k l = take (16 * l.k) l.out ≡ bytes_of_symbols (take l.k l.block)
