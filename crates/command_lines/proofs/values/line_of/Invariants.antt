use Rattle.command_lines.proofs.Words.{◌≡◌, map, take, decimal, join_with_byte, string_bytes}
use Rattle.command_lines.proofs.values.line_of.Given as goal

abbrev pub invariant-loop-k : goal.invariant-loop-k
invariant-loop-k l = string_bytes l.line ≡ join_with_byte 32 (map decimal (take l.k l.values))
