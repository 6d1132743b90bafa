use Rattle.std.proofs.Common.{◌≡◌, ◌++◌, take}
use Rattle.server_code.proofs.make.push_bytes.Given as goal

abbrev pub invariant-loop-k : goal.invariant-loop-k
invariant-loop-k l = l.rows.items ≡ l.initial.rows.items ++ take l.k l.row
