use Rattle.std.proofs.Common.{◌≡◌, drop}
use Rattle.file_parts.specs.SeenRows.{seen_symbol}
use Rattle.file_parts.proofs.seen_rows.symbol_in.Given as goal

abbrev pub invariant-loop-seen : goal.invariant-loop-seen
invariant-loop-seen l = seen_symbol (drop l.seen-index l.rows) l.row ≡ seen_symbol l.rows l.row
