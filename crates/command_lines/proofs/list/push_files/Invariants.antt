use Rattle.command_lines.proofs.Words.{◌≡◌, ◌++◌, take, list_lines}
use Rattle.command_lines.proofs.list.push_files.Given as goal

abbrev pub invariant-loop-place : goal.invariant-loop-place
invariant-loop-place l = l.text.items ≡ l.fn.text.items ++ list_lines (take l.place l.table.files)
