use Rattle.command_lines.proofs.Words.{◌≡◌, ◌++◌, take, count_lines}
use Rattle.command_lines.proofs.audit.push_counts.Given as goal

abbrev pub invariant-loop-place : goal.invariant-loop-place
invariant-loop-place l = l.text.items ≡ l.fn.text.items ++ count_lines l.tolerance 0 (take l.place l.counts)
