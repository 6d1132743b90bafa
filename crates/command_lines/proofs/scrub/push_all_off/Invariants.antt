use Rattle.command_lines.proofs.Words.{◌≡◌, ◌++◌, take, off_lines}
use Rattle.command_lines.proofs.scrub.push_all_off.Given as goal

abbrev pub invariant-loop-place : goal.invariant-loop-place
invariant-loop-place l =
    l.text.items ≡ l.fn.text.items ++ off_lines 0 (take l.place l.symbols) (take l.place l.blocks)
