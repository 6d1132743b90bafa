use Rattle.line_laws.proofs.OfLines.{run-lines}
use Rattle.line_laws.proofs.laws.runs_write_lines.Goals as goal

pub returns : goal.returns
returns c = run-lines
