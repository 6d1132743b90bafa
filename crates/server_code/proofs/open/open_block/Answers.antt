use Rattle.server_code.proofs.Words.{sym, differences-same}
use Rattle.server_code.proofs.open.open_block.Goals as goal

pub returns-then-is_clean-clause-changed : goal.returns-then-is_clean-clause-changed
returns-then-is_clean-clause-changed c = sym (differences-same c.args.block.now)
