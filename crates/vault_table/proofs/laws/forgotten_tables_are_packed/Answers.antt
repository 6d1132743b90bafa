use Rattle.vault_table.proofs.Fold.{is_packed}
use Rattle.vault_table.proofs.laws.forgotten_tables_are_packed.Goals as goal

pub returns : goal.returns
returns c = is_packed
