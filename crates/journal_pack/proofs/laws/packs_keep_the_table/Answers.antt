use Rattle.journal_pack.proofs.Stands.{table-kept}
use Rattle.journal_pack.proofs.laws.packs_keep_the_table.Goals as goal

pub returns : goal.returns
returns c = table-kept
