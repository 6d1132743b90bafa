use Rattle.column_laws.proofs.UniqueLaws.{accepted-unique}
use Rattle.column_laws.proofs.laws.accepted_row_is_unique.Goals as goal

pub returns : goal.returns
returns c = accepted-unique
