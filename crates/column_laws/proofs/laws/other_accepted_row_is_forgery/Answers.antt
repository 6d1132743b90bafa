use Rattle.column_laws.proofs.OtherRows.{forgery-of_other}
use Rattle.column_laws.proofs.laws.other_accepted_row_is_forgery.Goals as goal

pub returns : goal.returns
returns c = forgery-of_other
