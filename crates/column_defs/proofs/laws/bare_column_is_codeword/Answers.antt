use Rattle.column_defs.proofs.SecondaryLaws.{IsCodeword-bare_column}
use Rattle.column_defs.proofs.laws.bare_column_is_codeword.Goals as goal

pub returns : goal.returns
returns c = IsCodeword-bare_column
