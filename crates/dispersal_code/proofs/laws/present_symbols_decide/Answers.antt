use Rattle.dispersal_code.proofs.Erasures.{enough_present, decodes_present, present_accepts, few_present}
use Rattle.dispersal_code.proofs.laws.present_symbols_decide.Goals as goal

pub returns-clause-room : goal.returns-clause-room
returns-clause-room c = enough_present

pub returns-clause-decided : goal.returns-clause-decided
returns-clause-decided c n l b points seen p shape even whole many = (
  decodes_present n l b points seen shape even whole many p,
  present_accepts n l b points seen shape even whole many p,
)

pub returns-clause-few : goal.returns-clause-few
returns-clause-few c n l b points seen = few_present n b l points seen
