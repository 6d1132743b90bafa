use Rattle.std.proofs.Common.{inr}
use Rattle.epoch_laws.proofs.Sweeps.{is_over}
use Rattle.epoch_laws.proofs.Epochs.{first_calm, calm_on, exact_on}
use Rattle.epoch_laws.proofs.laws.scrubs_begin_epochs.Goals as goal

pub returns : goal.returns
returns c = record {
  first = first_calm;
  mark = λ limit start older ms clean run S. (is_over limit start clean older ms run S).mark;
  calm = λ limit start later recent older qs clean run calm S only few.
      calm_on limit start later recent older qs clean run S only calm (inr few);
  exact = λ limit start later recent older qs clean tell run calm S only.
      exact_on limit start later recent older qs clean run S only tell calm;
}
