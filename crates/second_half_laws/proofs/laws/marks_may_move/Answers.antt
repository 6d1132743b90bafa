use Rattle.second_half_laws.proofs.Words.{inr, Relies, none_under_way}
use Rattle.std.proofs.Common.{◌++◌}
use Rattle.second_half_laws.proofs.Epochs.{goes_on}
use Rattle.second_half_laws.proofs.laws.marks_may_move.Goals as goal

pub returns : goal.returns
returns c limit mark start later recent older ps h new none run scrubs only few =
    (goes_on limit mark start recent older ps h new
    (none_under_way Relies limit start h.clean (recent ++ older) none h.run) later run scrubs only
    (inr few)).0
