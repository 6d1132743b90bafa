use Rattle.second_half_laws.proofs.Words.{true, is_flagged, now, setup_in, IsFlaggedBy}
use Rattle.std.proofs.Common.{◌≡◌}
use Rattle.second_half_laws.proofs.InRuns.{in_calm, clears}
use Rattle.second_half_laws.proofs.laws.damage_while_a_repair_is_due.Goals as goal

pub returns : goal.returns
returns c limit start ms u name file j h due in_effect l wrong =
    clears start ms ((now start ms).audits u.number) (IsFlaggedBy (now start ms) u.counts)
    (is_flagged (setup_in (now start ms)).tolerance u.counts j ≡ true)
    ((in_calm limit start ms h).audited.due u due) name file j in_effect l wrong (λ s x. x)
