use Rattle.second_half_laws.proofs.InRuns.{in_run, clears_all}
use Rattle.second_half_laws.proofs.laws.damage_in_effect_is_new.Goals as goal

pub returns : goal.returns
returns c limit mark start ms name file j h in_effect l wrong =
    clears_all start ms (mark ms) (in_run limit mark start ms h).moment.clear name file j in_effect l wrong
