use Rattle.outcome_laws.proofs.Doubted.{sound_with}
use Rattle.outcome_laws.proofs.laws.doubted_journals_are_alike.Goals as goal

pub returns-clause-accepted : goal.returns-clause-accepted
returns-clause-accepted c limit start ms doubt limited starts run is =
    (sound_with limit start ms doubt limited starts run is).accepted

pub returns-clause-alike : goal.returns-clause-alike
returns-clause-alike c limit start ms doubt limited starts run is =
    (sound_with limit start ms doubt limited starts run is).alike
