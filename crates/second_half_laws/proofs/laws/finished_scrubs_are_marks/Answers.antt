use Rattle.second_half_laws.proofs.Finished.{scrub_marked, half_by_scrubs, exact_by_scrubs}
use Rattle.second_half_laws.proofs.laws.finished_scrubs_are_marks.Goals as goal

pub returns-clause-marks : goal.returns-clause-marks
returns-clause-marks c = scrub_marked

pub returns-clause-half : goal.returns-clause-half
returns-clause-half c = half_by_scrubs

pub returns-clause-exact : goal.returns-clause-exact
returns-clause-exact c = exact_by_scrubs
