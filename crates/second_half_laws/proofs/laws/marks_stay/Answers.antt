use Rattle.second_half_laws.proofs.InRuns.{mark_stays, before_stays}
use Rattle.second_half_laws.proofs.laws.marks_stay.Goals as goal

pub returns-clause-before_puts : goal.returns-clause-before_puts
returns-clause-before_puts c = before_stays

pub returns-clause-marks : goal.returns-clause-marks
returns-clause-marks c limit mark start m ms from h scrubs run P =
    mark_stays limit mark start m ms h scrubs run from P
