use Rattle.machine_defs.specs.Calm.{relies}
use Rattle.machine_defs.proofs.Damaged.{first_before, calm_back, scrubs_back, missed_back}
use Rattle.machine_defs.proofs.Untouched.{run_back}
use Rattle.machine_defs.proofs.laws.first_moments_are_a_run.Goals as goal

pub returns-clause-run : goal.returns-clause-run
returns-clause-run c = run_back

pub returns-clause-calm : goal.returns-clause-calm
returns-clause-calm c = calm_back relies

pub returns-clause-scrubs : goal.returns-clause-scrubs
returns-clause-scrubs c = scrubs_back

pub returns-clause-missed : goal.returns-clause-missed
returns-clause-missed c = missed_back

pub returns-clause-first : goal.returns-clause-first
returns-clause-first c = first_before
