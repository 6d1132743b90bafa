use Rattle.machine_defs.specs.Untouched.{Touches}
use Rattle.machine_defs.proofs.Untouched.{none_ran, none_on, never_taken_out}
use Rattle.machine_defs.proofs.laws.names_stay_untouched.Goals as goal

pub returns-clause-none_runs : goal.returns-clause-none_runs
returns-clause-none_runs c limit start later ms name clean run none began =
    none_on (Touches name) limit start later ms run none began

pub returns-clause-none_takes : goal.returns-clause-none_takes
returns-clause-none_takes c limit start later ms name clean run untouched began =
    never_taken_out limit start clean later ms name run untouched began

pub returns-clause-none_ran : goal.returns-clause-none_ran
returns-clause-none_ran c limit start ms name clean run began =
    none_ran (Touches name) limit start clean ms run began
