-- Removals that a job counted and does not make.
--
--   SkipsRemovals s before job  == a job has decided, by the action between the two, that it takes no
--                                  object away
use Rattle.std.specs.Prelude.{◌≡◌, true, false, []}
use Rattle.record_defs.specs.Records.{Setup}
use Rattle.machine_defs.specs.Jobs.{Job}
use Rattle.machine_defs.specs.Left.{is_undecided}

-- a job has decided that it takes no object away
pub record SkipsRemovals (s : Setup) (before job : Job) : Type 0 where
  pub undecided : is_undecided s before ≡ true
  pub decided : is_undecided s job ≡ false
  pub none : job.older ≡ []
