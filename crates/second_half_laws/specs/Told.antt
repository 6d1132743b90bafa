-- What the laws on events suppose, met by the put of one byte and the get of it.
--
--   IsTold ms gaps c g  == behind the put, c is the begin of the get and g its end, with the steps between
use Rattle.std.specs.Prelude.{◌≡◌, List, [], ◌∷◌, ◌++◌, Some, codes}
use Rattle.machine_defs.specs.Jobs.{GetJob, Job, job_of}
use Rattle.machine_defs.specs.Answers.{Got}
use Rattle.machine_defs.specs.Refusals.{Memory}
use Rattle.machine_defs.specs.Events.{Begin, Refused}
use Rattle.machine_defs.specs.States.{IsStart}
use Rattle.machine_defs.specs.Runs.{Moment, IsRun, now}
use Rattle.machine_defs.specs.Survival.{EndsPut}
use Rattle.machine_defs.specs.Transcripts.{GoOn}
use Rattle.machine_defs.specs.Untouched.{NoneBeganOn, NoneOn, IsFree, IsUntouched}
use Rattle.machine_defs.specs.Examples.{set_up}
use Rattle.run_laws.specs.Stories.{Stored, GetEnds}

-- what events and states tell of the put and the get
pub record IsTold (ms gaps : List Moment) (c g : Moment) : Type 0 where
  pub start : IsStart set_up
  pub run : IsRun 1 set_up (g ∷ (gaps ++ c ∷ ms))
  pub stored : Stored ms (codes "a") (111 ∷ [])
  pub got : GetEnds c gaps g 2 (codes "a") (Got (111 ∷ []))
  pub steps : GoOn 2 gaps
  pub get : Job
  pub get_runs : job_of (now set_up (gaps ++ c ∷ ms)).jobs 2 ≡ Some get
  pub put : Job
  pub put_ends : EndsPut set_up stored.end (stored.between ++ stored.begin ∷ stored.older) put (codes "a")
      (111 ∷ [])
  -- no put or drop of the name began before that put, nor in the get; none runs behind the put, and none is
  -- in flight or in doubt
  pub none_before : NoneBeganOn (codes "a") stored.older
  pub none_ran : NoneOn (codes "a") (now set_up stored.older)
  pub none_later : NoneBeganOn (codes "a") (g ∷ (gaps ++ c ∷ []))
  pub free : IsFree (codes "a") ms
  pub untouched : IsUntouched (codes "a") (now set_up ms)
  -- a get of it may find no memory at its begin
  pub refused : IsRun 1 set_up
      (record { event = Begin (GetJob (codes "a")); outcome = Refused Memory; state = now set_up ms } ∷ ms)
