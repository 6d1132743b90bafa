-- Steps left of a job.
--
--   removes_older aim      == the job takes an older object away, where there is one: a put, a drop
--   is_undecided s job     == it does, and its append has not yet decided on it
--   most_after s aim rest  == the largest number of steps that a job may make of which these actions are
--                             left, if nothing fails, whatever other jobs do: a removal from each provider
--                             counts until it is decided
--   left_alone w job       == how many steps the job makes until its end if nothing fails and no other job
--                             steps
--   most_left s job        == the largest number of steps that a running job may make
use Rattle.std.specs.Prelude.{ℕ, ◌+◌, ◌&&◌, Bool, true, false, List, length, count_by, nat_lt, if◌then◌else◌}
use Rattle.record_defs.specs.Records.{Setup}
use Rattle.machine_defs.specs.Jobs.{Kind, PutJob, DropJob, Aim, ToPut, ToDrop, aim_of, Job}
use Rattle.machine_defs.specs.Actions.{Action, actions_left, ends_append, appends_left}
use Rattle.machine_defs.specs.States.{State, setup_in, file_in}
use Rattle.machine_defs.specs.Appends.{removable}
use Rattle.machine_defs.specs.Steps.{is_idle_drop}

-- a job takes an older object away, where there is one
abbrev pub removes_older : Aim → Bool
removes_older (ToPut name size) = true
removes_older (ToDrop name) = true
removes_older aim = false

-- its append has not yet decided on it
abbrev pub is_undecided : Setup → Job → Bool
is_undecided s job = removes_older (aim_of job.kind) && nat_lt 0 (appends_left s job)

-- the largest number of steps that a job may make of which these actions are left
abbrev pub most_after : Setup → Aim → List Action → ℕ
most_after s aim rest =
    length rest + (if removes_older aim && nat_lt 0 (count_by ends_append rest) then s.n else 0)

-- the largest number of steps that may remain of a running job
abbrev pub most_left : Setup → Job → ℕ
most_left s job = most_after s (aim_of job.kind) (actions_left s job)

-- a job that has decided now on the object that it takes away
abbrev pub decided : State → Job → Kind → Job
decided w job (PutJob name bytes) =
    if is_undecided (setup_in w) job then record job { older = removable w (file_in w name) } else job
decided w job (DropJob name) =
    if is_undecided (setup_in w) job then record job { older = removable w (file_in w name) } else job
decided w job kind = job

-- the number of steps that remain if no other job steps; an idle drop has only its end left
abbrev pub left_alone : State → Job → ℕ
left_alone w job =
    if is_idle_drop w job job.kind then 1 else length (actions_left (setup_in w) (decided w job job.kind))
