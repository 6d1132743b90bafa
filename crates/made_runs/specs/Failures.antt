-- A step in which an ask or a removal fails, as a function of the state: the job goes on.
--
--   can_fail_step w n == the next step of job n can be such a one
--   failed_step w n   == the state after it
use Rattle.std.specs.Prelude.{ℕ, ◌+◌, ◌&&◌, Bool, true, false, Option, None, Some}
use Rattle.made_runs.specs.Words.{Provider, Job, Answered, job_of, advanced, advanced_with, Action, Ask, Remove, State, going_on, next_action}
use Rattle.made_runs.specs.Steps.{called, is_ready}

-- a provider whose call failed
abbrev pub call_failed : Provider → Provider
call_failed p = record p { other_faults = p.other_faults + 1 }

-- an action is such a call
abbrev pub is_such : Option Action → Bool
is_such (Some (Ask j object round)) = true
is_such (Some (Remove j object)) = true
is_such next = false

-- the state after it
abbrev pub failed_call : State → Job → Option Action → State
failed_call w job (Some (Ask j object round)) =
    called (going_on w (advanced_with job (Answered j object round None))) j (call_failed (w.providers j))
failed_call w job (Some (Remove j object)) =
    called (going_on w (advanced job)) j (call_failed (w.providers j))
failed_call w job next = w

-- the next action of a job that runs is such a call
abbrev pub can_fail_next : State → Option Job → Bool
can_fail_next w None = false
can_fail_next w (Some job) = is_such (next_action w job)

-- the state after it
abbrev pub failed_next : State → Option Job → State
failed_next w None = w
failed_next w (Some job) = failed_call w job (next_action w job)

-- the next step of a job can be such a one
abbrev pub can_fail_step : State → ℕ → Bool
can_fail_step w n = is_ready w && can_fail_next w (job_of w.jobs n)

-- the state after it
abbrev pub failed_step : State → ℕ → State
failed_step w n = failed_next w (job_of w.jobs n)
