-- A step in which no device fails and nothing is out of memory, as a function of the state.
--
--   can_step w n    == the next step of job n can be such a one that answers more, with no choice in it
--   stepped w n     == the state after it
--
-- A step has a choice where it works on a stripe, ends, or writes what an audit counted: Turns has those.
use Rattle.std.specs.Prelude.{ℕ, ◌==◌, ◌&&◌, Bool, true, false, not, List, Option, None, Some, is_some, if◌then◌else◌}
use Rattle.std.specs.Option.{option_map}
use Rattle.made_runs.specs.Words.{honest_answer, Record, one_more, Held, Provider, with_block, without_object, sized, Kind, Job, Fetched, Answered, job_of, advanced, advanced_with, Action, WriteBody, SyncBody, WriteGate, SyncGate, Store, Fetch, Ask, Work, Remove, End, State, Append, setup_in, worked_object, going_on, with_provider, asked_challenge, begun_append, moved, doubted, done_append, block_to_store, next_action, holder_of, writes_counts, record_of}

-- ---- calls of a provider that go well

-- a provider with a block stored
abbrev pub stored : ℕ → ℕ → List ℕ → Provider → Provider
stored object stripe block p = record p { held = option_map (with_block object stripe block) p.held }

-- a provider that was fetched from
abbrev pub fetched : Provider → Provider
fetched p = record p { fetches = one_more p.fetches }

-- a provider without an object
abbrev pub removed : ℕ → Provider → Provider
removed object p = record p { held = option_map (without_object object) p.held }

-- the block that a provider gives
abbrev pub block_from : ℕ → ℕ → ℕ → Option Held → Option (List ℕ)
block_from size object stripe None = None
block_from size object stripe (Some held) = sized size (held object stripe)

-- the answer that a provider gives
abbrev pub answer_from : ((ℕ → Option (List ℕ)) → Option ℕ) → ℕ → Option Held → Option ℕ
answer_from honest object None = None
answer_from honest object (Some held) = honest (held object)

-- a state with a call of provider j made
abbrev pub called : State → ℕ → Provider → State
called w j p = record w { providers = with_provider w.providers j p }

-- ---- an action

-- the record that an append writes, but for the counts of an audit
abbrev pub written : State → Job → Kind → Option Record
written w job kind = if writes_counts job kind then None else record_of w.records job kind

-- the append in flight is this job's, with so many moves done
abbrev pub is_at : Job → ℕ → Option Append → Bool
is_at job moves None = false
is_at job moves (Some a) = (a.job == job.number) && (a.moves == moves)

-- an action can be made so
abbrev pub can_act : State → Job → Action → Bool
can_act w job WriteBody = is_some (written w job job.kind)
can_act w job SyncBody = is_at job 1 w.append
can_act w job WriteGate = is_at job 2 w.append
can_act w job SyncGate = is_at job 3 w.append
can_act w job (Store j object stripe) = true
can_act w job (Fetch j object stripe) = is_some (w.providers j).held
can_act w job (Ask j object round) = is_some (w.providers j).held
can_act w job (Work object stripe) = false
can_act w job (Remove j object) = true
can_act w job End = false

-- a change that this makes, if it is there
abbrev pub with_found : {X : Type 0} → State → (X → State) → Option X → State
with_found w change None = w
with_found w change (Some x) = change x

-- the state after it
abbrev pub acted : State → Job → Action → State
acted w job WriteBody = with_found w (begun_append w job) (written w job job.kind)
acted w job SyncBody = with_found w (moved (going_on w (advanced job))) w.append
acted w job WriteGate =
    with_found w (λ a. doubted (moved (going_on w (advanced job)) a) a job) w.append
acted w job SyncGate = with_found w (done_append w job) w.append
acted w job (Store j object stripe) =
    called (going_on w (advanced job)) j
    (stored object stripe (block_to_store w job job.kind j object stripe) (w.providers j))
acted w job (Fetch j object stripe) =
    called (going_on w (advanced_with job (Fetched j object stripe
    (block_from (worked_object w job object).profile.size object stripe (w.providers j).held)))) j
    (fetched (w.providers j))
acted w job (Ask j object round) =
    called (going_on w (advanced_with job (Answered j object round
    (answer_from (honest_answer (asked_challenge (setup_in w) job object round)) object
    (w.providers j).held)))) j (w.providers j)
acted w job (Work object stripe) = w
acted w job (Remove j object) =
    called (going_on w (advanced job)) j (removed object (w.providers j))
acted w job End = w

-- ---- a step

-- a job's next action can be made so, and need not wait
abbrev pub can_go : State → Job → Option Action → Bool
can_go w job None = false
can_go w job (Some action) = not (is_some (holder_of w.append action)) && can_act w job action

-- so can a job that runs
abbrev pub can_run : State → Option Job → Bool
can_run w None = false
can_run w (Some job) = can_go w job (next_action w job)

-- the vault is open, no disk call has failed, and nothing runs alone
abbrev pub is_ready : State → Bool
is_ready w = w.is_open && (not w.is_barred && not (is_some w.alone))

-- the next step of a job can be such a one
abbrev pub can_step : State → ℕ → Bool
can_step w n = is_ready w && can_run w (job_of w.jobs n)

-- the state after a job's next action
abbrev pub gone : State → Job → Option Action → State
gone w job None = w
gone w job (Some action) = acted w job action

-- after that of a job that runs
abbrev pub gone_on : State → Option Job → State
gone_on w None = w
gone_on w (Some job) = gone w job (next_action w job)

-- the state after it
abbrev pub stepped : State → ℕ → State
stepped w n = gone_on w (job_of w.jobs n)
