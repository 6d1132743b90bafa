-- How the steps of a job go, as functions of the state; moments and turns stand the newest first.
--
--   Turn                     == how steps of a job go: so many plain ones, or one with a choice or a fault
--   turned start ms n turn   == the moments ms with those of a turn of job n before them
--   FitsTurn start ms n turn == after them the job can go so
--   job_run start ms n turns == the moments ms with those of turns of job n before them
--   AreFitTurns              == after them the job can go so in each, and each answers more
use Rattle.std.specs.Prelude.{◌≡◌, ℕ, zero, suc, ◌+◌, ◌&&◌, Bool, true, false, not, List, [], ◌∷◌, Option, None, Some, is_some}
use Rattle.made_runs.specs.Words.{honest_answer, GivesSymbols, LosesRow, Record, one_more, Provider, FetchGives, AskGives, asked_challenge, Job, Fetched, Answered, Worked, job_of, advanced_with, Action, WriteBody, SyncBody, WriteGate, SyncGate, Store, Fetch, Ask, Work, End, Answer, Lost, DiskFault, ProviderFault, Step, Outcome, More, Ended, State, setup_in, worked_object, going_on, ended, blocks_given, Writes, begun_append, doubted, barred, Moment, now, Ends, next_action, holder_of}
use Rattle.made_runs.specs.Steps.{called, fetched, is_ready, can_step, stepped, is_at, with_found}

-- how steps of a job go
pub data Turn : Type 0 where
  Goes : (count : ℕ) → Turn  -- so many plain ones
  Works : (symbols : List ℕ) → Turn  -- the work on a stripe gives these
  Notes : (entry : Record) → Turn  -- an append begins with this record
  Came : (block : Option (List ℕ)) → Turn  -- a fetch gives this
  Heard : (symbol : Option ℕ) → Turn  -- an ask gives this
  NoneCame : Turn  -- a fetch fails
  Gives : (answer : Answer) → Turn  -- the job ends with this answer
  LosesOne : (stripe row : ℕ) → Turn  -- the work on a stripe finds a row lost
  StoreFails : (provider : ℕ) → Turn
  Cut : Turn  -- a move of an append fails at the disk

-- a moment of a job
abbrev pub step_of : ℕ → Outcome → State → Moment
step_of n outcome w = record { event = Step n; outcome = outcome; state = w }

-- what it answers
abbrev pub told : Turn → Outcome
told (Gives answer) = Ended answer
told (LosesOne stripe row) = Ended (Lost stripe row)
told (StoreFails j) = Ended (ProviderFault j)
told Cut = Ended DiskFault
told turn = More

-- it answers more
abbrev pub is_more : Turn → Bool
is_more (Gives answer) = false
is_more (LosesOne stripe row) = false
is_more (StoreFails j) = false
is_more Cut = false
is_more turn = true

-- the disk's count of faults has risen by one
abbrev pub faulted : State → State
faulted w = record w { disk_faults = w.disk_faults + 1 }

-- a move of an append can fail at the disk
abbrev pub can_fail : State → Job → Action → Bool
can_fail w job WriteBody = true
can_fail w job SyncBody = is_at job 1 w.append
can_fail w job WriteGate = is_at job 2 w.append
can_fail w job SyncGate = is_at job 3 w.append
can_fail w job action = false

-- the state after it
abbrev pub failed_at : State → Job → Action → State
failed_at w job WriteGate = faulted (with_found w (λ a. doubted (barred (ended w job)) a job) w.append)
failed_at w job action = faulted (barred (ended w job))

-- a provider whose store failed
abbrev pub store_failed : Provider → Provider
store_failed p = record p { store_faults = p.store_faults + 1 }

-- a provider whose fetch failed
abbrev pub fetch_failed : Provider → Provider
fetch_failed p = record p { fetches = one_more p.fetches; other_faults = p.other_faults + 1 }

-- an action can go so
abbrev pub Fits : State → Job → Action → Turn → Type 0
Fits w job (Work object stripe) (Works symbols) =
    GivesSymbols (worked_object w job object) stripe (blocks_given job.given (setup_in w).n object stripe)
    symbols
Fits w job WriteBody (Notes entry) = Writes w job job.kind entry
Fits w job (Fetch j object stripe) (Came block) =
    FetchGives (worked_object w job object).profile.size object stripe (w.providers j).held block
Fits w job (Ask j object round) (Heard symbol) =
    AskGives (honest_answer (asked_challenge (setup_in w) job object round)) object (w.providers j).held
    symbol
Fits w job (Fetch j object stripe) NoneCame = Unit {0}
Fits w job End (Gives answer) = Ends w job job.kind answer
Fits w job (Work object stripe) (LosesOne s row) =
    (s ≡ stripe) × LosesRow (worked_object w job object) stripe
    (blocks_given job.given (setup_in w).n object stripe) row
Fits w job (Store j object stripe) (StoreFails k) = k ≡ j
Fits w job action Cut = can_fail w job action ≡ true
Fits w job action turn = ⊥

-- the state after it
abbrev pub after : State → Job → Action → Turn → State
after w job (Work object stripe) (Works symbols) =
    going_on w (advanced_with job (Worked object stripe symbols))
after w job WriteBody (Notes entry) = begun_append w job entry
after w job (Fetch j object stripe) (Came block) =
    called (going_on w (advanced_with job (Fetched j object stripe block))) j (fetched (w.providers j))
after w job (Ask j object round) (Heard symbol) =
    called (going_on w (advanced_with job (Answered j object round symbol))) j (w.providers j)
after w job (Fetch j object stripe) NoneCame =
    called (going_on w (advanced_with job (Fetched j object stripe None))) j (fetch_failed (w.providers j))
after w job (Store j object stripe) (StoreFails k) = called (ended w job) j (store_failed (w.providers j))
after w job action Cut = failed_at w job action
after w job action turn = ended w job

-- a job's next action can go so
abbrev pub FitsNext : State → Job → Option Action → Turn → Type 0
FitsNext w job None turn = ⊥
FitsNext w job (Some action) turn =
    (not (is_some (holder_of w.append action)) ≡ true) × Fits w job action turn

-- that of a job that runs
abbrev pub FitsFound : State → Option Job → Turn → Type 0
FitsFound w None turn = ⊥
FitsFound w (Some job) turn = FitsNext w job (next_action w job) turn

-- the next step of a job can go so
abbrev pub FitsStep : State → ℕ → Turn → Type 0
FitsStep w n turn = (is_ready w ≡ true) × FitsFound w (job_of w.jobs n) turn

-- the state after a job's next action
abbrev pub after_next : State → Job → Option Action → Turn → State
after_next w job None turn = w
after_next w job (Some action) turn = after w job action turn

-- the state after the next action of a job that runs
abbrev pub after_found : State → Option Job → Turn → State
after_found w None turn = w
after_found w (Some job) turn = after_next w job (next_action w job) turn

-- the state after a job's next step
abbrev pub after_step : State → ℕ → Turn → State
after_step w n turn = after_found w (job_of w.jobs n) turn

-- ---- turns

-- these moments with so many plain steps before them
abbrev pub gone_by : State → List Moment → ℕ → ℕ → List Moment
gone_by start ms n zero = ms
gone_by start ms n (suc k) =
    step_of n More (stepped (now start (gone_by start ms n k)) n) ∷ gone_by start ms n k

-- they can all be made
abbrev pub can_go_by : State → List Moment → ℕ → ℕ → Bool
can_go_by start ms n zero = true
can_go_by start ms n (suc k) = can_step (now start (gone_by start ms n k)) n && can_go_by start ms n k

-- these moments with those of a turn before them
abbrev pub turned : State → List Moment → ℕ → Turn → List Moment
turned start ms n (Goes k) = gone_by start ms n k
turned start ms n turn = step_of n (told turn) (after_step (now start ms) n turn) ∷ ms

-- the job can go so
abbrev pub FitsTurn : State → List Moment → ℕ → Turn → Type 0
FitsTurn start ms n (Goes k) = can_go_by start ms n k ≡ true
FitsTurn start ms n turn = FitsStep (now start ms) n turn

-- ---- runs

-- these moments with those of turns of a job before them
abbrev pub job_run : State → List Moment → ℕ → List Turn → List Moment
job_run start ms n [] = ms
job_run start ms n (turn ∷ turns) = turned start (job_run start ms n turns) n turn

-- the job can go so in each, and each answers more
abbrev pub AreFitTurns : State → List Moment → ℕ → List Turn → Type 0
AreFitTurns start ms n [] = Unit {0}
AreFitTurns start ms n (turn ∷ turns) =
    (is_more turn ≡ true) × FitsTurn start (job_run start ms n turns) n turn × AreFitTurns start ms n turns
