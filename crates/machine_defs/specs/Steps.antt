-- One step of a job.
--
--   block_to_store w job kind j object stripe == the block that a job stores: of a put's bytes, or of what a
--                                                repair's work gave
--   Ends w job kind answer                    == the answer at the end of a job
--   Acts old job action outcome new           == what an action may come to
--   next_action w job                         == the next action of a job; a drop that has not begun its
--                                                append and whose name is no longer in effect has only its
--                                                end left
--   holder_of append action                   == the job for which a step has to wait: that of the append in
--                                                flight, if the action begins one
--   Steps old number is_open outcome new      == what a step may come to
use Rattle.std.specs.Prelude.{◌≡◌, ℕ, ◌==◌, ◌&&◌, Bool, true, false, not, List, [], ◌∷◌, Option, None, Some, is_some, slice_get, if◌then◌else◌}
use Rattle.column_defs.specs.Challenges.{honest_answer}
use Rattle.column_defs.specs.Columns.{columns, column_of_symbols}
use Rattle.column_defs.specs.Opened.{GivesSymbols, LosesRow}
use Rattle.device_defs.specs.ProviderCalls.{Stores, FailsToStore, FindsNoMemory, Fetches, Asks, Removes}
use Rattle.machine_defs.specs.Jobs.{Kind, PutJob, GetJob, DropJob, AuditJob, RepairJob, UpgradeJob, Pinned, Fetched, Answered, Worked, Job, job_of, advanced, advanced_with}
use Rattle.machine_defs.specs.Actions.{Action, WriteBody, Store, Fetch, Ask, Work, Remove, End, actions_of}
use Rattle.machine_defs.specs.Refusals.{MustReopen, NoSuchJob}
use Rattle.machine_defs.specs.Answers.{Answer, Put, Got, Dropped, Audited, Repaired, Upgraded, Lost, ProviderFault, Memory}
use Rattle.machine_defs.specs.Events.{Outcome, Refused, More, Waiting, Ended, Closed}
use Rattle.machine_defs.specs.States.{State, Append, Alone, setup_in, put_object, worked_object, file_in, going_on, ended, ProviderCall}
use Rattle.machine_defs.specs.Given.{blocks_given, symbols_given, file_given}
use Rattle.machine_defs.specs.Audits.{asked_challenge, HasSums}
use Rattle.machine_defs.specs.Appends.{Moves}
use Rattle.machine_defs.specs.Alone.{number_alone, StepsAlone}

-- the block that a job stores: of a put's own bytes, or of the symbols that a repair's work gave
abbrev pub block_to_store : State → Job → Kind → ℕ → ℕ → ℕ → List ℕ
block_to_store w job (PutJob name bytes) j object stripe = columns (put_object w job object) bytes j stripe
block_to_store w job kind j object stripe =
    column_of_symbols (worked_object w job object) (symbols_given job.given object stripe) j stripe

-- a get's bytes are those that the work on its file gave
abbrev pub GotBytes : State → Job → List Pinned → List ℕ → Type 0
GotBytes w job [] bytes = ⊥
GotBytes w job (f ∷ fs) bytes = bytes ≡ file_given (setup_in w) job.given f

-- the answer at the end of a job
abbrev pub Ends : State → Job → Kind → Answer → Type 0
Ends w job (PutJob name bytes) Put = Unit {0}
Ends w job (GetJob name) (Got bytes) = GotBytes w job job.pinned bytes
Ends w job (DropJob name) Dropped = Unit {0}
Ends w job AuditJob (Audited number undecided counts) =
    (number ≡ job.subject) × HasSums (setup_in w) job (record { counts = counts; undecided = undecided })
Ends w job RepairJob (Repaired number) = number ≡ job.subject
Ends w job UpgradeJob Upgraded = Unit {0}
Ends w job kind answer = ⊥

-- a fetch gives a block or none
abbrev pub FetchStep : State → Job → ℕ → ℕ → ℕ → State → Type 0
FetchStep old job j object stripe new =
    (block : Option (List ℕ)) × ProviderCall old j (λ p q. Fetches
    (worked_object old job object).profile.size object stripe p block q)
    (going_on old (advanced_with job (Fetched j object stripe block))) new

-- an ask gives an answer or none
abbrev pub AskStep : State → Job → ℕ → ℕ → ℕ → State → Type 0
AskStep old job j object round new =
    (symbol : Option ℕ) × ProviderCall old j
    (λ p q. Asks (honest_answer (asked_challenge (setup_in old) job object round)) object p symbol q)
    (going_on old (advanced_with job (Answered j object round symbol))) new

-- work on a stripe gives its symbols
abbrev pub WorkStep : State → Job → ℕ → ℕ → State → Type 0
WorkStep old job object stripe new =
    (symbols : List ℕ) × GivesSymbols (worked_object old job object) stripe
    (blocks_given job.given (setup_in old).n object stripe) symbols
    × (new ≡ going_on old (advanced_with job (Worked object stripe symbols)))

-- what a job's next action may do
abbrev pub Acts : State → Job → Action → Outcome → State → Type 0
Acts old job (Store j object stripe) More new =
    ProviderCall old j (Stores object stripe (block_to_store old job job.kind j object stripe))
    (going_on old (advanced job)) new
Acts old job (Store j object stripe) (Ended (ProviderFault k)) new =
    (k ≡ j) × ProviderCall old j FailsToStore (ended old job) new
Acts old job (Store j object stripe) (Ended Memory) new = ProviderCall old j FindsNoMemory (ended old job) new
Acts old job (Fetch j object stripe) More new = FetchStep old job j object stripe new
Acts old job (Ask j object round) More new = AskStep old job j object round new
Acts old job (Work object stripe) More new = WorkStep old job object stripe new
Acts old job (Work object stripe) (Ended (Lost s row)) new =
    (s ≡ stripe) × LosesRow (worked_object old job object) stripe
    (blocks_given job.given (setup_in old).n object stripe) row × (new ≡ ended old job)
Acts old job (Remove j object) More new =
    ProviderCall old j (Removes object) (going_on old (advanced job)) new
Acts old job End (Ended answer) new = Ends old job job.kind answer × (new ≡ ended old job)
Acts old job action outcome new = Moves old job action old.append outcome new

-- a drop that has not begun its append and whose name is no longer in effect
abbrev pub is_idle_drop : State → Job → Kind → Bool
is_idle_drop w job (DropJob name) = (job.place == 0) && not (is_some (file_in w name))
is_idle_drop w job kind = false

-- the next action of a job; an idle drop has only its end left
abbrev pub next_action : State → Job → Option Action
next_action w job =
    if is_idle_drop w job job.kind then Some End else slice_get (actions_of (setup_in w) job) job.place

-- the job for which one has to wait whose next action begins an append
abbrev pub holder_of : Option Append → Action → Option ℕ
holder_of (Some a) WriteBody = Some a.job
holder_of flight action = None

-- a job's next action waits for the holder, or is made
abbrev pub ActsOrWaits : State → Job → Action → Option ℕ → Outcome → State → Type 0
ActsOrWaits old job action (Some holder) (Waiting h) new = (h ≡ holder) × (new ≡ old)
ActsOrWaits old job action (Some holder) outcome new = ⊥
ActsOrWaits old job action None outcome new = Acts old job action outcome new

-- a job that runs has a next action
abbrev pub StepsOn : State → Job → Option Action → Outcome → State → Type 0
StepsOn old job None outcome new = ⊥
StepsOn old job (Some action) outcome new =
    ActsOrWaits old job action (holder_of old.append action) outcome new

-- a step of a job, if it runs
abbrev pub StepsJob : State → Option Job → Outcome → State → Type 0
StepsJob old None (Refused NoSuchJob) new = new ≡ old
StepsJob old None outcome new = ⊥
StepsJob old (Some job) outcome new = StepsOn old job (next_action old job) outcome new

-- a step of what runs alone, by whether it has the number, or else of a job
abbrev pub StepsMine : State → ℕ → Alone → Bool → Outcome → State → Type 0
StepsMine old number alone true outcome new = StepsAlone old alone outcome new
StepsMine old number alone false outcome new = StepsJob old (job_of old.jobs number) outcome new

-- a step of what runs alone, if anything does, or of a job
abbrev pub StepsOne : State → ℕ → Option Alone → Outcome → State → Type 0
StepsOne old number None outcome new = StepsJob old (job_of old.jobs number) outcome new
StepsOne old number (Some alone) outcome new =
    StepsMine old number alone (number_alone alone == number) outcome new

-- a step while a vault is open, by whether it has to be reopened
abbrev pub StepsOpen : State → ℕ → Bool → Outcome → State → Type 0
StepsOpen old number true (Refused MustReopen) new = new ≡ old
StepsOpen old number true outcome new = ⊥
StepsOpen old number false outcome new = StepsOne old number old.alone outcome new

-- a step, by whether a vault is open
abbrev pub Steps : State → ℕ → Bool → Outcome → State → Type 0
Steps old number false Closed new = new ≡ old
Steps old number false outcome new = ⊥
Steps old number true outcome new = StepsOpen old number old.is_barred outcome new
