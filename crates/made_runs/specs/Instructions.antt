-- Runs, computed from what is done in them; moments and instructions stand the newest first.
--
--   Instruction              == steps of a job or of what runs alone, a begin, an opening of the vault, a
--                               stop, or any event with what it changes
--   done start ms i          == the moments ms with those of an instruction before them
--   FitsOne limit start ms i == after them it can be carried out
--   run_of start is          == the moments of instructions
--   AreFit limit start is    == each can be carried out
use Rattle.std.specs.Prelude.{◌≡◌, ℕ, ◌+◌, ◌<◌, ◌^◌, true, false, List, [], ◌∷◌, ◌++◌, length, Option, None, Some, is_some, nat_le}
use Rattle.made_runs.specs.Words.{setup_of, Kind, PutJob, new_scrub, new_pack, alone_refusal, pack_refusal, Event, Begin, BeginAt, BeginScrub, BeginPack, Step, Stop, Reopen, Outcome, More, Opened, Begun, Stopped, IsSpelled, Happens, reread, Moment, now, State, Alone, Scrubbing, Packing, Doubt, setup_in, given_up, brought}
use Rattle.machine_defs.specs.Begins.{beginning, refusal_of_begin}
use Rattle.made_runs.specs.Turns.{Turn, told, after_step, FitsStep, FitsTurn, job_run}
use Rattle.made_runs.specs.Sweeps.{Sweep, swept_so, swept, FitsSweep}
use Rattle.made_runs.specs.Failures.{failed_step, can_fail_step}

-- what is done
pub data Instruction : Type 0 where
  Turned : (job : ℕ) (turn : Turn) → Instruction  -- one step of a job
  Turns : (job : ℕ) (turns : List Turn) → Instruction  -- turns of one
  Swept : (job : ℕ) (sweep : Sweep) → Instruction  -- one step of what runs alone
  Sweeps : (job : ℕ) (sweeps : List Sweep) → Instruction  -- steps of it
  Fails : (job : ℕ) → Instruction  -- an ask or a removal fails
  Begins : (event : Event) → Instruction
  Reopens : Instruction  -- what is in doubt is then not in effect
  Stops : (picks : List ℕ) → Instruction  -- what is in doubt is then in effect
  Comes : (event : Event) (outcome : Outcome) (change : State → State) → Instruction

-- a job has begun
abbrev pub with_new : State → ℕ → Kind → Option ℕ → State
with_new w moment kind own =
    record w { jobs = w.jobs ++ beginning w moment kind own ∷ []; next_job = w.next_job + 1 }

-- what runs alone has begun
abbrev pub with_alone : State → Alone → State
with_alone w alone = record w { alone = Some alone; next_job = w.next_job + 1 }

-- the state after a begin, after so many events
abbrev pub begun_by : State → ℕ → Event → State
begun_by w moment (Begin kind) = with_new w moment kind None
begun_by w moment (BeginAt profile name bytes) = with_new w moment (PutJob name bytes) (Some profile)
begun_by w moment BeginScrub = with_alone w (Scrubbing (new_scrub w moment))
begun_by w moment BeginPack = with_alone w (Packing (new_pack w))
begun_by w moment event = w

-- a begin is not refused
abbrev pub FitsBegin : ℕ → State → Event → Type 0
FitsBegin limit w (Begin kind) = refusal_of_begin limit w kind None ≡ None
FitsBegin limit w (BeginAt profile name bytes) =
    refusal_of_begin limit w (PutJob name bytes) (Some profile) ≡ None
FitsBegin limit w BeginScrub = alone_refusal w [] ≡ None
FitsBegin limit w BeginPack = pack_refusal w ≡ None
FitsBegin limit w event = ⊥

-- the state after a vault has opened
abbrev pub reopened : State → State
reopened w = record (given_up w) { is_switching = false; doubt = None; is_open = true }

-- what is in doubt, if anything, has come into effect
abbrev pub settled : State → Option Doubt → State
settled w None = record w { doubt = None }
settled w (Some d) = record (brought w d.entry) { doubt = None }

-- the state after a stop
abbrev pub stopped : State → State
stopped w = settled (reread w w.journal w.area) w.doubt

-- a moment
abbrev pub moment : Event → Outcome → State → Moment
moment event outcome w = record { event = event; outcome = outcome; state = w }

-- these moments with those of steps of what runs alone before them
abbrev pub sweep_run : State → List Moment → ℕ → List Sweep → List Moment
sweep_run start ms n [] = ms
sweep_run start ms n (sweep ∷ sweeps) =
    moment (Step n) (swept_so sweep) (swept (now start (sweep_run start ms n sweeps)) sweep)
    ∷ sweep_run start ms n sweeps

-- these moments with those of an instruction before them
abbrev pub done : State → List Moment → Instruction → List Moment
done start ms (Turned n turn) = moment (Step n) (told turn) (after_step (now start ms) n turn) ∷ ms
done start ms (Turns n turns) = job_run start ms n turns
done start ms (Swept n sweep) = moment (Step n) (swept_so sweep) (swept (now start ms) sweep) ∷ ms
done start ms (Sweeps n sweeps) = sweep_run start ms n sweeps
done start ms (Fails n) = moment (Step n) More (failed_step (now start ms) n) ∷ ms
done start ms (Begins event) =
    moment event (Begun (now start ms).next_job) (begun_by (now start ms) (length ms) event) ∷ ms
done start ms Reopens = moment Reopen Opened (reopened (now start ms)) ∷ ms
done start ms (Stops picks) = moment (Stop picks) Stopped (stopped (now start ms)) ∷ ms
done start ms (Comes event outcome change) = moment event outcome (change (now start ms)) ∷ ms

-- the job can go so in each
abbrev pub AreTurns : State → List Moment → ℕ → List Turn → Type 0
AreTurns start ms n [] = Unit {0}
AreTurns start ms n (turn ∷ turns) =
    FitsTurn start (job_run start ms n turns) n turn × AreTurns start ms n turns

-- so can what runs alone
abbrev pub AreSweeps : State → List Moment → ℕ → List Sweep → Type 0
AreSweeps start ms n [] = Unit {0}
AreSweeps start ms n (sweep ∷ sweeps) =
    FitsSweep (now start (sweep_run start ms n sweeps)) n sweep × AreSweeps start ms n sweeps

-- after these moments it can be carried out
abbrev pub FitsOne : ℕ → State → List Moment → Instruction → Type 0
FitsOne limit start ms (Turned n turn) = (n < 2 ^ 32) × FitsStep (now start ms) n turn
FitsOne limit start ms (Turns n turns) = (n < 2 ^ 32) × AreTurns start ms n turns
FitsOne limit start ms (Swept n sweep) = (n < 2 ^ 32) × FitsSweep (now start ms) n sweep
FitsOne limit start ms (Sweeps n sweeps) = (n < 2 ^ 32) × AreSweeps start ms n sweeps
FitsOne limit start ms (Fails n) = (n < 2 ^ 32) × (can_fail_step (now start ms) n ≡ true)
FitsOne limit start ms (Begins event) =
    IsSpelled event × ((now start ms).is_open ≡ true) × FitsBegin limit (now start ms) event
FitsOne limit start ms Reopens =
    (is_some (setup_of (now start ms).records) ≡ true)
    × (nat_le (setup_in (now start ms)).n (now start ms).handed ≡ true)
FitsOne limit start ms (Stops picks) = IsSpelled (Stop picks)
FitsOne limit start ms (Comes event outcome change) =
    IsSpelled event × Happens limit (length ms) (now start ms) event outcome (change (now start ms))

-- the moments of instructions
abbrev pub run_of : State → List Instruction → List Moment
run_of start [] = []
run_of start (i ∷ is) = done start (run_of start is) i

-- each can be carried out
abbrev pub AreFit : ℕ → State → List Instruction → Type 0
AreFit limit start [] = Unit {0}
AreFit limit start (i ∷ is) = FitsOne limit start (run_of start is) i × AreFit limit start is
