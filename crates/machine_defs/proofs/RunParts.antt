-- What the runs of this folder are made of.
use Rattle.machine_defs.proofs.Words.{◌^◌, ◌≢◌, option_map, refl, arith, subst, PutDone, with_block, Stores, Kind, GetJob, Job, job_of, advanced, Answer, Step, Outcome, Ended, More, State, Append, ProviderCall, going_on, with_provider, moved, doubted, new_job, block_to_store, Moment, set_up}
use Rattle.std.specs.Prelude.{ℕ, ◌+◌, ◌<◌, true, List, [], ◌∷◌, ◌++◌, Option, Some, None}
use Rattle.machine_defs.specs.States.{given_up}

-- a vault has opened
abbrev pub reopened : State → State
reopened w = record (given_up w) { doubt = None; is_open = true }

-- a job has begun, after so many events
abbrev pub begun : State → ℕ → Kind → State
begun w moment kind = record w { jobs = w.jobs ++ new_job w moment kind ∷ []; next_job = w.next_job + 1 }

-- the job of a number, or one that does nothing
abbrev pub job_at : State → ℕ → Job
job_at w number = or_else (job_of w.jobs number)
  where
    or_else : Option Job → Job
    or_else None = new_job set_up 0 (GetJob [])
    or_else (Some job) = job

-- the append in flight, or one that nothing writes
abbrev pub append_at : State → Append
append_at w = or_else w.append
  where
    or_else : Option Append → Append
    or_else None = record { job = 0; entry = PutDone 0 0; moves = 0 }
    or_else (Some a) = a

-- an append has made its second move, or its third
abbrev pub synced : State → ℕ → State
synced w number = moved (going_on w (advanced (job_at w number))) (append_at w)

-- an append has made its third move, and its record is in doubt
abbrev pub gated : State → ℕ → State
gated w number = doubted (moved (going_on w (advanced (job_at w number))) (append_at w)) (append_at w)
    (job_at w number)

-- the block that a job stores
abbrev pub own_block : State → Job → ℕ → ℕ → List ℕ
own_block w job j stripe = block_to_store w job job.kind j job.subject stripe

-- a block has been stored
abbrev pub with_store : State → Job → ℕ → ℕ → State
with_store w job j stripe =
    record (going_on w (advanced job)) {
      providers = with_provider w.providers j (record (w.providers j) {
        held = option_map (with_block job.subject stripe (own_block w job j stripe)) (w.providers j).held;
      });
    }

-- by this call
pub store_call : (w : State) (job : Job) (j stripe : ℕ) →
    ProviderCall w j (Stores job.subject stripe (own_block w job j stripe)) (going_on w (advanced job))
    (with_store w job j stripe)
store_call w job j stripe = (
  record (w.providers j)
      { held = option_map (with_block job.subject stripe (own_block w job j stripe)) (w.providers j).held },
  record { held = refl; counts = record { store_faults = omega arith; other_faults = refl; fetches = refl } },
  refl,
)

-- an answer that ends a job is not `more`
abbrev pub is_ended : Outcome → Type 0
is_ended (Ended how) = Unit {0}
is_ended outcome = ⊥

-- so an outcome that ends a job is never `more`
pub not_more : (how : Answer) → Ended how ≢ More
not_more how e = subst is_ended e tt

-- a step that answered `more`
abbrev pub stepped : ℕ → State → Moment
stepped number w = record { event = Step number; outcome = More; state = w }

-- small numbers fit
pub fits : 1 < 2 ^ 32
fits = omega arith

-- two fits 32 bits
pub fits_two : 2 < 2 ^ 32
fits_two = omega arith
