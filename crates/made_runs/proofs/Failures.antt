-- A step in which an ask or a removal can fail happens so.
use Rattle.made_runs.proofs.Words.{refl, arith, inl, inr, ◌≡◌, ℕ, true, Option, None, Some, false≢true, Held, LosesPart, Job, job_of, Action, Ask, Remove, Step, More, Happens, State, Append, Acts, ActsOrWaits, StepsOn, StepsJob, next_action, holder_of, is_ready}
use Rattle.device_defs.specs.Told.{Goes}
use Rattle.made_runs.specs.Failures.{call_failed, is_such, failed_call, can_fail_next, failed_next, can_fail_step, failed_step}
use Rattle.made_runs.proofs.Steps.{first, second, ready}

-- a removal that fails may take away nothing
keeps : (object : ℕ) (held : Option Held) → Goes (LosesPart object) held held
keeps object None = tt
keeps object (Some held) = λ o s. inl refl

-- neither waits for an append
ask-free : (w new : State) (job : Job) (j object round : ℕ) (flight : Option Append) →
    Acts w job (Ask j object round) More new →
    ActsOrWaits w job (Ask j object round) (holder_of flight (Ask j object round)) More new
ask-free w new job j object round None a = a
ask-free w new job j object round (Some f) a = a

remove-free : (w new : State) (job : Job) (j object : ℕ) (flight : Option Append) →
    Acts w job (Remove j object) More new →
    ActsOrWaits w job (Remove j object) (holder_of flight (Remove j object)) More new
remove-free w new job j object None a = a
remove-free w new job j object (Some f) a = a

-- a job's next action
fails : (w : State) (job : Job) (next : Option Action) → is_such next ≡ true →
    StepsOn w job next More (failed_call w job next)
fails w job (Some (Ask j object round)) c = ask-free w _ job j object round w.append (
  None,
  (
    call_failed (w.providers j),
    record {
      held = refl;
      counts = record { store_faults = refl; other_faults = omega arith; fetches = refl };
      gives = inr (refl, λ low. omega arith);
    },
    refl,
  ),
)
fails w job (Some (Remove j object)) c = remove-free w _ job j object w.append (
  call_failed (w.providers j),
  inr (record {
    held = keeps object (w.providers j).held;
    counts = record { store_faults = refl; other_faults = omega arith; fetches = refl };
    cause = λ low. omega arith;
  }),
  refl,
)
fails w job next c = absurd (false≢true c)

-- that of a job that runs
found : (w : State) (job : Option Job) → can_fail_next w job ≡ true → StepsJob w job More (failed_next w job)
found w None c = absurd (false≢true c)
found w (Some job) c = fails w job (next_action w job) c

-- a step in which an ask or a removal can fail happens so
pub fails-so : (limit m : ℕ) (w : State) (n : ℕ) → can_fail_step w n ≡ true →
    Happens limit m w (Step n) More (failed_step w n)
fails-so limit m w n c =
    ready w (failed_step w n) n More (first (is_ready w) (can_fail_next w (job_of w.jobs n)) c)
    (found w (job_of w.jobs n) (second (is_ready w) (can_fail_next w (job_of w.jobs n)) c))
