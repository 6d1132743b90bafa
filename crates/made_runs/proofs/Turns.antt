-- A step that can go as a turn says happens.
use Rattle.made_runs.proofs.Words.{refl, arith, inl, inr, ◌≡◌, ℕ, ◌+◌, true, Option, None, Some, false≢true, Job, job_of, Action, WriteBody, SyncBody, WriteGate, SyncGate, Store, Fetch, Ask, Work, Remove, End, DiskFault, Step, Ended, Happens, State, Append, ended, doubted, barred, Acts, StepsOn, StepsJob, next_action, holder_of, fetched, is_at, with_found, Turn, Works, Notes, Came, Heard, NoneCame, Gives, LosesOne, StoreFails, Cut, told, faulted, can_fail, failed_at, store_failed, fetch_failed, Fits, after, FitsNext, FitsFound, FitsStep, after_next, after_found, after_step}
use Rattle.made_runs.specs.Words.{Moves}
use Rattle.made_runs.proofs.Steps.{is-at, free, ready}

-- ---- a move that fails

-- the second
sync_fails : (w : State) (job : Job) (flight : Option Append) → is_at job 1 flight ≡ true →
    Moves w job SyncBody flight (Ended DiskFault) (faulted (barred (ended w job)))
sync_fails w job None c = absurd (false≢true c)
sync_fails w job (Some a) c = (is-at a job 1 c, (w.disk_faults + 1, omega arith, λ low. omega arith, refl))

-- the third
gate_fails : (w : State) (job : Job) (flight : Option Append) → is_at job 2 flight ≡ true →
    Moves w job WriteGate flight (Ended DiskFault)
    (faulted (with_found w (λ a. doubted (barred (ended w job)) a job) flight))
gate_fails w job None c = absurd (false≢true c)
gate_fails w job (Some a) c = (is-at a job 2 c, (w.disk_faults + 1, omega arith, λ low. omega arith, refl))

-- the last
end_fails : (w : State) (job : Job) (flight : Option Append) → is_at job 3 flight ≡ true →
    Moves w job SyncGate flight (Ended DiskFault) (faulted (barred (ended w job)))
end_fails w job None c = absurd (false≢true c)
end_fails w job (Some a) c = (is-at a job 3 c, (w.disk_faults + 1, omega arith, λ low. omega arith, refl))

-- each of them
fails_at : (w : State) (job : Job) (action : Action) → can_fail w job action ≡ true →
    Acts w job action (Ended DiskFault) (failed_at w job action)
fails_at w job WriteBody c = (w.disk_faults + 1, omega arith, λ low. omega arith, refl)
fails_at w job SyncBody c = sync_fails w job w.append c
fails_at w job WriteGate c = gate_fails w job w.append c
fails_at w job SyncGate c = end_fails w job w.append c
fails_at w job (Store j object stripe) c = absurd (false≢true c)
fails_at w job (Fetch j object stripe) c = absurd (false≢true c)
fails_at w job (Ask j object round) c = absurd (false≢true c)
fails_at w job (Work object stripe) c = absurd (false≢true c)
fails_at w job (Remove j object) c = absurd (false≢true c)
fails_at w job End c = absurd (false≢true c)

-- ---- one step

-- an action goes as a turn says
acts_so : (w : State) (job : Job) (action : Action) (turn : Turn) → Fits w job action turn →
    Acts w job action (told turn) (after w job action turn)
acts_so w job (Work object stripe) (Works symbols) f = (symbols, f, refl)
acts_so w job WriteBody (Notes entry) f = (entry, f, (w.disk_faults, omega arith, refl))
acts_so w job (Fetch j object stripe) (Came block) f = (
  block,
  (
    fetched (w.providers j),
    record {
      held = refl;
      counts = record { store_faults = refl; other_faults = omega arith; fetches = refl };
      gives = inl f;
    },
    refl,
  ),
)
acts_so w job (Ask j object round) (Heard symbol) f = (
  symbol,
  (
    w.providers j,
    record {
      held = refl;
      counts = record { store_faults = refl; other_faults = omega arith; fetches = refl };
      gives = inl f;
    },
    refl,
  ),
)
acts_so w job (Fetch j object stripe) NoneCame f = (
  None,
  (
    fetch_failed (w.providers j),
    record {
      held = refl;
      counts = record { store_faults = refl; other_faults = omega arith; fetches = refl };
      gives = inr (refl, λ low. omega arith);
    },
    refl,
  ),
)
acts_so w job End (Gives answer) f = (f, refl)
acts_so w job (Work object stripe) (LosesOne s row) f = (f.0, f.1, refl)
acts_so w job (Store j object stripe) (StoreFails k) f = (
  f,
  (
    store_failed (w.providers j),
    record {
      held = refl;
      counts = record { store_faults = omega arith; other_faults = refl; fetches = refl };
      cause = λ low. omega arith;
    },
    refl,
  ),
)
acts_so w job action Cut f = fails_at w job action f
acts_so w job action turn f = absurd f

-- a job's next action
goes : (w : State) (job : Job) (next : Option Action) (turn : Turn) → FitsNext w job next turn →
    StepsOn w job next (told turn) (after_next w job next turn)
goes w job None turn f = absurd f
goes w job (Some action) turn f = free w (after w job action turn) job action (told turn)
    (holder_of w.append action) f.0 (acts_so w job action turn f.1)

-- that of a job that runs
found : (w : State) (job : Option Job) (turn : Turn) → FitsFound w job turn →
    StepsJob w job (told turn) (after_found w job turn)
found w None turn f = absurd f
found w (Some job) turn f = goes w job (next_action w job) turn f

-- a step that can go so happens
pub goes-so : (limit m : ℕ) (w : State) (n : ℕ) (turn : Turn) → FitsStep w n turn →
    Happens limit m w (Step n) (told turn) (after_step w n turn)
goes-so limit m w n turn f =
    ready w (after_step w n turn) n (told turn) f.0 (found w (job_of w.jobs n) turn f.1)
