-- A step that can be made in which nothing fails happens.
use Rattle.made_runs.proofs.Words.{refl, arith, inl, inr, ◌≡◌, ℕ, ◌==◌, ◌&&◌, Bool, true, false, not, List, Option, None, Some, is_some, eqb-true, false≢true, honest_answer, asked_challenge, Held, Provider, FetchGives, AskGives, Kind, Job, job_of, advanced, Action, WriteBody, SyncBody, WriteGate, SyncGate, Store, Fetch, Ask, Work, Remove, End, Step, Outcome, More, Happens, State, Append, Alone, setup_in, worked_object, going_on, Writes, IsAt, moved, doubted, done_append, block_to_store, Acts, ActsOrWaits, StepsOn, StepsJob, StepsOne, StepsOpen, Steps, next_action, holder_of, stored, fetched, removed, block_from, answer_from, written, is_at, can_act, acted, with_found, can_go, can_run, is_ready, can_step, gone, gone_on, stepped, cases_Bool, Record, writes_counts, record_of, begun_append}
use Rattle.made_runs.specs.Words.{Moves}

-- of two tests that hold the first does
pub first : (a b : Bool) → (a && b) ≡ true → a ≡ true
first true b c = refl
first false b c = absurd (false≢true c)

-- and the second
pub second : (a b : Bool) → (a && b) ≡ true → b ≡ true
second true b c = c
second false b c = absurd (false≢true c)

-- the record that is found is the one that the append writes
writes : (w : State) (job : Job) (kind : Kind) (entry : Record) → written w job kind ≡ Some entry →
    Writes w job kind entry
writes w job kind entry e = elim (cases_Bool (writes_counts job kind)) [
  | inl t ↦ absurd (let f : None ≡ Some entry = rw t at e in cc)
  | inr f ↦ (let g : record_of w.records job kind ≡ Some entry = rw f at e in rw (f, g) refl)
]

-- a write of the body
bodies : (w : State) (job : Job) (entry : Option Record) → written w job job.kind ≡ entry →
    is_some entry ≡ true → Moves w job WriteBody w.append More (with_found w (begun_append w job) entry)
bodies w job None is c = absurd (false≢true c)
bodies w job (Some entry) is c = (entry, writes w job job.kind entry is, (w.disk_faults, omega arith, refl))

-- the append in flight is at its place
pub is-at : (a : Append) (job : Job) (moves : ℕ) → is_at job moves (Some a) ≡ true → IsAt a job moves
is-at a job moves c = (
  eqb-true a.job job.number (first (a.job == job.number) (a.moves == moves) c),
  eqb-true a.moves moves (second (a.job == job.number) (a.moves == moves) c),
)

-- a sync of the body
syncs : (w : State) (job : Job) (flight : Option Append) → is_at job 1 flight ≡ true →
    Moves w job SyncBody flight More (with_found w (moved (going_on w (advanced job))) flight)
syncs w job None c = absurd (false≢true c)
syncs w job (Some a) c = (is-at a job 1 c, (w.disk_faults, omega arith, refl))

-- a write of the gate
gates : (w : State) (job : Job) (flight : Option Append) → is_at job 2 flight ≡ true →
    Moves w job WriteGate flight More
    (with_found w (λ a. doubted (moved (going_on w (advanced job)) a) a job) flight)
gates w job None c = absurd (false≢true c)
gates w job (Some a) c = (is-at a job 2 c, (w.disk_faults, omega arith, refl))

-- a sync of the gate
ends : (w : State) (job : Job) (flight : Option Append) → is_at job 3 flight ≡ true →
    Moves w job SyncGate flight More (with_found w (done_append w job) flight)
ends w job None c = absurd (false≢true c)
ends w job (Some a) c = (is-at a job 3 c, (w.disk_faults, omega arith, refl))

-- a fetch that goes well
fetches : (size object stripe : ℕ) (p : Provider) (told : Option Held) → is_some told ≡ true →
    FetchGives size object stripe told (block_from size object stripe told)
fetches size object stripe p None c = absurd (false≢true c)
fetches size object stripe p (Some held) c = refl

-- an ask that goes well
asks : (honest : (ℕ → Option (List ℕ)) → Option ℕ) (object : ℕ) (told : Option Held) → is_some told ≡ true →
    AskGives honest object told (answer_from honest object told)
asks honest object None c = absurd (false≢true c)
asks honest object (Some held) c = refl

-- an action that can be made so
pub acts : (w : State) (job : Job) (action : Action) → can_act w job action ≡ true →
    Acts w job action More (acted w job action)
acts w job WriteBody c = bodies w job (written w job job.kind) refl c
acts w job SyncBody c = syncs w job w.append c
acts w job WriteGate c = gates w job w.append c
acts w job SyncGate c = ends w job w.append c
acts w job (Store j object stripe) c = (
  stored object stripe (block_to_store w job job.kind j object stripe) (w.providers j),
  record { held = refl; counts = record { store_faults = omega arith; other_faults = refl; fetches = refl } },
  refl,
)
acts w job (Fetch j object stripe) c = (
  block_from (worked_object w job object).profile.size object stripe (w.providers j).held,
  (
    fetched (w.providers j),
    record {
      held = refl;
      counts = record { store_faults = refl; other_faults = omega arith; fetches = refl };
      gives = inl (fetches (worked_object w job object).profile.size object stripe (w.providers j)
          (w.providers j).held c);
    },
    refl,
  ),
)
acts w job (Ask j object round) c = (
  answer_from (honest_answer (asked_challenge (setup_in w) job object round)) object (w.providers j).held,
  (
    w.providers j,
    record {
      held = refl;
      counts = record { store_faults = refl; other_faults = omega arith; fetches = refl };
      gives = inl (asks (honest_answer (asked_challenge (setup_in w) job object round)) object
          (w.providers j).held c);
    },
    refl,
  ),
)
acts w job (Work object stripe) c = absurd (false≢true c)
acts w job (Remove j object) c = (
  removed object (w.providers j),
  inl (record {
    held = refl;
    counts = record { store_faults = refl; other_faults = omega arith; fetches = refl };
  }),
  refl,
)
acts w job End c = absurd (false≢true c)

-- an action that need not wait is made as it acts
pub free : (w new : State) (job : Job) (action : Action) (outcome : Outcome) (holder : Option ℕ) →
    not (is_some holder) ≡ true → Acts w job action outcome new → ActsOrWaits w job action holder outcome new
free w new job action outcome None c a = a
free w new job action outcome (Some h) c a = absurd (false≢true c)

-- where the vault is ready a job's step is its own
pub ready : (w new : State) (n : ℕ) (outcome : Outcome) → is_ready w ≡ true →
    StepsJob w (job_of w.jobs n) outcome new → Steps w n w.is_open outcome new
ready w new n outcome c s = opened w.is_open c
  where
    beside : (alone : Option Alone) → not (is_some alone) ≡ true → StepsOne w n alone outcome new
    beside None c = s
    beside (Some alone) c = absurd (false≢true c)

    unbarred : (barred : Bool) → (not barred && not (is_some w.alone)) ≡ true →
        StepsOpen w n barred outcome new
    unbarred true c = absurd (false≢true c)
    unbarred false c = beside w.alone c

    opened : (is_open : Bool) → (is_open && (not w.is_barred && not (is_some w.alone))) ≡ true →
        Steps w n is_open outcome new
    opened true c = unbarred w.is_barred c
    opened false c = absurd (false≢true c)

-- a job's next action
goes : (w : State) (job : Job) (next : Option Action) → can_go w job next ≡ true →
    StepsOn w job next More (gone w job next)
goes w job None c = absurd (false≢true c)
goes w job (Some action) c = (let held = is_some (holder_of w.append action) in
    free w (acted w job action) job action More (holder_of w.append action)
    (first (not held) (can_act w job action) c)
    (acts w job action (second (not held) (can_act w job action) c)))

-- that of a job that runs
runs : (w : State) (found : Option Job) → can_run w found ≡ true → StepsJob w found More (gone_on w found)
runs w None c = absurd (false≢true c)
runs w (Some job) c = goes w job (next_action w job) c

-- a step that can be made so happens
pub steps : (limit m : ℕ) (w : State) (n : ℕ) → can_step w n ≡ true →
    Happens limit m w (Step n) More (stepped w n)
steps limit m w n c = ready w (stepped w n) n More (first (is_ready w) (can_run w (job_of w.jobs n)) c)
    (runs w (job_of w.jobs n) (second (is_ready w) (can_run w (job_of w.jobs n)) c))
