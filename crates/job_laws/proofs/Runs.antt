-- The job of a command walks to its last step.
use Rattle.job_laws.proofs.Words.{◌≡◌, ℕ, ◌+◌, List, [], ◌∷◌, length, Option, Some, None, refl, subst, arith, Kind, Job, with_job, Action, WriteBody, SyncBody, WriteGate, SyncGate, Store, Fetch, Ask, Work, Remove, Answer, Step, More, Ended, IsSpelledKind, State, Append, setup_in, chosen, beginning, Moves, next_action, holder_of, Acts, Happens, Moment, now, Entry, heard_by, IsOpenAtRest, AreSteps, GoesOnTo, RunsJob, MayName, WalkedAt, walk-begin, walk-step, walk-last, step-acts, found}

-- the last step of a job, and the state and the job before it
pub record Ends (start : State) (kind : Kind) (own : Option ℕ) (answer : Answer) (heard : List Entry)
    (new : State) : Type 0 where
  pub before : State
  pub job : Job
  pub walked : WalkedAt start kind (chosen (setup_in start) own) before job
  pub heard_is : heard ≡ heard_by (Some job)
  pub action : Action
  pub next : next_action before job ≡ Some action
  pub free : holder_of before.append action ≡ None
  pub acts : Acts before job action (Ended answer) new

-- ---- a step that goes on makes one action

-- the job in a state in which it has made one action more
record HasMade (w : State) (job : Job) (new : State) : Type 0 where
  pub next : Job
  pub number : next.number ≡ job.number
  pub place : next.place ≡ job.place + 1
  pub jobs : new.jobs ≡ with_job w.jobs next

made-by : (w : State) (job next : Job) (v new : State) → next.number ≡ job.number →
    next.place ≡ job.place + 1 → v.jobs ≡ with_job w.jobs next → new ≡ v → HasMade w job new
made-by w job next v new number place jobs is =
    record { next = next; number = number; place = place; jobs = cc }

moves-make : (w : State) (job : Job) (action : Action) (flight : Option Append) (new : State) →
    Moves w job action flight More new → HasMade w job new
moves-make w job WriteBody flight new (entry, writes, (faults, low, is)) =
    made-by w job _ _ new refl refl refl is
moves-make w job SyncBody (Some a) new (at, (faults, low, is)) = made-by w job _ _ new refl refl refl is
moves-make w job WriteGate (Some a) new (at, (faults, low, is)) = made-by w job _ _ new refl refl refl is
moves-make w job SyncGate (Some a) new (at, (faults, low, is)) = made-by w job _ _ new refl refl refl is
moves-make w job action flight new h = absurd h

acts-make : (w : State) (job : Job) (action : Action) (new : State) → Acts w job action More new →
    HasMade w job new
acts-make w job (Store j o t) new (p, call, is) = made-by w job _ _ new refl refl refl is
acts-make w job (Fetch j o t) new (block, (p, call, is)) = made-by w job _ _ new refl refl refl is
acts-make w job (Ask j o r) new (symbol, (p, call, is)) = made-by w job _ _ new refl refl refl is
acts-make w job (Work o t) new (symbols, gives, is) = made-by w job _ _ new refl refl refl is
acts-make w job (Remove j o) new (p, call, is) = made-by w job _ _ new refl refl refl is
acts-make w job action new h = moves-make w job action w.append new h

-- a step that goes on leaves the job one place further
next-place : (start : State) (O : IsOpenAtRest start 1) (kind : Kind) {profile : ℕ} (w : State) (job : Job)
    (W : WalkedAt start kind profile w job) (moment : ℕ) (new : State) (next : Job) →
    Happens 8 moment w (Step 1) More new → WalkedAt start kind profile new next → next.place ≡ job.place + 1
next-place start O kind w job W moment new next h V =
    (let a = step-acts start O kind w job W More new (λ n e. cc) h in let m = acts-make w job a.0 new a.3 in
    let f : next ≡ m.next = cc in cc)

-- ---- steps

-- a job on its walk, so many places further
pub record WalkedOn (start : State) (kind : Kind) (profile : ℕ) (job : Job) (count : ℕ)
    (w : State) : Type 0 where
  pub next : Job
  pub walked : WalkedAt start kind profile w next
  pub place : next.place ≡ job.place + count

-- steps that all go on leave a job on its walk, a place further for each of them
pub walk-on : (start w : State) (kind : Kind) (profile : ℕ) (job : Job) (moment : ℕ) (ms : List Moment) →
    IsOpenAtRest start 1 → WalkedAt start kind profile w job → AreSteps w moment 1 ms →
    WalkedOn start kind profile job (length ms) (now w ms)
walk-on start w kind profile job moment [] O W h =
    record { next = job; walked = W; place = omega arith }
walk-on start w kind profile job moment (m ∷ ms) O W (event, outcome, happens, rest) =
    (let r = walk-on start w kind profile job moment ms O W rest in
    let n = walk-step start O kind (now w ms) r.next r.walked (moment + length ms) m.state happens in
    record {
      next = n.0;
      walked = n.1;
      place = (omega (
        arith,
        next-place start O kind (now w ms) r.next r.walked (moment + length ms) m.state n.0 happens n.1,
      ));
    })

-- steps that all go on leave a job on its walk
pub walk-steps : (start w : State) (kind : Kind) (profile : ℕ) (job : Job) (moment : ℕ) (ms : List Moment) →
    IsOpenAtRest start 1 → WalkedAt start kind profile w job → AreSteps w moment 1 ms →
    (next : Job) × WalkedAt start kind profile (now w ms) next
walk-steps start w kind profile job moment ms O W h =
    (let r = walk-on start w kind profile job moment ms O W h in (r.next, r.walked))

-- a job that runs alone walks to its last step, which ends it
pub job-ends : (start new : State) (moment : ℕ) (kind : Kind) (own : Option ℕ) (answer : Answer)
    (heard : List Entry) → IsOpenAtRest start 1 → IsSpelledKind kind → MayName kind own →
    RunsJob start moment kind own answer heard new → Ends start kind own answer heard new
job-ends start new moment kind own answer heard O spelled named r =
    (let b = walk-begin moment r.job start r.begun kind own named O spelled r.begins in
    let g : GoesOnTo r.begun (moment + 1) 1 answer heard new =
    subst (λ n. GoesOnTo r.begun (moment + 1) n answer heard new) b.0 r.goes_on in
    let last = walk-steps start r.begun kind (chosen (setup_in start) own) (beginning start moment kind own)
    (moment + 1) g.steps O b.1 g.are_steps in
    let a = walk-last start O kind (now r.begun g.steps) last.0 last.1
    ((moment + 1) + length g.steps) new answer g.ends in
    record {
      before = now r.begun g.steps;
      job = last.0;
      walked = last.1;
      heard_is = cc (found start O kind (now r.begun g.steps) last.0 last.1);
      action = a.0;
      next = a.1;
      free = a.2;
      acts = a.3;
    })
