-- Instructions in which no call fails leave all counts of faults.
use Rattle.std.specs.List.{list_all}
use Rattle.made_runs.proofs.Words.{refl, ap, sym, ◌∙◌, inl, inr, ◌≡◌, ℕ, zero, suc, ◌==◌, true, List, [], ◌∷◌, Option, None, Some, cases_Bool, eqb-true, false≢true, Provider, Action, WriteBody, SyncBody, WriteGate, SyncGate, Store, Fetch, Ask, Work, Remove, End, Event, Begin, BeginAt, BeginScrub, BeginPack, Job, job_of, advanced, moved, doubted, done_append, Moment, now, State, Append, with_provider, going_on, next_action, called, with_found, acted, gone, gone_on, stepped, Turn, Works, Notes, Came, Heard, NoneCame, StoreFails, Cut, after, after_next, after_found, gone_by, turned, job_run, Instruction, Turned, Turns, Begins, Reopens, Comes, begun_by, done, run_of, begun_append, written}
use Rattle.machine_defs.proofs.JobLists.{cond_true, cond_false}
use Rattle.made_runs.specs.Turns.{Goes}
use Rattle.made_runs.specs.Counts.{SameCounts, goes_well, IsWell, AreWell}
use Rattle.made_runs.proofs.Steps.{first, second}

-- counts that are the same stay so
pub then-same : (v w new : State) → SameCounts v w → SameCounts w new → SameCounts v new
then-same v w new a b = (b.0 ∙ a.0, λ j. ((b.1 j).0 ∙ (a.1 j).0, (b.1 j).1 ∙ (a.1 j).1))

-- a call of a provider that leaves its counts leaves all
pub called-same : (w : State) (i : ℕ) (p : Provider) → p.store_faults ≡ (w.providers i).store_faults →
    p.other_faults ≡ (w.providers i).other_faults → SameCounts w (called w i p)
called-same w i p stores others = (refl, by)
  where
    by : (j : ℕ) → ((with_provider w.providers i p j).store_faults ≡ (w.providers j).store_faults)
        × ((with_provider w.providers i p j).other_faults ≡ (w.providers j).other_faults)
    by j = elim (cases_Bool (j == i)) [
      | inl t ↦ (let e : with_provider w.providers i p j ≡ p = cond_true (j == i) p (w.providers j) t in
          let same : i ≡ j = sym (eqb-true j i t) in (
            ap (λ (q : Provider). q.store_faults) e ∙ (stores ∙ ap (λ k. (w.providers k).store_faults) same),
            ap (λ (q : Provider). q.other_faults) e ∙ (others ∙ ap (λ k. (w.providers k).other_faults) same),
          ))
      | inr f ↦ (let e : with_provider w.providers i p j ≡ w.providers j =
          cond_false (j == i) p (w.providers j) f in
          (ap (λ (q : Provider). q.store_faults) e, ap (λ (q : Provider). q.other_faults) e))
    ]

-- a change that something makes, if it is there
change-same : {X : Type 0} (w : State) (change : X → State) (found : Option X) →
    ((x : X) → SameCounts w (change x)) → SameCounts w (with_found w change found)
change-same w change None same = (refl, λ j. (refl, refl))
change-same w change (Some x) same = same x

-- an action in which nothing fails
acted-same : (w : State) (job : Job) (action : Action) → SameCounts w (acted w job action)
acted-same w job WriteBody =
    change-same w (begun_append w job) (written w job job.kind) (λ r. (refl, λ j. (refl, refl)))
acted-same w job SyncBody =
    change-same w (moved (going_on w (advanced job))) w.append (λ a. (refl, λ j. (refl, refl)))
acted-same w job WriteGate = change-same w (λ a. doubted (moved (going_on w (advanced job)) a) a job) w.append
    (λ a. (refl, λ j. (refl, refl)))
acted-same w job SyncGate = change-same w (done_append w job) w.append (λ a. (refl, λ j. (refl, refl)))
acted-same w job (Store i object stripe) = called-same w i _ refl refl
acted-same w job (Fetch i object stripe) = called-same w i _ refl refl
acted-same w job (Ask i object round) = called-same w i _ refl refl
acted-same w job (Work object stripe) = (refl, λ j. (refl, refl))
acted-same w job (Remove i object) = called-same w i _ refl refl
acted-same w job End = (refl, λ j. (refl, refl))

-- a plain step
gone-same : (w : State) (job : Job) (next : Option Action) → SameCounts w (gone w job next)
gone-same w job None = (refl, λ j. (refl, refl))
gone-same w job (Some action) = acted-same w job action

stepped-same : (w : State) (job : Option Job) → SameCounts w (gone_on w job)
stepped-same w None = (refl, λ j. (refl, refl))
stepped-same w (Some job) = gone-same w job (next_action w job)

plain-same : (start : State) (ms : List Moment) (n k : ℕ) →
    SameCounts (now start ms) (now start (gone_by start ms n k))
plain-same start ms n zero = (refl, λ j. (refl, refl))
plain-same start ms n (suc k) = (let w = now start (gone_by start ms n k) in
    then-same (now start ms) w (stepped w n) (plain-same start ms n k) (stepped-same w (job_of w.jobs n)))

-- a turn in which nothing fails
after-same : (w : State) (job : Job) (action : Action) (turn : Turn) → goes_well turn ≡ true →
    SameCounts w (after w job action turn)
after-same w job (Work object stripe) (Works symbols) h = (refl, λ j. (refl, refl))
after-same w job WriteBody (Notes entry) h = (refl, λ j. (refl, refl))
after-same w job (Fetch i object stripe) (Came block) h = called-same w i _ refl refl
after-same w job (Ask i object round) (Heard symbol) h = called-same w i _ refl refl
after-same w job (Fetch i object stripe) NoneCame h = absurd (false≢true h)
after-same w job (Store i object stripe) (StoreFails k) h = absurd (false≢true h)
after-same w job action Cut h = absurd (false≢true h)
after-same w job action turn h = (refl, λ j. (refl, refl))

next-same : (w : State) (job : Job) (next : Option Action) (turn : Turn) → goes_well turn ≡ true →
    SameCounts w (after_next w job next turn)
next-same w job None turn h = (refl, λ j. (refl, refl))
next-same w job (Some action) turn h = after-same w job action turn h

found-same : (w : State) (job : Option Job) (turn : Turn) → goes_well turn ≡ true →
    SameCounts w (after_found w job turn)
found-same w None turn h = (refl, λ j. (refl, refl))
found-same w (Some job) turn h = next-same w job (next_action w job) turn h

turn-same : (start : State) (ms : List Moment) (n : ℕ) (turn : Turn) → goes_well turn ≡ true →
    SameCounts (now start ms) (now start (turned start ms n turn))
turn-same start ms n (Goes k) h = plain-same start ms n k
turn-same start ms n turn h = found-same (now start ms) (job_of (now start ms).jobs n) turn h

turns-same : (start : State) (ms : List Moment) (n : ℕ) (turns : List Turn) →
    list_all goes_well turns ≡ true → SameCounts (now start ms) (now start (job_run start ms n turns))
turns-same start ms n [] h = (refl, λ j. (refl, refl))
turns-same start ms n (turn ∷ turns) h = (let rest = job_run start ms n turns in
    then-same (now start ms) (now start rest) (now start (turned start rest n turn))
    (turns-same start ms n turns (second (goes_well turn) (list_all goes_well turns) h))
    (turn-same start rest n turn (first (goes_well turn) (list_all goes_well turns) h)))

-- a begin
begun-same : (w : State) (m : ℕ) (event : Event) → SameCounts w (begun_by w m event)
begun-same w m (Begin kind) = (refl, λ j. (refl, refl))
begun-same w m (BeginAt profile name bytes) = (refl, λ j. (refl, refl))
begun-same w m BeginScrub = (refl, λ j. (refl, refl))
begun-same w m BeginPack = (refl, λ j. (refl, refl))
begun-same w m event = (refl, λ j. (refl, refl))

-- an instruction
one-same : (start : State) (ms : List Moment) (i : Instruction) → IsWell i →
    SameCounts (now start ms) (now start (done start ms i))
one-same start ms (Turned n turn) h = found-same (now start ms) (job_of (now start ms).jobs n) turn h
one-same start ms (Turns n turns) h = turns-same start ms n turns h
one-same start ms (Begins event) h = begun-same (now start ms) _ event
one-same start ms Reopens h = (refl, λ j. (refl, refl))
one-same start ms (Comes event outcome change) h = h (now start ms)
one-same start ms i h = absurd h

-- instructions in which no call fails leave all counts of faults
pub counts-stay : (start : State) (is : List Instruction) → AreWell is →
    SameCounts start (now start (run_of start is))
counts-stay start [] h = (refl, λ j. (refl, refl))
counts-stay start (i ∷ is) h = then-same start (now start (run_of start is))
    (now start (run_of start (i ∷ is))) (counts-stay start is h.1) (one-same start (run_of start is) i h.0)
