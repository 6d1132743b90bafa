-- What a step of the only job of a state does: it makes an action, and what is in the journal or in flight grows.
use Rattle.command_jobs.proofs.Words.{◌≡◌, ℕ, ◌+◌, ◌≤◌, ◌⊎◌, List, [], ◌∷◌, Option, Some, None, refl, ap, subst, ◌∙◌, inl, inr, arith, cases_Bool, some-not-none, Record, Area, end_in, Kind, job_of, Action, WriteBody, SyncBody, WriteGate, SyncGate, Store, Fetch, Ask, Work, Remove, End, Step, More, Outcome, State, Append, Moves, next_action, holder_of, ActsOrWaits, StepsOn, StepsJob, StepsOne, StepsOpen, Steps, Happens, cond_true, cond_false, same_value, moves_before, holder, IsOpenAtRest, WalkedAt, found, none-alone, records_in_flight}
use Rattle.std.proofs.Common.{◌==◌}
use Rattle.machine_defs.specs.Jobs.{Job}
use Rattle.machine_defs.specs.Answers as answer
use Rattle.machine_defs.specs.Answers.{Answer}
use Rattle.machine_defs.specs.Events.{Ended}
use Rattle.machine_defs.specs.Steps.{Acts}

-- the only job of a list is the one that is found
pub one-found : (job other : Job) (number : ℕ) → job_of (job ∷ []) number ≡ Some other → other ≡ job
one-found job other number h = elim (cases_Bool (job.number == number)) [
  | inl t ↦ same_value _ other job h (cond_true (job.number == number) (Some job) None t)
  | inr f ↦ absurd (some-not-none _ other h (cond_false (job.number == number) (Some job) None f))
]

-- moves of an append go on, or end in one of two ways
moves-turn : (w : State) (job : Job) (action : Action) (flight : Option Append) (r : Outcome) (new : State) →
    Moves w job action flight r new → (r ≡ More) ⊎ ((how : Answer) × (r ≡ Ended how))
moves-turn w job action flight More new h = inl refl
moves-turn w job action flight (Ended how) new h = inr (how, refl)
moves-turn w job WriteBody flight r new h = absurd h
moves-turn w job SyncBody (Some a) r new h = absurd h
moves-turn w job WriteGate (Some a) r new h = absurd h
moves-turn w job SyncGate (Some a) r new h = absurd h
moves-turn w job action flight r new h = absurd h

pub moves-end : (w : State) (job : Job) (action : Action) (flight : Option Append) (how : Answer) (new : State) →
    Moves w job action flight (Ended how) new → (how ≡ answer.DiskFault) ⊎ (how ≡ answer.Memory)
moves-end w job action flight answer.DiskFault new h = inl refl
moves-end w job action flight answer.Memory new h = inr refl
moves-end w job WriteBody flight how new h = absurd h
moves-end w job SyncBody (Some a) how new h = absurd h
moves-end w job WriteGate (Some a) how new h = absurd h
moves-end w job SyncGate (Some a) how new h = absurd h
moves-end w job action flight how new h = absurd h

-- an action goes on, or ends the job
acts-turn : (w : State) (job : Job) (action : Action) (r : Outcome) (new : State) → Acts w job action r new →
    (r ≡ More) ⊎ ((how : Answer) × (r ≡ Ended how))
acts-turn w job action More new h = inl refl
acts-turn w job action (Ended how) new h = inr (how, refl)
acts-turn w job (Store j object stripe) r new h = moves-turn w job (Store j object stripe) w.append r new h
acts-turn w job (Fetch j object stripe) r new h = moves-turn w job (Fetch j object stripe) w.append r new h
acts-turn w job (Ask j object round) r new h = moves-turn w job (Ask j object round) w.append r new h
acts-turn w job (Work object stripe) r new h = moves-turn w job (Work object stripe) w.append r new h
acts-turn w job (Remove j object) r new h = moves-turn w job (Remove j object) w.append r new h
acts-turn w job End r new h = moves-turn w job End w.append r new h
acts-turn w job action r new h = moves-turn w job action w.append r new h

-- an end that is no fault of the disk and no want of memory leaves the append in flight, and comes at no
-- later move of one
abbrev Stays : State → Action → State → Type 0
Stays w action new = (moves_before action ≡ 0) × (new.append ≡ w.append) × (new.records ≡ w.records)

acts-end : (w : State) (job : Job) (action : Action) (how : Answer) (new : State) →
    (how ≡ answer.DiskFault → ⊥) → (how ≡ answer.Memory → ⊥) → Acts w job action (Ended how) new →
    Stays w action new
acts-end w job (Store j object stripe) (answer.ProviderFault k) new d m (same, (p, call, is)) =
    (refl, ap (λ (v : State). v.append) is, ap (λ (v : State). v.records) is)
acts-end w job (Store j object stripe) answer.Memory new d m h = absurd (m refl)
acts-end w job (Work object stripe) (answer.Lost s row) new d m (same, loses, is) =
    (refl, ap (λ (v : State). v.append) is, ap (λ (v : State). v.records) is)
acts-end w job End how new d m (ends, is) =
    (refl, ap (λ (v : State). v.append) is, ap (λ (v : State). v.records) is)
acts-end w job action how new d m h =
    elim (moves-end w job action w.append how new h) [ inl e ↦ absurd (d e) | inr e ↦ absurd (m e) ]

-- the end of the text with the record in flight
abbrev pub flight_end : Area → List Record → Option Append → ℕ
flight_end area rs o = end_in area (records_in_flight rs o)

-- what is in the journal or in flight grows
abbrev Grows : State → State → Type 0
Grows w new = flight_end w.area w.journal w.append ≤ flight_end new.area new.journal new.append

-- the same where the append in flight is known on both sides
sizes-grow : (w new : State) (old now : Option Append) (rs : List Record) → w.append ≡ old →
    new.append ≡ now → new.area ≡ w.area → new.journal ≡ rs →
    flight_end w.area w.journal old ≤ flight_end w.area rs now → Grows w new
sizes-grow w new old now rs a b area journal h = (let e = ap (flight_end w.area w.journal) a in
    let f : flight_end new.area new.journal new.append ≡ flight_end w.area rs now =
    λ i. flight_end (area i) (journal i) (b i) in
    omega (arith, e, f, h))

same-size : (w new : State) → new.append ≡ w.append → new.area ≡ w.area → new.journal ≡ w.journal → Grows w new
same-size w new a area journal = sizes-grow w new w.append w.append w.journal refl a area journal (omega arith)

moves-grow : (w : State) (job : Job) (action : Action) (flight : Option Append) (new : State) →
    w.append ≡ flight → holder_of flight action ≡ None → Moves w job action flight More new → Grows w new
moves-grow w job WriteBody None new flight free (entry, writes, (faults, low, is)) =
    sizes-grow w new None (Some (record { job = job.number; entry = entry; moves = 1 })) w.journal flight
    (ap (λ v. v.append) is) (ap (λ v. v.area) is) (ap (λ v. v.journal) is) (omega arith)
moves-grow w job WriteBody (Some a) new flight free h = absurd (some-not-none (Some a.job) a.job refl free)
moves-grow w job SyncBody (Some a) new flight free (at, (faults, low, is)) =
    sizes-grow w new (Some a) (Some (record a { moves = a.moves + 1 })) w.journal flight
    (ap (λ v. v.append) is) (ap (λ v. v.area) is) (ap (λ v. v.journal) is) (omega arith)
moves-grow w job WriteGate (Some a) new flight free (at, (faults, low, is)) =
    sizes-grow w new (Some a) (Some (record a { moves = a.moves + 1 })) w.journal flight
    (ap (λ v. v.append) is) (ap (λ v. v.area) is) (ap (λ v. v.journal) is) (omega arith)
moves-grow w job SyncGate (Some a) new flight free (at, (faults, low, is)) =
    sizes-grow w new (Some a) None (a.entry ∷ w.journal) flight (ap (λ v. v.append) is)
    (ap (λ v. v.area) is) (ap (λ v. v.journal) is) (omega arith)
moves-grow w job action flight new e free h = absurd h

acts-grow : (w : State) (job : Job) (action : Action) (new : State) → holder_of w.append action ≡ None →
    Acts w job action More new → Grows w new
acts-grow w job (Store j object stripe) new free (p, call, is) = same-size w new
    (ap (λ (v : State). v.append) is) (ap (λ (v : State). v.area) is) (ap (λ (v : State). v.journal) is)
acts-grow w job (Fetch j object stripe) new free (block, (p, call, is)) = same-size w new
    (ap (λ (v : State). v.append) is) (ap (λ (v : State). v.area) is) (ap (λ (v : State). v.journal) is)
acts-grow w job (Ask j object round) new free (symbol, (p, call, is)) = same-size w new
    (ap (λ (v : State). v.append) is) (ap (λ (v : State). v.area) is) (ap (λ (v : State). v.journal) is)
acts-grow w job (Work object stripe) new free (symbols, gives, is) = same-size w new
    (ap (λ (v : State). v.append) is) (ap (λ (v : State). v.area) is) (ap (λ (v : State). v.journal) is)
acts-grow w job (Remove j object) new free (p, call, is) = same-size w new (ap (λ (v : State). v.append) is)
    (ap (λ (v : State). v.area) is) (ap (λ (v : State). v.journal) is)
acts-grow w job action new free h = moves-grow w job action w.append new refl free h

-- ---- the only job

module _ (start : State) (O : IsOpenAtRest start 1) (kind : Kind) {profile : ℕ} (w : State) (job : Job)
    (W : WalkedAt start kind profile w job) where
  -- with an append in flight the next action is a later move of it
  in-flight : (a : Append) (action : Action) → w.append ≡ Some a → next_action w job ≡ Some action →
      1 ≤ moves_before action
  in-flight a action flight next = (let h = holder 8 w W.sound a flight in
      let begun = (W.sound.append a flight).begun in
      let same : h.0 ≡ job = one-found job h.0 a.job (subst (λ js. job_of js a.job ≡ Some h.0) W.jobs h.1) in
      let comes : next_action w job ≡ Some h.2.0 = subst
      (λ (j : Job). next_action w j ≡ Some h.2.0) same h.2.1 in
      let e : h.2.0 ≡ action = same_value (next_action w job) h.2.0 action comes next in
      let f : moves_before h.2.0 ≡ moves_before action = ap moves_before e in
      let g = h.2.2 in omega (arith, begun, f, g))

  -- where a job's next action is no move of an append, none is in flight
  pub none-flies : (action : Action) → next_action w job ≡ Some action → moves_before action ≡ 0 →
      w.append ≡ None
  none-flies action next e = by_flight w.append refl
    where
      by_flight : (o : Option Append) → w.append ≡ o → w.append ≡ None
      by_flight None f = f
      by_flight (Some a) f = absurd (let l = in-flight a action f next in omega (arith, l, e))

  free : (action : Action) → next_action w job ≡ Some action → holder_of w.append action ≡ None
  free action next = by_flight w.append refl action next
    where
      by_flight : (o : Option Append) → w.append ≡ o → (action : Action) → next_action w job ≡ Some action →
          holder_of o action ≡ None
      by_flight (Some a) f WriteBody next = absurd (omega (arith, in-flight a WriteBody f next))
      by_flight _ f _ next = refl

  -- a step makes the next action
  pub step-makes : (r : Outcome) (new : State) → Steps w 1 w.is_open r new →
      (action : Action) × (next_action w job ≡ Some action) × Acts w job action r new
  step-makes r new h = on (next_action w job) refl (subst (λ o. StepsJob w o r new)
      (found start O kind w job W) (subst (λ o. StepsOne w 1 o r new) (none-alone start O kind w job W)
      (subst (λ b. StepsOpen w 1 b r new) W.unbarred (subst (λ b. Steps w 1 b r new) W.opened h))))
    where
      on : (o : Option Action) → next_action w job ≡ o → StepsOn w job o r new →
          (action : Action) × (next_action w job ≡ Some action) × Acts w job action r new
      on None e h = absurd h
      on (Some action) e h = (action, e, subst (λ o. ActsOrWaits w job action o r new) (free action e) h)

  -- it goes on, or ends the job
  pub step-turn : (moment : ℕ) (r : Outcome) (new : State) → Happens 8 moment w (Step 1) r new →
      (r ≡ More) ⊎ ((how : Answer) × (r ≡ Ended how))
  step-turn moment r new h = (let a = step-makes r new h in acts-turn w job a.0 r new a.2)

  -- where it goes on, what is in the journal or in flight grows
  pub step-grows : (moment : ℕ) (new : State) → Happens 8 moment w (Step 1) More new → Grows w new
  step-grows moment new h = (let a = step-makes More new h in acts-grow w job a.0 new (free a.0 a.1) a.2)

  -- where it ends the job with no fault of the disk and no want of memory, no append is in flight, and the
  -- records are as before
  pub step-ends : (moment : ℕ) (how : Answer) (new : State) → (how ≡ answer.DiskFault → ⊥) →
      (how ≡ answer.Memory → ⊥) → Happens 8 moment w (Step 1) (Ended how) new →
      (w.append ≡ None) × (new.append ≡ None) × (new.records ≡ w.records)
  step-ends moment how new d m h = (let a = step-makes (Ended how) new h in
      let e = acts-end w job a.0 how new d m a.2 in
      let f = none-flies a.0 a.1 e.0 in
      (f, e.1 ∙ f, e.2))
