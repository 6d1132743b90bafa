-- A job that was cut short: what of its records is in effect, and which one comes next.
use Rattle.command_jobs.proofs.Words.{◌≡◌, ℕ, ◌<◌, ◌⊎◌, true, [], ◌∷◌, length, replicate, Option, Some, None, refl, ap, sym, subst, ◌∙◌, inl, inr, arith, length-replicate, Record, PutStart, AuditStart, AuditDone, version_of, next_id, next_audit, Kind, PutJob, GetJob, DropJob, AuditJob, RepairJob, UpgradeJob, job_of, Action, WriteBody, SyncBody, WriteGate, SyncGate, Store, End, actions_left, appends_left, Step, State, Append, setup_in, chosen, done_record, Writes, Moves, next_action, Happens, same_value, setup_in_effect, IsNext, put_done, moves_made, moves_before, holder, appends-order, body-left, small-sums, IsOpenAtRest, first_record, IsSecondRecord, WalkedAt, found, runs, Wrote, wrote, IsWriting, is_move}
use Rattle.record_defs.specs.Records.{Setup}
use Rattle.machine_defs.specs.Jobs.{Job}
use Rattle.machine_defs.specs.Answers as answer
use Rattle.machine_defs.specs.Events.{Ended}
use Rattle.machine_defs.specs.Steps.{Acts}
use Rattle.state_laws.proofs.Events.{moves-next}
use Rattle.command_jobs.proofs.Acting.{one-found, none-flies, step-makes}

-- ---- what an end in a fault of the disk, or for want of memory, leaves in effect

moves-fault : (w : State) (job : Job) (action : Action) (flight : Option Append) (new : State) →
    Moves w job action flight (Ended answer.DiskFault) new → new.records ≡ w.records
moves-fault w job WriteBody flight new (faults, low, rose, is) = ap (λ (v : State). v.records) is
moves-fault w job SyncBody (Some a) new (at, (faults, low, rose, is)) = ap (λ (v : State). v.records) is
moves-fault w job WriteGate (Some a) new (at, (faults, low, rose, is)) = ap (λ (v : State). v.records) is
moves-fault w job SyncGate (Some a) new (at, (faults, low, rose, is)) = ap (λ (v : State). v.records) is
moves-fault w job action flight new h = absurd h

acts-fault : (w : State) (job : Job) (action : Action) (new : State) →
    Acts w job action (Ended answer.DiskFault) new → new.records ≡ w.records
acts-fault w job End new (ends, is) = ap (λ (v : State). v.records) is
acts-fault w job action new h = moves-fault w job action w.append new h

-- no append is in flight any more, unless one was that this action is no move of
abbrev Clears : State → Action → State → Type 0
Clears w action new =
    (new.records ≡ w.records) × (((moves_before action ≡ 0) × (new.append ≡ w.append)) ⊎ (new.append ≡ None))

moves-memory : (w : State) (job : Job) (action : Action) (flight : Option Append) (new : State) →
    Moves w job action flight (Ended answer.Memory) new → Clears w action new
moves-memory w job WriteBody flight new is = (ap (λ v. v.records) is, inl (refl, ap (λ v. v.append) is))
moves-memory w job WriteGate (Some a) new (at, is) = (ap (λ v. v.records) is, inr (ap (λ v. v.append) is))
moves-memory w job SyncBody (Some a) new h = absurd h
moves-memory w job SyncGate (Some a) new h = absurd h
moves-memory w job action flight new h = absurd h

acts-memory : (w : State) (job : Job) (action : Action) (new : State) →
    Acts w job action (Ended answer.Memory) new → Clears w action new
acts-memory w job (Store j object stripe) new (p, call, is) =
    (ap (λ (v : State). v.records) is, inl (refl, ap (λ (v : State). v.append) is))
acts-memory w job End new (ends, is) =
    (ap (λ (v : State). v.records) is, inl (refl, ap (λ (v : State). v.append) is))
acts-memory w job action new h = moves-memory w job action w.append new h

module _ (start : State) (O : IsOpenAtRest start 1) (kind : Kind) (own : Option ℕ) (w : State)
    (job : Job) (W : WalkedAt start kind (chosen (setup_in start) own) w job) where
  -- a step that ended in a fault of the disk leaves the records
  pub fault-records : (moment : ℕ) (new : State) → Happens 8 moment w (Step 1) (Ended answer.DiskFault) new →
      new.records ≡ w.records
  fault-records moment new h =
      (let a = step-makes start O kind w job W (Ended answer.DiskFault) new h in acts-fault w job a.0 new a.2)

  -- a step that found no memory leaves the records, and no append in flight
  pub memory-clears : (moment : ℕ) (new : State) → Happens 8 moment w (Step 1) (Ended answer.Memory) new →
      (new.records ≡ w.records) × (new.append ≡ None)
  memory-clears moment new h = (let a = step-makes start O kind w job W (Ended answer.Memory) new h in
      let c = acts-memory w job a.0 new a.2 in
      (c.0, elim c.1 [ inl e ↦ e.1 ∙ none-flies start O kind w job W a.0 a.1 e.0 | inr e ↦ e ]))

  -- ---- an append of the job is left

  within : (action : Action) → next_action w job ≡ Some action → 0 < moves_before action →
      0 < appends_left (setup_in w) job
  within action next later = (let order = (W.sound.jobs 1 job (found start O kind w job W)).order in
      let e = moves-next w job action (moves_made w.append 1) next order in
      appends-order (moves_made w.append 1) (actions_left (setup_in w) job) (omega (arith, e, later)) order)

  -- before each move of it
  before-move : (action : Action) → next_action w job ≡ Some action → is_move (Some action) ≡ true →
      0 < appends_left (setup_in w) job
  before-move WriteBody next move = body-left 8 w W.sound job.number job (runs start O kind w job W) next
  before-move SyncBody next move = within SyncBody next (omega arith)
  before-move WriteGate next move = within WriteGate next (omega arith)
  before-move SyncGate next move = within SyncGate next (omega arith)
  before-move _ next move = cc

  -- ---- the record that comes next

  next-first : (entry : Record) (kd : Kind) → kind ≡ kd → Writes w job kd entry → w.records ≡ start.records →
      entry ≡ first_record start kd → IsNext kd own start.records w.records entry
  next-first entry (PutJob name bytes) e h same is =
      record {
        done = [];
        rest = put_done start.records (length bytes) own ∷ [];
        parts = ap (λ (r : Record). r ∷ put_done start.records (length bytes) own ∷ []) (sym is);
        after_is = same;
      }
  next-first entry (GetJob name) e h same is = h
  next-first entry (DropJob name) e h same is =
      record { done = []; rest = []; parts = ap (λ (r : Record). r ∷ []) (sym is); after_is = same }
  next-first entry AuditJob e h same is = (
    0,
    replicate (setup_in_effect start.records).n 0,
    length-replicate (setup_in_effect start.records).n 0,
    record {
      done = [];
      rest = AuditDone (next_audit start.records) 0 (replicate (setup_in_effect start.records).n 0) ∷ [];
      parts = ap (λ (r : Record). r ∷ AuditDone (next_audit start.records) 0
          (replicate (setup_in_effect start.records).n 0) ∷ []) (sym is);
      after_is = same;
    },
  )
  next-first entry RepairJob e h same is =
      record { done = []; rest = []; parts = ap (λ (r : Record). r ∷ []) (sym is); after_is = same }
  next-first entry UpgradeJob e h same is =
      record { done = []; rest = []; parts = ap (λ (r : Record). r ∷ []) (sym is); after_is = same }

  setup-at : setup_in start ≡ setup_in_effect start.records
  unfolding setup_in
  setup-at = refl

  next-second : (entry : Record) (kd : Kind) → w.records ≡ first_record start kd ∷ start.records →
      IsSecondRecord start job kd entry → IsNext kd own start.records w.records entry
  next-second entry (PutJob name bytes) same is = (record {
    done = PutStart (next_id start.records) name ∷ [];
    rest = [];
    parts = ap (λ r. PutStart (next_id start.records) name ∷ r ∷ []) (sym
        (is ∙ (ap (done_record (version_of start.records) (next_id start.records) (length bytes))
        (W.profile_is ∙ ap (λ (s : Setup). chosen s own) setup-at))));
    after_is = same;
  })
  next-second entry AuditJob same is = (let sums = is.0 in (
    sums.undecided,
    sums.counts,
    (let a = (small-sums 8 w W.sound 1 job sums (found start O kind w job W) (rw (← W.setup) at is.1)).size in
        a ∙ ap (λ s. s.n) (W.setup ∙ setup-at)),
    record {
      done = AuditStart (next_audit start.records) ∷ [];
      rest = [];
      parts = ap (λ r. AuditStart (next_audit start.records) ∷ r ∷ []) (sym is.2);
      after_is = same;
    },
  ))
  next-second entry _ same is = absurd is

  next-wrote : (entry : Record) → Writes w job kind entry → Wrote start O kind w job W entry →
      IsNext kind own start.records w.records entry
  next-wrote entry h (Wrote.first left same is) = next-first entry kind refl h same is
  next-wrote entry h (Wrote.second left same is) = next-second entry kind same is

  next-by : (entry : Record) → 0 < appends_left (setup_in w) job → Writes w job job.kind entry →
      IsNext kind own start.records w.records entry
  next-by entry left h = next-wrote entry (rw W.kind_is at h) (wrote start O kind w job W entry left h)

  -- the record that the job's append writes
  pub next-written : (entry : Record) → IsWriting w 1 entry → IsNext kind own start.records w.records entry
  next-written entry writing =
      (let same = same_value (job_of w.jobs 1) writing.job job writing.runs (found start O kind w job W) in
      next-by entry (by_action (next_action w job) refl (subst (λ (j : Job). is_move (next_action w j) ≡ true)
      same writing.moves))
      (rw same at writing.writes))
    where
      by_action : (o : Option Action) → next_action w job ≡ o → is_move o ≡ true →
          0 < appends_left (setup_in w) job
      by_action None e move = cc
      by_action (Some action) e move = before-move action e move

  -- the record in flight
  pub next-flight : (a : Append) → w.append ≡ Some a → IsNext kind own start.records w.records a.entry
  next-flight a flight = (let sound = W.sound.append a flight in
      let h = holder 8 w W.sound a flight in
      let one : h.0 ≡ job = one-found job h.0 a.job (subst (λ js. job_of js a.job ≡ Some h.0) W.jobs h.1) in
      let same : sound.job ≡ job = one-found job sound.job a.job
      (subst (λ js. job_of js a.job ≡ Some sound.job) W.jobs sound.runs) in
      let comes : next_action w job ≡ Some h.2.0 = subst
      (λ (j : Job). next_action w j ≡ Some h.2.0) one h.2.1 in
      let begun = sound.begun in
      let made = h.2.2 in
      next-by a.entry (within h.2.0 comes (omega (arith, begun, made)))
      (subst (λ (j : Job). Writes w j j.kind a.entry) same sound.writes))
