-- The last step of a job: what it does to the records, to what is in doubt and to the disk's count.
use Rattle.job_laws.proofs.Words.{barred, ended, ◌≡◌, ℕ, ◌<◌, ◌≤◌, ◌==◌, ◌⊎◌, Bool, true, false, cond, Option, Some, None, refl, sym, subst, inl, inr, arith, Rose, Kind, Job, job_of, advanced, Action, WriteBody, SyncBody, WriteGate, SyncGate, actions_left, appends_left, Ended, State, Append, Doubt, setup_in, Writes, Moves, next_action, holder_of, number_of, moves_made, IsGatedDoubt, IsDoubtOf, appends-order, body-left, IsOpenAtRest, WalkedAt, runs}
use Rattle.algebra_laws.proofs.Options.{some-not-none}
use Rattle.machine_defs.specs.Answers as answer

module _ (start : State) (O : IsOpenAtRest start 1) (kind : Kind) {profile : ℕ} (w : State) (job : Job)
    (W : WalkedAt start kind profile w job) where
  -- the append in flight is the job's
  own-append : (a : Append) → w.append ≡ Some a → (a.job ≡ job.number) × Writes w job job.kind a.entry
  own-append a flight = (let A = W.sound.append a flight in let one : A.job ≡ job = only A.job a.job A.runs in
      (sym (cc (number-of A.job a.job A.runs)), (rw one at A.writes)))
    where
      only : (j : Job) (k : ℕ) → job_of w.jobs k ≡ Some j → j ≡ job
      only j k h = (first (job.number == k) cc)
        where
          first : (b : Bool) → cond b (Some job) None ≡ Some j → j ≡ job
          first true e = cc
          first false e = cc

      number-of : (j : Job) (k : ℕ) → job_of w.jobs k ≡ Some j → j.number ≡ k
      number-of j k h = number_of w.jobs k j h

  -- in an append an append is left
  mid-left : (a : Append) → w.append ≡ Some a → 0 < appends_left (setup_in w) job
  mid-left a flight = (let own = own-append a flight in let A = W.sound.append a flight in
      let m : moves_made w.append job.number ≡ a.moves = cc in appends-order (moves_made w.append job.number)
      (actions_left (setup_in w) job) (omega (arith, A.begun)) (W.sound.jobs job.number job
      (runs start O kind w job W)).order)

  -- what is in doubt before the last step: nothing, or the record that the job has written
  abbrev pub InDoubt : Option Doubt → Type 0
  InDoubt doubt = (doubt ≡ None) ⊎ ((d : Doubt) × (doubt ≡ Some d) × Writes w job job.kind d.entry)

  doubt-before : InDoubt w.doubt
  doubt-before = by_flight w.append refl (W.sound.undoubted W.opened W.unbarred)
    where
      by_flight : (flight : Option Append) → w.append ≡ flight → IsDoubtOf flight w.doubt →
          (w.doubt ≡ None) ⊎ ((d : Doubt) × (w.doubt ≡ Some d) × Writes w job job.kind d.entry)
      by_flight None e h = inl h
      by_flight (Some a) e h = by_moves (a.moves == 3) h
        where
          by_moves : (b : Bool) → IsGatedDoubt a b w.doubt →
              (w.doubt ≡ None) ⊎ ((d : Doubt) × (w.doubt ≡ Some d) × Writes w job job.kind d.entry)
          by_moves false h = inl h
          by_moves true (d, in_doubt, is) =
              inr (d, in_doubt, subst (Writes w job job.kind) (sym is) (own-append a e).1)

  -- a move that failed
  pub record Faults (new : State) : Type 0 where
    pub rose : Rose w.disk_faults new.disk_faults
    pub low : w.disk_faults ≤ new.disk_faults
    pub records : new.records ≡ w.records
    pub providers : new.providers ≡ w.providers
    pub doubt : InDoubt new.doubt
    pub left : 0 < appends_left (setup_in w) job

  -- what was in doubt before stays so
  stopped : (faults : ℕ) → w.disk_faults ≤ faults → Rose w.disk_faults faults →
      0 < appends_left (setup_in w) job → Faults (record (barred (ended w job)) { disk_faults = faults })
  stopped faults low rose left = record {
    rose = rose;
    low = low;
    records = refl;
    providers = refl;
    doubt = doubt-before;
    left = left;
  }

  -- a move that a fault of the disk ended leaves records and providers, and at most its record in doubt
  pub move-faults : (action : Action) (flight : Option Append) (new : State) → w.append ≡ flight →
      next_action w job ≡ Some action → Moves w job action flight (Ended answer.DiskFault) new → Faults new
  move-faults WriteBody flight new e next (faults, low, rose, is) = (rw (← is) at
      (stopped faults low rose (body-left 8 w W.sound job.number job (runs start O kind w job W) next)))
  move-faults SyncBody (Some a) new e next (at, (faults, low, rose, is)) =
      (rw (← is) at (stopped faults low rose (mid-left a e)))
  move-faults WriteGate (Some a) new e next (at, (faults, low, rose, is)) = subst Faults (sym is) (record {
    rose = rose;
    low = low;
    records = refl;
    providers = refl;
    doubt = inr (record { entry = a.entry; maker = Some (advanced job) }, refl, (own-append a e).1);
    left = mid-left a e;
  })
  move-faults SyncGate (Some a) new e next (at, (faults, low, rose, is)) =
      (rw (← is) at (stopped faults low rose (mid-left a e)))
  move-faults action flight new e next h = absurd h

  -- a write that found no memory
  pub record NoRoom (new : State) : Type 0 where
    pub low : w.disk_faults ≤ new.disk_faults
    pub records : new.records ≡ w.records
    pub providers : new.providers ≡ w.providers
    pub doubt : new.doubt ≡ None
    pub left : 0 < appends_left (setup_in w) job

  none-doubted : (flight : Option Append) → w.append ≡ flight →
      ((a : Append) → flight ≡ Some a → (a.moves == 3) ≡ false) → w.doubt ≡ None
  none-doubted flight e early =
      by_flight flight e early (subst (λ f. IsDoubtOf f w.doubt) e (W.sound.undoubted W.opened W.unbarred))
    where
      by_flight : (flight : Option Append) → w.append ≡ flight →
          ((a : Append) → flight ≡ Some a → (a.moves == 3) ≡ false) → IsDoubtOf flight w.doubt →
          w.doubt ≡ None
      by_flight None e early h = h
      by_flight (Some a) e early h = subst (λ b. IsGatedDoubt a b w.doubt) (early a refl) h

  -- a move that found no memory leaves records and providers, and nothing in doubt
  pub move-memory : (action : Action) (flight : Option Append) (new : State) → w.append ≡ flight →
      holder_of flight action ≡ None → next_action w job ≡ Some action →
      Moves w job action flight (Ended answer.Memory) new → NoRoom new
  move-memory WriteBody None new e free next is = subst NoRoom (sym is) (record {
    low = omega arith;
    records = refl;
    providers = refl;
    doubt = none-doubted None e (λ a h. cc);
    left = body-left 8 w W.sound job.number job (runs start O kind w job W) next;
  })
  move-memory WriteBody (Some a) new e free next h = absurd (some-not-none (Some a.job) a.job refl free)
  move-memory WriteGate (Some a) new e free next (at, is) = subst NoRoom (sym is) (record {
    low = omega arith;
    records = refl;
    providers = refl;
    doubt = none-doubted (Some a) e (λ b h. (let f : a ≡ b = cc in cc));
    left = mid-left a e;
  })
  move-memory SyncBody (Some a) new e free next h = absurd h
  move-memory SyncGate (Some a) new e free next h = absurd h
  move-memory SyncBody None new e free next h = absurd h
  move-memory SyncGate None new e free next h = absurd h
  move-memory action flight new e free next h = absurd h

  -- where no move of its append is made, no append is in flight and nothing is in doubt
  pub none-moving : moves_made w.append job.number ≡ 0 → (w.append ≡ None) × (w.doubt ≡ None)
  none-moving none = by_flight w.append refl (W.sound.undoubted W.opened W.unbarred)
    where
      by_flight : (flight : Option Append) → w.append ≡ flight → IsDoubtOf flight w.doubt →
          (w.append ≡ None) × (w.doubt ≡ None)
      by_flight None e h = (e, h)
      by_flight (Some a) e h = absurd (let own = own-append a e in let m : moves_made w.append job.number ≡
          a.moves = cc in omega (arith, (W.sound.append a e).begun))
