-- A job that runs alone keeps the area, and puts the same records on top of the journal and of the history.
use Rattle.job_laws.proofs.Words.{◌≡◌, ℕ, ◌+◌, List, [], ◌∷◌, ◌++◌, Option, Some, refl, sym, subst, ◌∙◌, append_assoc, Record, Kind, Job, Action, WriteBody, SyncBody, WriteGate, SyncGate, Store, Fetch, Ask, Work, Remove, End, Answer, IsSpelledKind, Outcome, Begun, More, Ended, Entry, State, Append, setup_in, BeginsAt, chosen, beginning, Moves, Acts, Moment, now, IsOpenAtRest, AreSteps, GoesOnTo, RunsJob, MayName, WalkedAt, walk-begin, step-acts}
use Rattle.machine_defs.specs.Answers as answer
use Rattle.job_laws.proofs.Runs.{walk-steps}

-- the area stays, and the same records come on top of the journal and of the history
pub record Keeps (old new : State) : Type 0 where
  pub area : new.area ≡ old.area
  pub switch : new.is_switching ≡ old.is_switching
  pub added : List Record
  pub journal : new.journal ≡ added ++ old.journal
  pub records : new.records ≡ added ++ old.records

-- a state keeps so what it has
same : (w : State) → Keeps w w
same w = record { area = refl; switch = refl; added = []; journal = refl; records = refl }

-- so do two steps of which each keeps it
more : (u v w : State) → Keeps u v → Keeps v w → Keeps u w
more u v w a b = record {
  area = b.area ∙ a.area;
  switch = b.switch ∙ a.switch;
  added = b.added ++ a.added;
  journal = cc (append_assoc b.added a.added u.journal);
  records = cc (append_assoc b.added a.added u.records);
}

-- where the disk held the whole history, it does so again
pub keeps-whole : (old new : State) → Keeps old new → old.journal ≡ old.records → new.journal ≡ new.records
keeps-whole old new k e = cc

module _ (old : State) (job : Job) (new : State) where
  -- a step that changes none of these keeps them
  none : (w : State) → new ≡ w → w.area ≡ old.area → w.is_switching ≡ old.is_switching →
      w.journal ≡ old.journal → w.records ≡ old.records → Keeps old new
  none w is area switch journal records = record {
    area = cc;
    switch = cc;
    added = [];
    journal = cc;
    records = cc;
  }

  moves-keep : (action : Action) (flight : Option Append) (r : Outcome) → Moves old job action flight r new →
      Keeps old new
  moves-keep WriteBody flight More (entry, writes, (faults, low, is)) = none _ is refl refl refl refl
  moves-keep WriteBody flight (Ended answer.DiskFault) (faults, low, rose, is) = none _ is refl refl refl refl
  moves-keep WriteBody flight (Ended answer.Memory) is = none _ is refl refl refl refl
  moves-keep SyncBody (Some a) More (at, (faults, low, is)) = none _ is refl refl refl refl
  moves-keep SyncBody (Some a) (Ended answer.DiskFault) (at, (faults, low, rose, is)) =
      none _ is refl refl refl refl
  moves-keep WriteGate (Some a) More (at, (faults, low, is)) = none _ is refl refl refl refl
  moves-keep WriteGate (Some a) (Ended answer.DiskFault) (at, (faults, low, rose, is)) =
      none _ is refl refl refl refl
  moves-keep WriteGate (Some a) (Ended answer.Memory) (at, is) = none _ is refl refl refl refl
  moves-keep SyncGate (Some a) More (at, (faults, low, is)) = record {
    area = cc;
    switch = cc;
    added = a.entry ∷ [];
    journal = cc;
    records = cc;
  }
  moves-keep SyncGate (Some a) (Ended answer.DiskFault) (at, (faults, low, rose, is)) =
      none _ is refl refl refl refl
  moves-keep action flight r h = absurd h

  pub acts-keep : (action : Action) (r : Outcome) → Acts old job action r new → Keeps old new
  acts-keep (Store j o t) More (p, call, is) = none _ is refl refl refl refl
  acts-keep (Store j o t) (Ended (answer.ProviderFault k)) (eq, (p, call, is)) = none _ is refl refl refl refl
  acts-keep (Store j o t) (Ended answer.Memory) (p, call, is) = none _ is refl refl refl refl
  acts-keep (Fetch j o t) More (block, (p, call, is)) = none _ is refl refl refl refl
  acts-keep (Ask j o r) More (symbol, (p, call, is)) = none _ is refl refl refl refl
  acts-keep (Work o t) More (symbols, gives, is) = none _ is refl refl refl refl
  acts-keep (Work o t) (Ended (answer.Lost s row)) (eq, loses, is) = none _ is refl refl refl refl
  acts-keep (Remove j o) More (p, call, is) = none _ is refl refl refl refl
  acts-keep End (Ended how) (so, is) = none _ is refl refl refl refl
  acts-keep action r h = moves-keep action old.append r h

module _ (start : State) (O : IsOpenAtRest start 1) (kind : Kind) (own : Option ℕ) where
  -- steps that all go on keep the area, and add the same records
  steps-keep : (w : State) (job : Job) (moment : ℕ) (ms : List Moment) →
      WalkedAt start kind (chosen (setup_in start) own) w job → AreSteps w moment 1 ms → Keeps w (now w ms)
  steps-keep w job moment [] W h = same w
  steps-keep w job moment (m ∷ ms) W (event, outcome, happens, rest) =
      (let r = walk-steps start w kind (chosen (setup_in start) own) job moment ms O W rest in
      let a = step-acts start O kind (now w ms) r.0 r.1 More m.state (λ n e. cc) happens in
      more w (now w ms) m.state (steps-keep w job moment ms W rest) (acts-keep (now w ms) r.0 m.state a.0 More
      a.3))

  -- so does its begin
  begun-keeps : (moment number : ℕ) (begun : State) → BeginsAt 8 moment start kind own (Begun number) begun →
      Keeps start begun
  begun-keeps moment number begun b = subst (Keeps start) (sym b.3) (record {
    area = refl;
    switch = refl;
    added = [];
    journal = refl;
    records = refl;
  })

  -- so does a job that makes some steps of its run
  pub part-keeps : (moment number : ℕ) (begun : State) (job : Job) (ms : List Moment) →
      BeginsAt 8 moment start kind own (Begun number) begun →
      WalkedAt start kind (chosen (setup_in start) own) begun job →
      AreSteps begun (moment + 1) 1 ms → Keeps start (now begun ms)
  part-keeps moment number begun job ms b W h = more start begun (now begun ms)
      (begun-keeps moment number begun b) (steps-keep begun job (moment + 1) ms W h)

  -- so does a job that runs alone
  pub runs-keep : (new : State) (moment : ℕ) (how : Answer) (heard : List Entry) → IsSpelledKind kind →
      MayName kind own → RunsJob start moment kind own how heard new → Keeps start new
  runs-keep new moment how heard spelled named r =
      (let b = walk-begin moment r.job start r.begun kind own named O spelled r.begins in
      let g : GoesOnTo r.begun (moment + 1) 1 how heard new =
      subst (λ n. GoesOnTo r.begun (moment + 1) n how heard new) b.0 r.goes_on in
      let last = walk-steps start r.begun kind (chosen (setup_in start) own) (beginning start moment kind own)
      (moment + 1) g.steps O b.1 g.are_steps in
      let a = step-acts start O kind (now r.begun g.steps) last.0 last.1 (Ended how) new (λ n e. cc) g.ends in
      more start (now r.begun g.steps) new (part-keeps moment r.job r.begun (beginning start moment kind own)
      g.steps r.begins b.1 g.are_steps) (acts-keep (now r.begun g.steps) last.0 new a.0 (Ended how) a.3))
