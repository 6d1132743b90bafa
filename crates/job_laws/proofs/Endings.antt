-- What the ends of all jobs have in common: where a job stood at its last step, what a failed move leaves,
-- and what had come about where it came to its end.
use Rattle.job_laws.proofs.Words.{◌≡◌, ℕ, ◌+◌, ◌<◌, ◌⊎◌, false, List, [], ◌∷◌, drop, Option, None, Some, refl, ap, sym, subst, ◌∙◌, inl, inr, arith, slice_get, option_map, take-append-drop, drop-get, Record, Kind, Job, Action, WriteBody, SyncBody, WriteGate, SyncGate, Store, Fetch, Ask, Work, Remove, End, actions_of, actions_left, appends_left, Answer, Ended, Entry, State, Append, Doubt, setup_in, ended, Moves, is_idle_drop, next_action, Acts, next_stands, ran_from, IsWhole, IsCut, IsCutInDoubt, moves_made, IsInOrder, appends_in, appends-cons, IsOpenAtRest, Made, appends_of, first_record, RecordsAre, with_job_at, WalkedAt, made-append, made-one, Wrote, wrote, runs, left-start}
use Rattle.machine_defs.specs.Answers as answer
use Rattle.machine_defs.specs.Steps as step
use Rattle.job_laws.proofs.Runs.{Ends}
use Rattle.job_laws.proofs.Lasts.{Faults, move-faults, NoRoom, move-memory, none-moving}
use Rattle.job_laws.proofs.Moving.{IsMove}
use Rattle.job_laws.proofs.Tails.{IsTail}
use Rattle.job_laws.proofs.Leaving.{last-call}
use Rattle.job_laws.proofs.Removals.{last-keeps}

-- ---- the last step

module _ {start new : State} {kind : Kind} {own : Option ℕ} {how : Answer} {heard : List Entry}
    (E : Ends start kind own how heard new) where
  -- the last action, but for the end, stands in the job's list
  pub listed : (action : Action) → E.action ≡ action → (action ≡ End → ⊥) →
      slice_get (actions_of (setup_in start) E.job) E.job.place ≡ Some action
  listed action at n = cc (next_stands E.before E.job action (E.next ∙ ap Some at) n)

  -- the last step leaves what a provider holds, and fetches nothing
  pub last-kept : (j : ℕ) → ((new.providers j).held ≡ (E.before.providers j).held) ×
      ((new.providers j).fetches ≡ (E.before.providers j).fetches)
  last-kept j = last-keeps E.action E.before new j (last-call E.before E.job new E.action how E.acts).0

-- answers with which a move ends a job
move-answers : (w : State) (job : Job) (new : State) (action : Action) (flight : Option Append)
    (how : Answer) → Moves w job action flight (Ended how) new →
    (how ≡ answer.DiskFault) ⊎ (how ≡ answer.Memory)
move-answers w job new WriteBody flight answer.DiskFault h = inl refl
move-answers w job new WriteBody flight answer.Memory h = inr refl
move-answers w job new SyncBody (Some a) answer.DiskFault h = inl refl
move-answers w job new WriteGate (Some a) answer.DiskFault h = inl refl
move-answers w job new WriteGate (Some a) answer.Memory h = inr refl
move-answers w job new SyncGate (Some a) answer.DiskFault h = inl refl
move-answers w job new action flight how h = absurd h

-- a move that ended a job failed at the disk, or found no memory
pub move-ends : {start new : State} {kind : Kind} {own : Option ℕ} {how : Answer} {heard : List Entry}
    (O : IsOpenAtRest start 1) (E : Ends start kind own how heard new) (Gives : Answer → Type 0)
    (action : Action) → E.action ≡ action →
    (Moves E.before E.job action E.before.append (Ended answer.DiskFault) new →
    Faults start O kind E.before E.job E.walked new → Gives answer.DiskFault) →
    (NoRoom start O kind E.before E.job E.walked new → Gives answer.Memory) →
    Moves E.before E.job action E.before.append (Ended how) new → Gives how
move-ends {start} {new} {kind} {own} {how} {heard} O E Gives action at faulted no-room h =
    elim (move-answers E.before E.job new action E.before.append how h) [
      | inl e ↦ (let failed = rw e at h in
          (rw (← e) at (faulted failed
          (move-faults start O kind E.before E.job E.walked action E.before.append new refl
          (E.next ∙ ap Some at) failed))))
      | inr e ↦ subst Gives (sym e) (no-room (move-memory start O kind E.before E.job E.walked action
          E.before.append new refl (cc) (E.next ∙ ap Some at) (rw e at h)))
    ]

-- the last step was the end, a move, a store or a work
pub act-ends : {start new : State} {kind : Kind} {own : Option ℕ} {how : Answer} {heard : List Entry}
    (E : Ends start kind own how heard new) (Gives : Answer → Type 0) →
    (E.action ≡ End → step.Ends E.before E.job kind how → new ≡ ended E.before E.job → Gives how) →
    ((action : Action) → E.action ≡ action → IsMove action → (IsTail action → ⊥) →
    Moves E.before E.job action E.before.append (Ended how) new → Gives how) →
    ((j o t : ℕ) → E.action ≡ Store j o t → Acts E.before E.job (Store j o t) (Ended how) new → Gives how) →
    ((o t : ℕ) → E.action ≡ Work o t → Acts E.before E.job (Work o t) (Ended how) new → Gives how) → Gives how
act-ends {start} {new} {kind} {own} {how} {heard} E Gives ends moved stores works = by E.action refl E.acts
  where
    by : (action : Action) → E.action ≡ action → Acts E.before E.job action (Ended how) new → Gives how
    by End at (so, is) = ends at (subst (λ kd. step.Ends E.before E.job kd how) E.walked.kind_is so) is
    by (Store j o t) at h = stores j o t at h
    by (Work o t) at h = works o t at h
    by (Fetch j o t) at h = absurd h
    by (Ask j o r) at h = absurd h
    by (Remove j o) at h = absurd h
    by action at h = moved action at tt (λ u. u) h

-- by the setup of its begin a job has as many appends left as by that of now
pub left-same : {start w : State} {kind : Kind} {profile : ℕ} {job : Job} (O : IsOpenAtRest start 1)
    (W : WalkedAt start kind profile w job) →
    appends_left (setup_in start) job ≡ appends_left (setup_in w) job
left-same {start} {w} {kind} {profile} {job} O W =
    left-start start O kind w job W (appends_left (setup_in w) job) refl

-- ---- a job that came to its end

module _ {start w : State} {kind : Kind} {profile : ℕ} {job : Job} (O : IsOpenAtRest start 1)
    (W : WalkedAt start kind profile w job) (idle : is_idle_drop w job kind ≡ false)
    (next : next_action w job ≡ Some End) where
  -- its end stands at its place
  pub end-stands : slice_get (actions_of (setup_in w) job) job.place ≡ Some End
  end-stands = cc

  order : IsInOrder (moves_made w.append job.number) (End ∷ drop (job.place + 1) (actions_of (setup_in w) job))
  order = rw (drop-get (actions_of (setup_in w) job) job.place End end-stands) at
      (W.sound.jobs job.number job (runs start O kind w job W)).order

  left : actions_left (setup_in w) job ≡ End ∷ []
  left = drop-get (actions_of (setup_in w) job) job.place End end-stands ∙ ap (λ xs. End ∷ xs) order.1

  -- it has no append left
  pub end-left : appends_left (setup_in start) job ≡ 0
  end-left = left-start start O kind w job W 0 (ap appends_in left ∙ appends-cons End [])

  -- nothing is in doubt
  pub end-sure : w.doubt ≡ None
  end-sure = (none-moving start O kind w job W order.0).1

  -- all of its list is made, up to the end, which changes nothing
  pub end-made : Made (with_job_at start kind profile job) (actions_of (setup_in start) job)
      start.providers w.providers [] job.given
  end-made = (let none : drop job.place (actions_of (setup_in start) job) ≡ End ∷ [] = rw W.setup at left in
      subst (λ xs. Made (with_job_at start kind profile job) xs start.providers w.providers [] job.given)
      (cc (take-append-drop job.place (actions_of (setup_in start) job)))
      (made-append (with_job_at start kind profile job) _ (End ∷ []) start.providers w.providers
      w.providers [] job.given job.given W.made
      (made-one (with_job_at start kind profile job) End w.providers w.providers job.given job.given
      (refl, refl))))

-- a move of its first append that failed leaves at most its first record in doubt
pub first-doubted : {start w new : State} {kind : Kind} {profile : ℕ} {job : Job} (O : IsOpenAtRest start 1)
    (W : WalkedAt start kind profile w job) (F : Faults start O kind w job W new) →
    (appends_left (setup_in w) job + 1 ≡ appends_of start kind → ⊥) →
    (option_map (λ (d : Doubt). d.entry) new.doubt ≡ None) ⊎
    (option_map (λ (d : Doubt). d.entry) new.doubt ≡ Some (first_record start kind))
first-doubted {start} {w} {new} {kind} {profile} {job} O W F early = elim F.doubt [
  | inl none ↦ inl (cc)
  | inr (d, at, writes) ↦ elim (wrote start O kind w job W d.entry F.left writes) [
    | Wrote.first l is entry ↦ inr (cc)
    | Wrote.second l is sec ↦ absurd (early l)
  ]
]

-- ---- a job that appends two records

-- where its records stand, with an append left
pub data Stand (start w : State) (kind : Kind) (job : Job) : Type 0 where
  at_first : appends_left (setup_in w) job ≡ 2 → w.records ≡ start.records → Stand start w kind job
  at_second : appends_left (setup_in w) job ≡ 1 → w.records ≡ first_record start kind ∷ start.records →
      Stand start w kind job

-- with an append left they stand so
pub two-stand : {start w : State} {kind : Kind} {profile : ℕ} {job : Job} (O : IsOpenAtRest start 1)
    (W : WalkedAt start kind profile w job) → appends_of start kind ≡ 2 →
    0 < appends_left (setup_in w) job → Stand start w kind job
two-stand {start} {w} {kind} {profile} {job} O W two some = by_records w.records refl W.records
  where
    by_records : (rs : List Record) → w.records ≡ rs → RecordsAre start kind job rs → Stand start w kind job
    by_records rs e (RecordsAre.none l is) = Stand.at_first (cc) (e ∙ is)
    by_records rs e (RecordsAre.one l is) = Stand.at_second (omega (arith, left-same O W, l, two)) (e ∙ is)
    by_records rs e (RecordsAre.two entry l sec is) = absurd (omega (arith, left-same O W, l, some, two))

-- a job cut between its records leaves those before the cut
pub two-cut : {start w : State} {kind : Kind} {profile : ℕ} {job : Job} (O : IsOpenAtRest start 1)
    (W : WalkedAt start kind profile w job) → appends_of start kind ≡ 2 → (new : State) (heard : List Entry)
    (last : Record) → 0 < appends_left (setup_in w) job → new.records ≡ w.records → new.doubt ≡ None →
    IsCut (ran_from start new heard) (first_record start kind ∷ last ∷ [])
two-cut {start} {w} {kind} {profile} {job} O W two new heard last some records none =
    elim (two-stand O W two some) [
      | Stand.at_first l is ↦ record {
        done = [];
        next = first_record start kind;
        rest = last ∷ [];
        parts = refl;
        after = records ∙ is;
        sure = cc;
      }
      | Stand.at_second l is ↦ record {
        done = first_record start kind ∷ [];
        next = last;
        rest = [];
        parts = refl;
        after = records ∙ is;
        sure = cc;
      }
    ]

-- ---- a job that appends one record

module _ {start w : State} {kind : Kind} {profile : ℕ} {job : Job} (O : IsOpenAtRest start 1)
    (W : WalkedAt start kind profile w job) (one : appends_of start kind ≡ 1) where
  -- with an append left no record is in effect yet
  pub none-written : 0 < appends_left (setup_in w) job → w.records ≡ start.records
  none-written some = by_records w.records refl W.records
    where
      by_records : (rs : List Record) → w.records ≡ rs → RecordsAre start kind job rs →
          w.records ≡ start.records
      by_records rs e (RecordsAre.none l is) = e ∙ is
      by_records rs e (RecordsAre.one l is) = absurd (omega (arith, left-same O W, l, some, one))
      by_records rs e (RecordsAre.two entry l sec is) = absurd (omega (arith, l, one))

  -- with none left its record is in effect, and it is the last one
  pub one-whole : (new : State) (heard : List Entry) → appends_left (setup_in start) job ≡ 0 →
      w.doubt ≡ None → new.records ≡ w.records → new.doubt ≡ w.doubt →
      IsWhole (ran_from start new heard) (first_record start kind ∷ [])
  one-whole new heard none sure records doubt = record {
    after = records ∙ by_records w.records refl W.records;
    sure = cc;
  }
    where
      by_records : (rs : List Record) → w.records ≡ rs → RecordsAre start kind job rs →
          w.records ≡ first_record start kind ∷ start.records
      by_records rs e (RecordsAre.none l is) = absurd (omega (arith, l, none, one))
      by_records rs e (RecordsAre.one l is) = e ∙ is
      by_records rs e (RecordsAre.two entry l sec is) = absurd (omega (arith, l, one))

  -- a move that failed leaves at most its record in doubt
  pub one-doubted : (new : State) (heard : List Entry) → Faults start O kind w job W new →
      IsCutInDoubt (ran_from start new heard) (first_record start kind ∷ [])
  one-doubted new heard F = record {
    done = [];
    next = first_record start kind;
    rest = [];
    parts = refl;
    after = F.records ∙ none-written F.left;
    doubt = first-doubted O W F (λ l. (omega (arith, l, one)));
  }

  -- a job cut before its record leaves none
  pub one-cut : (new : State) (heard : List Entry) → 0 < appends_left (setup_in w) job →
      new.records ≡ w.records → new.doubt ≡ None →
      IsCut (ran_from start new heard) (first_record start kind ∷ [])
  one-cut new heard some records none = record {
    done = [];
    next = first_record start kind;
    rest = [];
    parts = refl;
    after = records ∙ none-written some;
    sure = cc;
  }
