-- What an event may change, whatever the event is: the laws over runs are proved of this alone.
use Rattle.machine_defs.proofs.Words.{◌≡◌, ◌≤◌, false, ◌⊎◌, refl, ap, sym, subst, ◌∙◌, inl, inr, arith, option_map, Setup, SetUp, next_id, setup_of, Kind, Job, Fetched, Answered, Worked, job_of, with_job, without_job, advanced, Action, WriteBody, SyncGate, Store, Fetch, Ask, Work, Remove, Event, Outcome, State, Append, Doubt, Scrub, Alone, Scrubbing, setup_in, worked_object, blocks_given, GivesSymbols, refusal_of_begin, beginning, Writes, subject_drawn, taken_out, block_to_scrub, next_action, block_to_store, is_replacement, told_block}
use Rattle.std.proofs.Common.{ℕ, ◌+◌, ◌<◌, true, List, [], ◌∷◌, Option, Some, None}
use Rattle.machine_defs.proofs.JobLists.{found_with, found_without, found_none}

-- an action that neither draws a number nor puts a record in effect
abbrev pub IsPlain : Action → Type 0
IsPlain WriteBody = ⊥
IsPlain SyncGate = ⊥
IsPlain action = Unit {0}

-- an action that opens nothing
abbrev pub IsQuiet : Action → Type 0
IsQuiet (Work object stripe) = ⊥
IsQuiet action = Unit {0}

-- what an action gave
pub data Gave (old : State) (before : Job) (action : Action) (job : Job) : Type 0 where
  nothing : IsQuiet action → job.given ≡ before.given → Gave old before action job
  fetched : (i o s : ℕ) (block : Option (List ℕ)) → action ≡ Fetch i o s →
      job.given ≡ Fetched i o s block ∷ before.given → Gave old before action job
  answered : (i o r : ℕ) (symbol : Option ℕ) → action ≡ Ask i o r →
      job.given ≡ Answered i o r symbol ∷ before.given → Gave old before action job
  worked : (o s : ℕ) (symbols : List ℕ) → action ≡ Work o s →
      GivesSymbols (worked_object old before o) s (blocks_given before.given (setup_in old).n o s) symbols →
      job.given ≡ Worked o s symbols ∷ before.given → Gave old before action job

-- a job that has made one more action, and is the same in all that this does not touch
pub record GoesOn (old : State) (before : Job) (action : Action) (job : Job) : Type 0 where
  pub gave : Gave old before action job
  pub number : job.number ≡ before.number
  pub kind : job.kind ≡ before.kind
  pub profile : job.profile ≡ before.profile
  pub begun : job.begun ≡ before.begun
  pub pinned : job.pinned ≡ before.pinned
  pub flagged : job.flagged ≡ before.flagged
  pub subject : job.subject ≡ before.subject
  pub older : job.older ≡ before.older
  pub place : job.place ≡ before.place + 1

-- the records after an event that did not touch the job of a number: as before, or with that of another job's
-- append on top
pub data Grown (old new : State) (k : ℕ) : Type 0 where
  as_before : new.records ≡ old.records → Grown old new k
  by_other : (x : Job) (a : Append) → job_of old.jobs x.number ≡ Some x → next_action old x ≡ Some SyncGate →
      old.append ≡ Some a → a.job ≡ x.number → (x.number ≡ k → ⊥) →
      new.records ≡ a.entry ∷ old.records → Grown old new k

-- a running job after an event
pub data Job_is (limit moment : ℕ) (old new : State) (k : ℕ) (job : Job) : Type 0 where
  kept : job_of old.jobs k ≡ Some job → Grown old new k → Job_is limit moment old new k job
  begun : (kind : Kind) (profile : Option ℕ) → job ≡ beginning old moment kind profile → k ≡ old.next_job →
      refusal_of_begin limit old kind profile ≡ None →
      new.records ≡ old.records → Job_is limit moment old new k job
  plain : (before : Job) (action : Action) → job_of old.jobs k ≡ Some before →
      next_action old before ≡ Some action → IsPlain action →
      GoesOn old before action job → new.records ≡ old.records →
      ((i o s : ℕ) (b : Option (List ℕ)) → action ≡ Store i o s → told_block new i o s ≡ Some b →
      b ≡ Some (block_to_store old before before.kind i o s)) →
      Job_is limit moment old new k job
  drew : (before : Job) → job_of old.jobs k ≡ Some before → next_action old before ≡ Some WriteBody →
      old.append ≡ None → job ≡ record (advanced before) { subject = subject_drawn old before before.kind } →
      new.records ≡ old.records → Job_is limit moment old new k job
  finished : (before : Job) (a : Append) → job_of old.jobs k ≡ Some before →
      next_action old before ≡ Some SyncGate → old.append ≡ Some a → a.job ≡ k →
      job ≡ record (advanced before) { older = taken_out old before before.kind } →
      new.records ≡ a.entry ∷ old.records → new.append ≡ None → Job_is limit moment old new k job

-- the append in flight after an event
pub data Append_is (old new : State) (a : Append) : Type 0 where
  kept : (b : Append) → old.append ≡ Some b → a.job ≡ b.job → a.entry ≡ b.entry → new.records ≡ old.records →
      Append_is old new a
  drew : (before : Job) → job_of old.jobs before.number ≡ Some before →
      next_action old before ≡ Some WriteBody → a.job ≡ before.number →
      Writes old before before.kind a.entry →
      job_of new.jobs before.number
      ≡ Some (record (advanced before) { subject = subject_drawn old before before.kind }) →
      new.records ≡ old.records → Append_is old new a

-- the records in effect after an event
pub data Records_is (old new : State) : Type 0 where
  same : new.records ≡ old.records → Records_is old new
  finished : (before : Job) (a : Append) → job_of old.jobs before.number ≡ Some before →
      next_action old before ≡ Some SyncGate → old.append ≡ Some a →
      a.job ≡ before.number → a.moves ≡ 3 → new.records ≡ a.entry ∷ old.records → Records_is old new
  settled : (d : Doubt) → old.doubt ≡ Some d → new.records ≡ d.entry ∷ old.records → Records_is old new
  set_up : (s : Setup) → setup_of old.records ≡ None → new.records ≡ SetUp s ∷ old.records →
      Records_is old new
  settled_set_up : (s : Setup) (d : Doubt) → old.doubt ≡ Some d → setup_of (d.entry ∷ old.records) ≡ None →
      new.records ≡ SetUp s ∷ d.entry ∷ old.records → Records_is old new

-- a block after an event, of a provider that tells
pub data Block_is (old : State) (e : Event) (r : Outcome) (new : State) (i o s : ℕ) : Type 0 where
  same : told_block new i o s ≡ told_block old i o s → Block_is old e r new i o s
  replaced : is_replacement e r i ≡ true → Block_is old e r new i o s
  stored : (job : Job) → job_of old.jobs job.number ≡ Some job → next_action old job ≡ Some (Store i o s) →
      told_block new i o s ≡ option_map (λ held. Some (block_to_store old job job.kind i o s))
      (old.providers i).held → Block_is old e r new i o s
  scrubbed : (scrub : Scrub) (rest : List Action) → old.alone ≡ Some (Scrubbing scrub) →
      scrub.todo ≡ Store i o s ∷ rest →
      told_block new i o s ≡ option_map (λ held. Some (block_to_scrub old scrub i o s))
      (old.providers i).held → Block_is old e r new i o s
  removed : (job : Job) → job_of old.jobs job.number ≡ Some job → next_action old job ≡ Some (Remove i o) →
      Block_is old e r new i o s

-- the next job number, whether a vault is open, and the bytes of object numbers stay
pub record Rest (old new : State) : Type 0 where
  pub next : new.next_job ≡ old.next_job
  pub is_open : new.is_open ≡ old.is_open
  pub bytes : new.bytes ≡ old.bytes
  pub alone : new.alone ≡ old.alone
  pub doubt : (d : Doubt) → new.doubt ≡ Some d → (old.doubt ≡ Some d) ⊎
      ((a : Append) × (old.append ≡ Some a) × (d.entry ≡ a.entry))

-- a record in doubt after an event: it was so before, or is that of the append in flight, or a setup
pub data Doubt_is (old new : State) (d : Doubt) : Type 0 where
  kept : old.doubt ≡ Some d → new.records ≡ old.records → Doubt_is old new d
  gated : (a : Append) → old.append ≡ Some a → d.entry ≡ a.entry → new.records ≡ old.records →
      Doubt_is old new d
  set_up : (s : Setup) → d.entry ≡ SetUp s → Doubt_is old new d

-- while no vault is open, no job runs and no append is in flight
abbrev pub IsIdle : State → Type 0
IsIdle w = w.is_open ≡ false → (w.jobs ≡ []) × (w.append ≡ None)

-- after the third move of the append in flight its record is in doubt
abbrev pub IsGated : State → Type 0
IsGated w = (a : Append) → w.append ≡ Some a → a.moves ≡ 3 →
    (d : Doubt) × (w.doubt ≡ Some d) × (d.entry ≡ a.entry)

-- while something runs alone, no job runs
abbrev pub IsLone : State → Type 0
IsLone w = (x : Alone) → w.alone ≡ Some x → w.jobs ≡ []

-- what is known of every state that a run reaches
pub record IsQuietState (w : State) : Type 0 where
  pub idle : IsIdle w
  pub lone : IsLone w

-- what an event may change
pub record Changes (limit moment : ℕ) (old : State) (e : Event) (r : Outcome) (new : State) : Type 0 where
  pub job : (k : ℕ) (j : Job) → job_of new.jobs k ≡ Some j → Job_is limit moment old new k j
  pub append : (a : Append) → new.append ≡ Some a → Append_is old new a
  pub records : Records_is old new
  pub doubt : (d : Doubt) → new.doubt ≡ Some d → Doubt_is old new d
  pub numbers : ((new.jobs ≡ []) × (new.append ≡ None)) ⊎ (old.next_job ≤ new.next_job)
  pub next : (k : ℕ) (j : Job) → job_of new.jobs k ≡ Some j →
      (k < new.next_job) ⊎ (job_of old.jobs k ≡ Some j) ⊎ ((before : Job) × (job_of old.jobs k ≡ Some before))
  pub idle : IsIdle old → IsIdle new
  pub lone : IsLone old → IsLone new
  pub gated : IsGated old → IsGated new
  pub bytes : (o : ℕ) → o < next_id old.records → new.bytes o ≡ old.bytes o
  pub block : (i o s : ℕ) → Block_is old e r new i o s

module _ (limit moment : ℕ) (old : State) (e : Event) (r : Outcome) where
  -- jobs, append and records stay
  pub only_devices : (new : State) → (IsGated old → IsGated new) → new.jobs ≡ old.jobs →
      new.append ≡ old.append → new.records ≡ old.records → Rest old new →
      ((i o s : ℕ) → Block_is old e r new i o s) → Changes limit moment old e r new
  only_devices new gate jobs append records rest block = record {
    job = λ k j h. Job_is.kept (ap (λ l. job_of l k) (sym jobs) ∙ h) (Grown.as_before records);
    append = λ a h. Append_is.kept a (sym append ∙ h) refl refl records;
    records = Records_is.same records;
    doubt = λ d h. elim (rest.doubt d h)
        [ inl q ↦ Doubt_is.kept q records | inr q ↦ Doubt_is.gated q.0 q.1 q.2 records ];
    numbers = inr (omega (arith, rest.next));
    next = λ k j h. inr (inl (ap (λ l. job_of l k) (sym jobs) ∙ h));
    gated = gate;
    lone = λ f x h. jobs ∙ f x (sym rest.alone ∙ h);
    idle = λ f closed. (let p = f (sym rest.is_open ∙ closed) in (jobs ∙ p.0, append ∙ p.1));
    bytes = λ o l. ap (λ f. f o) rest.bytes;
    block = block;
  }

  -- an event may leave the state as it was
  pub unchanged : (new : State) → new ≡ old → Changes limit moment old e r new
  unchanged new is = subst (λ (w : State). Changes limit moment old e r w) (sym is)
      (only_devices old (λ g. g) refl refl refl
      (record { next = refl; is_open = refl; bytes = refl; alone = refl; doubt = λ d h. inl h })
      (λ i o s. Block_is.same refl))

  -- all jobs are given up
  pub gives_up : (new : State) → new.jobs ≡ [] → new.append ≡ None → Records_is old new →
      new.providers ≡ old.providers → new.bytes ≡ old.bytes →
      ((d : Doubt) → new.doubt ≡ Some d → Doubt_is old new d) → Changes limit moment old e r new
  gives_up new jobs append records providers bytes doubts = record {
    job = λ k j h. absurd (found_none new.jobs k j jobs h);
    append = λ a h. absurd (let f : None ≡ Some a = sym append ∙ h in cc);
    records = records;
    doubt = doubts;
    numbers = inl (jobs, append);
    next = λ k j h. absurd (found_none new.jobs k j jobs h);
    gated = (λ g a h three. absurd (let f : None ≡ Some a = sym append ∙ h in cc));
    idle = λ f closed. (jobs, append);
    lone = λ f x h. jobs;
    bytes = λ o l. ap (λ f. f o) bytes;
    block = λ i o s. Block_is.same (ap (λ p. option_map (λ held. held o s) (p i).held) providers);
  }

  -- a job ends
  pub ends : (new : State) → (IsGated old → IsGated new) → (n : ℕ) → new.jobs ≡ without_job old.jobs n →
      (new.append ≡ old.append) ⊎ (new.append ≡ None) → new.records ≡ old.records → Rest old new →
      ((i o s : ℕ) → Block_is old e r new i o s) → Changes limit moment old e r new
  ends new gate n jobs append records rest block = record {
    job = λ k j h. Job_is.kept (found_without old.jobs n k j (ap (λ l. job_of l k) (sym jobs) ∙ h)).1
        (Grown.as_before records);
    append = λ a h. elim append [
      | inl stays ↦ Append_is.kept a (sym stays ∙ h) refl refl records
      | inr none ↦ absurd (let f : None ≡ Some a = sym none ∙ h in cc)
    ];
    records = Records_is.same records;
    doubt = λ d h. elim (rest.doubt d h)
        [ inl q ↦ Doubt_is.kept q records | inr q ↦ Doubt_is.gated q.0 q.1 q.2 records ];
    numbers = inr (omega (arith, rest.next));
    next = λ k j h. inr (inl (found_without old.jobs n k j (ap (λ l. job_of l k) (sym jobs) ∙ h)).1);
    gated = gate;
    lone = λ f x h. jobs ∙ ap (λ l. without_job l n) (f x (sym rest.alone ∙ h));
    idle = λ f closed. (let p = f (sym rest.is_open ∙ closed) in
        (jobs ∙ ap (λ l. without_job l n) p.0, elim append [ inl stays ↦ stays ∙ p.1 | inr none ↦ none ]));
    bytes = λ o l. ap (λ f. f o) rest.bytes;
    block = block;
  }

  -- a job makes a plain action
  pub steps_plainly : (new : State) → (IsGated old → IsGated new) → (before job : Job) (action : Action) →
      job_of old.jobs before.number ≡ Some before → next_action old before ≡ Some action → IsPlain action →
      GoesOn old before action job →
      new.jobs ≡ with_job old.jobs job →
      ((a : Append) → new.append ≡ Some a → (b : Append) × (old.append ≡ Some b) × (a.job ≡ b.job) ×
      (a.entry ≡ b.entry)) →
      new.records ≡ old.records → Rest old new →
      ((i o s : ℕ) (b : Option (List ℕ)) → action ≡ Store i o s → told_block new i o s ≡ Some b →
      b ≡ Some (block_to_store old before before.kind i o s)) →
      ((i o s : ℕ) → Block_is old e r new i o s) → Changes limit moment old e r new
  steps_plainly new gate before job action runs next_is is_plain goes jobs append records rest stores_it block =
      record {
        job = λ k j h. elim (found_with old.jobs job k j (ap (λ l. job_of l k) (sym jobs) ∙ h)) [
          | inl p ↦ Job_is.plain before action (at k p.0) next_is is_plain
              (subst (λ (x : Job). GoesOn old before action x) (sym p.1) goes) records stores_it
          | inr q ↦ Job_is.kept q.1 (Grown.as_before records)
        ];
        append = λ a h. (let b = append a h in Append_is.kept b.0 b.1 b.2 b.3 records);
        records = Records_is.same records;
        doubt = λ d h. elim (rest.doubt d h)
            [ inl q ↦ Doubt_is.kept q records | inr q ↦ Doubt_is.gated q.0 q.1 q.2 records ];
        numbers = inr (omega (arith, rest.next));
        next = λ k j h. elim (found_with old.jobs job k j (ap (λ l. job_of l k) (sym jobs) ∙ h)) [
          | inl p ↦ inr (inr (before, at k p.0))
          | inr q ↦ inr (inl q.1)
        ];
        gated = gate;
        lone = λ f x h. absurd (found_none old.jobs before.number before (f x (sym rest.alone ∙ h)) runs);
        idle = λ f closed. (let p = f (sym rest.is_open ∙ closed) in
            absurd (found_none old.jobs before.number before p.0 runs));
        bytes = λ o l. ap (λ f. f o) rest.bytes;
        block = block;
      }
    where
      at : (k : ℕ) → k ≡ job.number → job_of old.jobs k ≡ Some before
      at k is = subst (λ n. job_of old.jobs n ≡ Some before) (sym (is ∙ goes.number)) runs
