-- A job that runs alone: its begin, and each of its steps that goes on.
use Rattle.std.proofs.Common.{◌≡◌, ℕ, ◌+◌, ◌<◌, ◌≤◌, ◌==◌, ◌⊎◌, ◌||◌, Bool, false, cond, List, [], ◌∷◌, ◌++◌, length, take, Option, Some, None, refl, ap, sym, subst, ◌∙◌, inl, inr, arith}
use Rattle.std.specs.Prelude.{slice_get}
use Rattle.std.specs.List.{list_any}
use Rattle.std.proofs.lemmas.Bool.{cases_lt, cases_eq, eq-eqb}
use Rattle.algebra_laws.proofs.Options.{some-not-none}
use Rattle.column_defs.specs.Objects.{Object}
use Rattle.column_defs.specs.Challenges.{honest_answer}
use Rattle.column_defs.specs.Columns.{columns, column_of_symbols}
use Rattle.column_defs.specs.Opened.{GivesSymbols}
use Rattle.column_defs.specs.Verdicts.{Sums}
use Rattle.record_defs.specs.Records.{Setup, Record, PutStart, AuditStart, AuditDone, RepairDone}
use Rattle.record_defs.specs.Table.{File, version_of, next_id, next_audit, file_of}
use Rattle.device_defs.specs.Providers.{Provider}
use Rattle.device_defs.specs.ProviderCalls.{Stores, Fetches, Asks}
use Rattle.machine_defs.specs.Jobs.{Kind, PutJob, GetJob, DropJob, AuditJob, RepairJob, UpgradeJob, Pinned, Given, Fetched, Answered, Worked, Job, job_of, with_job, advanced}
use Rattle.machine_defs.specs.Setups.{profiled, object_of}
use Rattle.machine_defs.specs.Actions.{Action, WriteBody, SyncBody, WriteGate, SyncGate, Store, Fetch, Ask, Work, Remove, End, append_actions, ends_append, actions_of, appends_left}
use Rattle.machine_defs.specs.Audits.{challenge_in, asked_challenge, HasSums}
use Rattle.machine_defs.specs.Given.{blocks_given, symbols_given, pinned_size, pinned_profile}
use Rattle.machine_defs.specs.Answers as answer
use Rattle.machine_defs.specs.Events.{Step, Begun, More, Ended, Waiting, IsSpelledKind, Outcome}
use Rattle.machine_defs.specs.States.{State, Append, Doubt, Alone, worked_object, setup_in, file_in, with_provider, going_on}
use Rattle.machine_defs.specs.Begins.{BeginsAt, pinned_for, chosen, beginning}
use Rattle.machine_defs.specs.Appends.{Writes, done_record, is_pinned, removable, taken_out, subject_drawn, is_first_append, begun_append, done_append, Moves}
use Rattle.machine_defs.specs.Steps.{block_to_store, next_action, holder_of, Acts, ActsOrWaits, StepsOn, StepsJob, StepsOne, StepsOpen, Steps}
use Rattle.machine_defs.specs.Machine.{Happens}
use Rattle.machine_defs.proofs.JobLists.{cond_true, cond_false, same_value, found_none}
use Rattle.machine_defs.proofs.Numbers.{next_by, next_is_by, first_above, first_below, drawn_later}
use Rattle.machine_defs.proofs.PinFacts.{setup_same}
use Rattle.machine_defs.proofs.NextActions.{next_stands}
use Rattle.state_laws.specs.Sound.{IsSound}
use Rattle.state_laws.proofs.Orders.{gates, body-within, put_rest, audit_rest, put-list, audit-list, put-first, put-later, audit-first, audit-later, drop-first, repair-first, upgrade-first}
use Rattle.state_laws.proofs.Records.{setup-more}
use Rattle.state_laws.proofs.Written.{body-left}
use Rattle.state_laws.proofs.Moves.{body-order}
use Rattle.state_laws.proofs.Gates.{decided}
use Rattle.state_laws.proofs.Done.{done-writes, one-less}
use Rattle.state_laws.proofs.Rooms.{put-writes_first, put-writes_later, audit-writes_first, audit-writes_later}
use Rattle.state_laws.proofs.Going.{onward, actions-onward, count-onward}
use Rattle.state_laws.proofs.Begun.{begun-job}
use Rattle.state_laws.proofs.Resting.{rest-sound}
use Rattle.state_laws.proofs.Events.{events-sound}
use Rattle.lone_laws.specs.Made.{object_made, block_stored, challenge_made, Did, Made}
use Rattle.opening_defs.specs.Opened.{IsOpenAtRest}
use Rattle.lone_laws.specs.Walked.{MayName, appends_of, first_record, IsSecondRecord, HasSubject, RecordsAre, with_job_at, TakesAway, WalkedAt}
use Rattle.lone_laws.proofs.Lists.{take-more, made-append, made-one}
use Rattle.lone_laws.proofs.Prefixes.{same-front, appends-whole, audit-over}

-- ---- the begin

-- a state just opened is sound
pub opened-sound : (start : State) → IsOpenAtRest start 1 → IsSound 8 start
opened-sound start O = rest-sound 8 start O.rest

-- only a put names a profile
only-put : (kind : Kind) (own : Option ℕ) → MayName kind own → (p : ℕ) → own ≡ Some p →
    (name : List ℕ) × (bytes : List ℕ) × (kind ≡ PutJob name bytes)
only-put kind own (MayName.none none) p e = absurd (let f : None ≡ Some p = sym none ∙ e in cc)
only-put kind own (MayName.put name bytes is) p e = (name, bytes, is)

-- a job that begins in a state just opened is job 1, and stands at its begin; a put may name a profile
pub walk-begin : (moment number : ℕ) (start new : State) (kind : Kind) (wish : Option ℕ) → MayName kind wish →
    IsOpenAtRest start 1 → IsSpelledKind kind → BeginsAt 8 moment start kind wish (Begun number) new →
    (number ≡ 1) × WalkedAt start kind (chosen (setup_in start) wish) new (beginning start moment kind wish)
walk-begin moment number start new kind wish named O spelled (opened, allowed, is_number, is) = (
  is_number ∙ O.next,
  subst (λ (w : State). WalkedAt start kind (chosen (setup_in start) wish) w
      (beginning start moment kind wish)) (sym is) (record {
        sound = begun-job 8 moment start (opened-sound start O) kind wish (only-put kind wish named) opened
            allowed spelled (omega arith, omega arith);
        opened = opened;
        unbarred = O.rest.idle.2;
        setup = setup_same (record start {
          jobs = start.jobs ++ beginning start moment kind wish ∷ [];
          next_job = start.next_job + 1;
        }) start refl;
        jobs = ap (λ (js : List Job). js ++ beginning start moment kind wish ∷ []) O.rest.idle.0;
        number = O.next;
        kind_is = refl;
        profile_is = refl;
        pinned = refl;
        flagged = refl;
        subject = subject kind;
        older = older kind;
        records = RecordsAre.none (appends-whole start (beginning start moment kind wish) kind refl refl)
            refl;
        made = (refl, refl);
        handed = refl;
        disk = omega arith;
      }),
)
  where
    subject : (kd : Kind) → HasSubject start kd (beginning start moment kd wish)
    subject (PutJob name bytes) = λ l. absurd (omega (arith, l))
    subject (GetJob name) = tt
    subject (DropJob name) = tt
    subject AuditJob = λ l. absurd (omega (arith, l))
    subject RepairJob = refl
    subject UpgradeJob = tt

    older : (kd : Kind) → TakesAway start kd (beginning start moment kd wish)
    older (PutJob name bytes) =
        λ none. absurd (let e = appends-whole start (beginning start moment (PutJob name bytes) wish)
        (PutJob name bytes) refl refl in omega (arith, none, e))
    older (GetJob name) = tt
    older (DropJob name) = λ none. absurd (let e = appends-whole start
        (beginning start moment (DropJob name) wish) (DropJob name) refl refl in omega (arith, none, e))
    older AuditJob = tt
    older RepairJob = tt
    older UpgradeJob = tt

-- ---- steps

module _ (start : State) (O : IsOpenAtRest start 1) (kind : Kind) {profile : ℕ} (w : State) (job : Job)
    (W : WalkedAt start kind profile w job) where
  -- the job runs
  pub runs : job_of w.jobs job.number ≡ Some job
  runs = ap (λ js. job_of js job.number) W.jobs
      ∙ cond_true (job.number == job.number) (Some job) None (eq-eqb job.number job.number refl)

  -- the job is the one of number 1
  pub found : job_of w.jobs 1 ≡ Some job
  found = subst (λ n. job_of w.jobs n ≡ Some job) W.number runs

  -- nothing else runs
  pub none-alone : w.alone ≡ None
  none-alone = by w.alone refl
    where
      by : (o : Option Alone) → w.alone ≡ o → o ≡ None
      by None e = refl
      by (Some x) e = absurd (found_none w.jobs 1 job (W.sound.lone x e) found)

  -- what a step of it may come to
  pub step-acts : (r : Outcome) (new : State) → ((holder : ℕ) → r ≡ Waiting holder → ⊥) →
      Steps w 1 w.is_open r new → (action : Action) × (next_action w job ≡ Some action) ×
      (holder_of w.append action ≡ None) × Acts w job action r new
  step-acts r new not_waiting h = on (next_action w job) refl (subst (λ (o : Option Job). StepsJob w o r new)
      found (subst (λ (o : Option Alone). StepsOne w 1 o r new) none-alone
      (subst (λ b. StepsOpen w 1 b r new) W.unbarred (subst (λ b. Steps w 1 b r new) W.opened h))))
    where
      waits : (action : Action) (holder : Option ℕ) (r : Outcome) → ((n : ℕ) → r ≡ Waiting n → ⊥) →
          next_action w job ≡ Some action → holder_of w.append action ≡ holder →
          ActsOrWaits w job action holder r new →
          (a : Action) × (next_action w job ≡ Some a) × (holder_of w.append a ≡ None) × Acts w job a r new
      waits action None r n e f h = (action, e, f, h)
      waits action (Some k) (Waiting m) n e f h = absurd (n m refl)
      waits action (Some k) r n e f h = absurd h

      on : (o : Option Action) → next_action w job ≡ o → StepsOn w job o r new →
          (action : Action) × (next_action w job ≡ Some action) × (holder_of w.append action ≡ None) ×
          Acts w job action r new
      on None e h = absurd h
      on (Some action) e h = waits action (holder_of w.append action) r not_waiting e refl h

  -- a put or an audit at its start makes the first move of its append
  pub first-body : (action : Action) → next_action w job ≡ Some action → (action ≡ WriteBody → ⊥) →
      (kd : Kind) → kind ≡ kd → ((name bytes : List ℕ) → kd ≡ PutJob name bytes → 1 ≤ job.place) ×
      (kd ≡ AuditJob → 1 ≤ job.place)
  first-body action next n kd e = (
    λ name bytes put. elim (cases_eq job.place 0) [
      | inl zero_place ↦ absurd (n (same_value (next_action w job) action WriteBody next
          (next_is_by w job ∙ (ap (λ k. next_by w job k job.place) (W.kind_is ∙ (e ∙ put))
          ∙ ap (next_by w job (PutJob name bytes)) zero_place))))
      | inr far ↦ omega (arith, far)
    ],
    λ audit. elim (cases_eq job.place 0) [
      | inl zero_place ↦ absurd (n (same_value (next_action w job) action WriteBody next
          (next_is_by w job ∙ (ap (λ k. next_by w job k job.place) (W.kind_is ∙ (e ∙ audit))
          ∙ ap (next_by w job AuditJob) zero_place))))
      | inr far ↦ omega (arith, far)
    ],
  )

  walked-next : (new : State) (next : Job) → IsSound 8 new → new.is_open ≡ w.is_open →
      new.is_barred ≡ w.is_barred → setup_in new ≡ setup_in w → new.jobs ≡ with_job w.jobs next →
      next.number ≡ job.number → next.kind ≡ job.kind → next.profile ≡ job.profile →
      next.pinned ≡ job.pinned → next.flagged ≡ job.flagged → HasSubject start kind next →
      TakesAway start kind next → RecordsAre start kind next new.records →
      Made (with_job_at start kind profile next) (take next.place (actions_of (setup_in start) next))
      start.providers new.providers [] next.given → new.handed ≡ w.handed → w.disk_faults ≤ new.disk_faults →
      WalkedAt start kind profile new next
  walked-next new next sound opened barred setup jobs number kd profile_is pinned flagged subject older records made handed disk =
      record {
        sound = sound;
        opened = opened ∙ W.opened;
        unbarred = barred ∙ W.unbarred;
        setup = setup ∙ W.setup;
        jobs = jobs ∙ (ap (λ js. with_job js next) W.jobs
            ∙ cond_true (job.number == next.number) (next ∷ []) (job ∷ [])
            (eq-eqb job.number next.number (sym number)));
        number = number ∙ W.number;
        kind_is = kd ∙ W.kind_is;
        profile_is = profile_is ∙ W.profile_is;
        pinned = pinned ∙ W.pinned;
        flagged = flagged ∙ W.flagged;
        subject = subject;
        older = older;
        records = records;
        made = made;
        handed = handed ∙ W.handed;
        disk = (let a = W.disk in omega (arith, a, disk));
      }

  -- the actions made, with one more
  made-on : (action : Action) (next : Job) (given : List Given) (providers : ℕ → Provider) →
      next_action w job ≡ Some action → (action ≡ End → ⊥) → next.place ≡ job.place + 1 →
      next.subject ≡ job.subject →
      take (job.place + 1) (actions_of (setup_in start) next)
      ≡ take (job.place + 1) (actions_of (setup_in start) job) →
      Did (with_job_at start kind profile job) action w.providers providers job.given given →
      Made (with_job_at start kind profile next) (take next.place (actions_of (setup_in start) next))
      start.providers providers [] given
  made-on action next given providers is not_end place subject front did =
      (let listed : slice_get (actions_of (setup_in start) job) job.place ≡ Some action =
      subst (λ (s : Setup). slice_get (actions_of s job) job.place ≡ Some action) W.setup
      (next_stands w job action is not_end) in
      subst (λ n. Made (record {
        setup = setup_in start;
        kind = kind;
        profile = profile;
        subject = n;
        pinned = pinned_for start kind;
      }) (take next.place (actions_of (setup_in start) next))
      start.providers providers [] given) (sym subject)
      (subst (λ xs. Made (with_job_at start kind profile job) xs start.providers providers [] given)
      (sym (ap (λ n. take n (actions_of (setup_in start) next)) place
      ∙ (front ∙ take-more (actions_of (setup_in start) job) job.place action listed)))
      (made-append (with_job_at start kind profile job) (take job.place (actions_of (setup_in start) job))
      (action ∷ []) start.providers w.providers providers [] job.given given W.made
      (made-one (with_job_at start kind profile job) action w.providers providers job.given given did))))

  -- ---- actions that put no record in effect and draw no number

  module _ (action : Action) (given : List Given) (next : next_action w job ≡ Some action)
      (not_end : action ≡ End → ⊥) (not_body : action ≡ WriteBody → ⊥)
      (plain : ends_append action ≡ false) where
    abbrev later : Job
    later = onward job job.subject given

    count-same : appends_left (setup_in start) later ≡ appends_left (setup_in start) job
    count-same = (let a = subst (λ (s : Setup). appends_left s job ≡ gates action + appends_left s later)
        W.setup (count-onward w job given action next not_end) in
        let b : gates action ≡ 0 = cond_false (ends_append action) 1 0 plain in omega (arith, a, b))

    on-subject : (kd : Kind) → kind ≡ kd → HasSubject start kd job → HasSubject start kd later
    on-subject (PutJob name bytes) e h =
        λ l. h ((first-body action next not_body (PutJob name bytes) e).0 name bytes refl)
    on-subject (GetJob name) e h = tt
    on-subject (DropJob name) e h = tt
    on-subject AuditJob e h = λ l. h ((first-body action next not_body AuditJob e).1 refl)
    on-subject RepairJob e h = h
    on-subject UpgradeJob e h = tt

    on-older : (kd : Kind) → TakesAway start kd job → TakesAway start kd later
    on-older (PutJob name bytes) h = λ none. h (sym count-same ∙ none)
    on-older (GetJob name) h = tt
    on-older (DropJob name) h = λ none. h (sym count-same ∙ none)
    on-older AuditJob h = tt
    on-older RepairJob h = tt
    on-older UpgradeJob h = tt

    on-second : (kd : Kind) (entry : Record) → kind ≡ kd →
        appends_left (setup_in start) job + 2 ≡ appends_of start kd → IsSecondRecord start job kd entry →
        IsSecondRecord start later kd entry
    on-second (PutJob name bytes) entry e left h = h
    on-second (GetJob name) entry e left h = h
    on-second (DropJob name) entry e left h = h
    on-second AuditJob entry e left h = absurd (audit-over w job action (W.kind_is ∙ e)
        (ap (λ (s : Setup). appends_left s job) W.setup ∙ (omega (arith, left))) next not_end)
    on-second RepairJob entry e left h = h
    on-second UpgradeJob entry e left h = h

    on-records : (rs : List Record) → RecordsAre start kind job rs → RecordsAre start kind later rs
    on-records rs (RecordsAre.none left is) = RecordsAre.none (count-same ∙ left) is
    on-records rs (RecordsAre.one left is) = RecordsAre.one (ap (λ n. n + 1) count-same ∙ left) is
    on-records rs (RecordsAre.two entry left second is) =
        RecordsAre.two entry (ap (λ n. n + 2) count-same ∙ left) (on-second kind entry refl left second) is

    on-walk : (flight : Option Append) (doubt : Option Doubt) (providers : ℕ → Provider) (faults : ℕ) →
        w.disk_faults ≤ faults →
        Did (with_job_at start kind profile job) action w.providers providers job.given given →
        IsSound 8 (record (going_on w later) {
          append = flight;
          doubt = doubt;
          providers = providers;
          disk_faults = faults;
        }) →
        WalkedAt start kind profile
        (record (going_on w later) {
          append = flight;
          doubt = doubt;
          providers = providers;
          disk_faults = faults;
        }) later
    on-walk flight doubt providers faults low did sound = walked-next (record (going_on w later) {
      append = flight;
      doubt = doubt;
      providers = providers;
      disk_faults = faults;
    }) later sound refl refl
        (setup_same (record (going_on w later) {
          append = flight;
          doubt = doubt;
          providers = providers;
          disk_faults = faults;
        }) w refl) refl refl refl refl refl refl
        (on-subject kind refl W.subject) (on-older kind W.older) (on-records w.records W.records)
        (made-on action later given providers next not_end refl refl
        (ap (take (job.place + 1)) (actions-onward (setup_in start) job given)) did) refl low

  -- ---- the records of the job

  -- by the setup of its begin the job has as many appends left as by that of now
  pub left-start : (left : ℕ) → appends_left (setup_in w) job ≡ left →
      appends_left (setup_in start) job ≡ left
  left-start left e = subst (λ (s : Setup). appends_left s job ≡ left) W.setup e

  -- the record that the job writes, by how many of its records are in effect
  pub data Wrote (entry : Record) : Type 0 where
    first : appends_left (setup_in w) job ≡ appends_of start kind → w.records ≡ start.records →
        entry ≡ first_record start kind → Wrote entry
    second : appends_left (setup_in w) job + 1 ≡ appends_of start kind →
        w.records ≡ first_record start kind ∷ start.records → IsSecondRecord start job kind entry →
        Wrote entry

  all-left : (kd : Kind) (k : ℕ) → kind ≡ kd → appends_of start kd ≡ k → appends_left (setup_in w) job ≡ k →
      w.records ≡ start.records
  all-left kd k e count left = records-by w.records W.records
    where
      total : appends_of start kind ≡ k
      total = ap (appends_of start) e ∙ count

      records-by : (rs : List Record) → RecordsAre start kind job rs → rs ≡ start.records
      records-by rs (RecordsAre.none l is) = is
      records-by rs (RecordsAre.one l is) = absurd (let f = left-start k left in omega (arith, f, l, total))
      records-by rs (RecordsAre.two entry l sec is) =
          absurd (let f = left-start k left in omega (arith, f, l, total))

  one-left : (kd : Kind) (k : ℕ) → kind ≡ kd → appends_of start kd ≡ k + 1 →
      appends_left (setup_in w) job ≡ k → w.records ≡ first_record start kind ∷ start.records
  one-left kd k e count left = records-by w.records W.records
    where
      total : appends_of start kind ≡ k + 1
      total = ap (appends_of start) e ∙ count

      records-by : (rs : List Record) → RecordsAre start kind job rs →
          rs ≡ first_record start kind ∷ start.records
      records-by rs (RecordsAre.none l is) = absurd (let f = left-start k left in omega (arith, f, l, total))
      records-by rs (RecordsAre.one l is) = is
      records-by rs (RecordsAre.two entry l sec is) =
          absurd (let f = left-start k left in omega (arith, f, l, total))

  -- a job that works on its second append has a number
  placed : (kd : Kind) → kind ≡ kd → HasSubject start kd job → 4 ≤ job.place →
      ((name bytes : List ℕ) → kd ≡ PutJob name bytes → job.subject ≡ next_id start.records) ×
      (kd ≡ AuditJob → job.subject ≡ next_audit start.records)
  placed (PutJob name bytes) e h l =
      (λ n b f. h (omega (arith, l)), λ f. absurd (let g : PutJob name bytes ≡ AuditJob = f in cc))
  placed AuditJob e h l =
      (λ n b f. absurd (let g : AuditJob ≡ PutJob n b = f in cc), λ f. h (omega (arith, l)))
  placed (GetJob name) e h l = (
    λ n b f. absurd (let g : GetJob name ≡ PutJob n b = f in cc),
    λ f. absurd (let g : GetJob name ≡ AuditJob = f in cc),
  )
  placed (DropJob name) e h l = (
    λ n b f. absurd (let g : DropJob name ≡ PutJob n b = f in cc),
    λ f. absurd (let g : DropJob name ≡ AuditJob = f in cc),
  )
  placed RepairJob e h l = (
    λ n b f. absurd (let g : RepairJob ≡ PutJob n b = f in cc),
    λ f. absurd (let g : RepairJob ≡ AuditJob = f in cc),
  )
  placed UpgradeJob e h l = (
    λ n b f. absurd (let g : UpgradeJob ≡ PutJob n b = f in cc),
    λ f. absurd (let g : UpgradeJob ≡ AuditJob = f in cc),
  )

  -- the record that the job writes is its first one or its second one
  pub wrote : (entry : Record) → 0 < appends_left (setup_in w) job → Writes w job job.kind entry → Wrote entry
  wrote entry left h = by_kind kind refl (subst (λ kd. Writes w job kd entry) W.kind_is h)
    where
      by_kind : (kd : Kind) → kind ≡ kd → Writes w job kd entry → Wrote entry
      by_kind (PutJob name bytes) e h = elim (cases_lt job.place 4) [
        | inl l ↦ (let c = put-first (setup_in w) job name bytes (W.kind_is ∙ e) l in
            let same = all-left (PutJob name bytes) 2 e refl c in
            Wrote.first (c ∙ sym (ap (appends_of start) e)) same
            (put-writes_first w job name bytes entry l h
            ∙ (ap (λ rs. PutStart (next_id rs) name) same ∙ sym (ap (first_record start) e))))
        | inr l ↦ (let c : appends_left (setup_in w) job ≡ 1 =
            (let b = put-later (setup_in w) job name bytes (W.kind_is ∙ e) l in omega (arith, b, left)) in
            Wrote.second (ap (λ n. n + 1) c ∙ sym (ap (appends_of start) e))
            (one-left (PutJob name bytes) 1 e refl c)
            (subst (λ kd. IsSecondRecord start job kd entry) (sym e)
            (put-writes_later w job name bytes entry l h
            ∙ (ap (λ v. done_record v job.subject (length bytes) job.profile)
            (ap version_of (one-left (PutJob name bytes) 1 e refl c)
            ∙ ap (λ kd. version_of (first_record start kd ∷ start.records)) e)
            ∙ ap (λ n. done_record (version_of start.records) n (length bytes) job.profile)
            ((placed (PutJob name bytes) e (subst (λ kd. HasSubject start kd job) e W.subject) l).0 name bytes
            refl)))))
      ]
      by_kind (GetJob name) e h = absurd h
      by_kind (DropJob name) e h = (let c : appends_left (setup_in w) job ≡ 1
          = (let b = drop-first (setup_in w) job name (W.kind_is ∙ e) in omega (arith, b, left)) in
          Wrote.first (c ∙ sym (ap (appends_of start) e)) (all-left (DropJob name) 1 e refl c)
          (h ∙ sym (ap (first_record start) e)))
      by_kind AuditJob e h = elim (cases_lt job.place 4) [
        | inl l ↦ (let c = audit-first (setup_in w) job (W.kind_is ∙ e) l in
            let same = all-left AuditJob 2 e refl c in
            Wrote.first (c ∙ sym (ap (appends_of start) e)) same
            (audit-writes_first w job entry l h
            ∙ (ap (λ rs. AuditStart (next_audit rs)) same ∙ sym (ap (first_record start) e))))
        | inr l ↦ (let c : appends_left (setup_in w) job ≡ 1 =
            (let b = audit-later (setup_in w) job (W.kind_is ∙ e) l in omega (arith, b, left)) in
            let wr = audit-writes_later w job entry l h in
            let n : job.subject ≡ next_audit start.records =
            (placed AuditJob e (subst (λ kd. HasSubject start kd job) e W.subject) l).1 refl in
            let sums : Sums = wr.0 in
            Wrote.second (ap (λ k. k + 1) c ∙ sym (ap (appends_of start) e)) (one-left AuditJob 1 e refl c)
            (subst (λ kd. IsSecondRecord start job kd entry) (sym e) (
              sums,
              subst (λ (s : Setup). HasSums s job sums) W.setup wr.1,
              wr.2
                  ∙ ap (λ k. AuditDone k sums.undecided sums.counts) n,
            )))
      ]
      by_kind RepairJob e h = (let c : appends_left (setup_in w) job ≡ 1
          = (let b = repair-first (setup_in w) job (W.kind_is ∙ e) in omega (arith, b, left)) in
          Wrote.first (c ∙ sym (ap (appends_of start) e)) (all-left RepairJob 1 e refl c)
          (h ∙ (ap RepairDone (subst (λ kd. HasSubject start kd job) e W.subject)
          ∙ sym (ap (first_record start) e))))
      by_kind UpgradeJob e h = (let c : appends_left (setup_in w) job ≡ 1
          = (let b = upgrade-first (setup_in w) job (W.kind_is ∙ e) in omega (arith, b, left)) in
          Wrote.first (c ∙ sym (ap (appends_of start) e)) (all-left UpgradeJob 1 e refl c)
          (h ∙ sym (ap (first_record start) e)))

  -- ---- the first move of an append

  removable-same : (f : Option File) → ((id : ℕ) → is_pinned w id ≡ is_pinned start id) →
      removable w f ≡ removable start f
  removable-same None h = refl
  removable-same (Some f) h = ap (λ b. cond b [] (f.id ∷ [])) (h f.id)

  -- a job that pins nothing leaves nothing pinned
  none-pinned : pinned_for start kind ≡ [] → (id : ℕ) → is_pinned w id ≡ is_pinned start id
  none-pinned none id = ap (λ (js : List Job). pinned_by js) W.jobs
      ∙ (ap (λ ps. list_any (λ (f : Pinned). f.id == id) ps || false) (W.pinned ∙ none)
      ∙ sym (ap (λ (js : List Job). pinned_by js) O.rest.idle.0))
    where
      pinned_by : List Job → Bool
      pinned_by js = list_any (λ (j : Job). list_any (λ (f : Pinned). f.id == id) j.pinned) js

  -- a job with an append left has not two records in effect
  few-appends : (kd : Kind) → appends_of start kd ≤ 2
  few-appends (PutJob name bytes) = omega arith
  few-appends (GetJob name) = omega arith
  few-appends (DropJob name) = omega arith
  few-appends AuditJob = omega arith
  few-appends RepairJob = omega arith
  few-appends UpgradeJob = omega arith

  module _ (next : next_action w job ≡ Some WriteBody) where
    abbrev drawn : Job
    drawn = onward job (subject_drawn w job job.kind) job.given

    body-count : appends_left (setup_in start) drawn ≡ appends_left (setup_in start) job
    body-count = subst (λ (s : Setup). appends_left s drawn ≡ appends_left s job) W.setup
        (body-order 8 w W.sound job runs next).1

    body-some : 0 < appends_left (setup_in w) job
    body-some = body-left 8 w W.sound job.number job runs next

    drawn-kind : (kd : Kind) → kind ≡ kd → subject_drawn w job job.kind ≡ subject_drawn w job kd
    drawn-kind kd e = ap (subject_drawn w job) (W.kind_is ∙ e)

    drawn-later : 4 ≤ job.place → subject_drawn w job job.kind ≡ job.subject
    drawn-later l = drawn_later w job job.kind (first_above job l)

    body-subject : (kd : Kind) → kind ≡ kd → HasSubject start kd job → HasSubject start kd drawn
    body-subject (PutJob name bytes) e h = λ p. elim (cases_lt job.place 4) [
      | inl l ↦ drawn-kind (PutJob name bytes) e
          ∙ (cond_true (is_first_append job) (next_id w.records) job.subject (first_below job l)
          ∙ ap next_id (all-left (PutJob name bytes) 2 e refl
          (put-first (setup_in w) job name bytes (W.kind_is ∙ e) l)))
      | inr l ↦ drawn-later l ∙ h (omega (arith, l))
    ]
    body-subject (GetJob name) e h = tt
    body-subject (DropJob name) e h = tt
    body-subject AuditJob e h = λ p. elim (cases_lt job.place 4) [
      | inl l ↦ drawn-kind AuditJob e
          ∙ (cond_true (is_first_append job) (next_audit w.records) job.subject (first_below job l)
          ∙ ap next_audit (all-left AuditJob 2 e refl (audit-first (setup_in w) job (W.kind_is ∙ e) l)))
      | inr l ↦ drawn-later l ∙ h (omega (arith, l))
    ]
    body-subject RepairJob e h = drawn-kind RepairJob e ∙ h
    body-subject UpgradeJob e h = tt

    body-older : (kd : Kind) → TakesAway start kd job → TakesAway start kd drawn
    body-older (PutJob name bytes) h = λ none. h (sym body-count ∙ none)
    body-older (GetJob name) h = tt
    body-older (DropJob name) h = λ none. h (sym body-count ∙ none)
    body-older AuditJob h = tt
    body-older RepairJob h = tt
    body-older UpgradeJob h = tt

    body-records : (rs : List Record) → RecordsAre start kind job rs → RecordsAre start kind drawn rs
    body-records rs (RecordsAre.none left is) = RecordsAre.none (body-count ∙ left) is
    body-records rs (RecordsAre.one left is) = RecordsAre.one (ap (λ n. n + 1) body-count ∙ left) is
    body-records rs (RecordsAre.two entry left sec is) =
        absurd (let a = few-appends kind in let b = left-start (appends_left (setup_in w) job) refl in
        let c = body-some in omega (arith, left, a, b, c))

    -- a job that draws no number, or has it already
    same-drawn : subject_drawn w job job.kind ≡ job.subject →
        Made (with_job_at start kind profile drawn) (take drawn.place (actions_of (setup_in start) drawn))
        start.providers w.providers [] job.given
    same-drawn e = made-on WriteBody drawn job.given w.providers next (λ f. cc) refl e
        (ap (λ n. take (job.place + 1) (actions_of (setup_in start) (onward job n job.given))) e
        ∙ ap (take (job.place + 1)) (actions-onward (setup_in start) job job.given)) (refl, refl)

    -- the first action of all
    first-drawn : (rest : List Action) → actions_of (setup_in start) drawn ≡ append_actions ++ rest →
        job.place ≡ 0 → Made (with_job_at start kind profile drawn)
        (take drawn.place (actions_of (setup_in start) drawn)) start.providers w.providers [] job.given
    first-drawn rest list zero_place = (let before : Made (with_job_at start kind profile job) []
        start.providers w.providers [] job.given = subst (λ p. Made (with_job_at start kind profile job)
        (take p (actions_of (setup_in start) job)) start.providers w.providers [] job.given) zero_place W.made
        in subst (λ xs. Made (with_job_at start kind profile drawn) xs start.providers w.providers []
        job.given) (sym (ap (λ n. take n (actions_of (setup_in start) drawn))
        (let f : job.place + 1 ≡ 1 = omega (arith, zero_place) in f) ∙ ap (take 1) list))
        (w.providers, job.given, before, (refl, refl)))

    body-made : (kd : Kind) → kind ≡ kd →
        Made (with_job_at start kind profile drawn) (take drawn.place (actions_of (setup_in start) drawn))
        start.providers w.providers [] job.given
    body-made (PutJob name bytes) e = elim (cases_lt job.place 4) [
      | inl l ↦ first-drawn (put_rest (setup_in start) drawn bytes) (put-list (setup_in start) drawn name
          bytes (W.kind_is ∙ e)) (body-within (put_rest (setup_in w) job bytes) job.place l
          (ap (λ xs. slice_get xs job.place) (sym (put-list (setup_in w) job name bytes (W.kind_is ∙ e)))
          ∙ next_stands w job WriteBody next (λ f. cc)))
      | inr l ↦ same-drawn (drawn-later l)
    ]
    body-made (GetJob name) e = same-drawn (drawn-kind (GetJob name) e)
    body-made (DropJob name) e = same-drawn (drawn-kind (DropJob name) e)
    body-made AuditJob e = elim (cases_lt job.place 4) [
      | inl l ↦ first-drawn (audit_rest (setup_in start) drawn) (audit-list (setup_in start) drawn
          (W.kind_is ∙ e)) (body-within (audit_rest (setup_in w) job) job.place l
          (ap (λ xs. slice_get xs job.place) (sym (audit-list (setup_in w) job (W.kind_is ∙ e)))
          ∙ next_stands w job WriteBody next (λ f. cc)))
      | inr l ↦ same-drawn (drawn-later l)
    ]
    body-made RepairJob e = same-drawn (drawn-kind RepairJob e)
    body-made UpgradeJob e = same-drawn (drawn-kind UpgradeJob e)

    body-walk : (entry : Record) (faults : ℕ) → w.disk_faults ≤ faults →
        IsSound 8 (record (begun_append w job entry) { disk_faults = faults }) →
        WalkedAt start kind profile (record (begun_append w job entry) { disk_faults = faults }) drawn
    body-walk entry faults low sound =
        walked-next (record (begun_append w job entry) { disk_faults = faults }) drawn sound refl refl
        (setup_same (record (begun_append w job entry) { disk_faults = faults }) w refl) refl refl refl refl
        refl refl (body-subject kind refl W.subject) (body-older kind W.older)
        (body-records w.records W.records) (body-made kind refl) refl low

  -- ---- the fourth move of an append

  module _ (next : next_action w job ≡ Some SyncGate) (a : Append) (flight : w.append ≡ Some a)
      (own : a.job ≡ job.number) (three : a.moves ≡ 3) where
    abbrev taken : List ℕ
    taken = taken_out w job job.kind

    abbrev done : Job
    done = decided job taken

    gate-less : appends_left (setup_in start) job ≡ 1 + appends_left (setup_in start) done
    gate-less = subst (λ (s : Setup). appends_left s job ≡ 1 + appends_left s done) W.setup
        (one-less 8 w W.sound job runs next a flight own three)

    gate-wrote : Wrote a.entry
    gate-wrote = wrote a.entry (let b = gate-less in
        let c = left-start (appends_left (setup_in w) job) refl in omega (arith, b, c))
        (done-writes 8 w W.sound job runs next a flight own three)

    gate-records : Wrote a.entry → RecordsAre start kind done (a.entry ∷ w.records)
    gate-records (Wrote.first left same is) = (let l = left-start (appends_of start kind) left in
        RecordsAre.one (let b = gate-less in omega (arith, b, l))
        (ap (λ rs. a.entry ∷ rs) same ∙ ap (λ (r : Record). r ∷ start.records) is))
    gate-records (Wrote.second left same is) = (let l = left-start (appends_left (setup_in w) job) refl in
        RecordsAre.two a.entry (let b = gate-less in omega (arith, b, l, left)) (on-done kind is)
        (ap (λ rs. a.entry ∷ rs) same))
      where
        on-done : (kd : Kind) → IsSecondRecord start job kd a.entry → IsSecondRecord start done kd a.entry
        on-done (PutJob name bytes) h = h
        on-done (GetJob name) h = h
        on-done (DropJob name) h = h
        on-done AuditJob h = h
        on-done RepairJob h = h
        on-done UpgradeJob h = h

    gate-subject : (kd : Kind) → kind ≡ kd → HasSubject start kd job → HasSubject start kd done
    gate-subject (PutJob name bytes) e h =
        λ l. h ((first-body SyncGate next (λ f. cc) (PutJob name bytes) e).0 name bytes refl)
    gate-subject (GetJob name) e h = tt
    gate-subject (DropJob name) e h = tt
    gate-subject AuditJob e h = λ l. h ((first-body SyncGate next (λ f. cc) AuditJob e).1 refl)
    gate-subject RepairJob e h = h
    gate-subject UpgradeJob e h = tt

    -- the file that the name has is that of the begin
    same-file : (name : List ℕ) → (w.records ≡ start.records) ⊎
        ((r : Record) × (w.records ≡ r ∷ start.records) ×
        (file_of (r ∷ start.records) name ≡ file_of start.records name)) →
        file_in w name ≡ file_in start name
    same-file name (inl e) = ap (λ rs. file_of rs name) e
    same-file name (inr (r, e, f)) = ap (λ rs. file_of rs name) e ∙ f

    gate-older : (kd : Kind) → kind ≡ kd → TakesAway start kd done
    gate-older (PutJob name bytes) e = λ none. (let one : appends_left (setup_in w) job ≡ 1
        = (let b = gate-less in let c = left-start (appends_left (setup_in w) job) refl in
        omega (arith, b, c, none)) in
        let far : 4 ≤ job.place = (elim (cases_lt job.place 4) [
          | inl l ↦ absurd (let c = put-first (setup_in w) job name bytes (W.kind_is ∙ e) l in
              omega (arith, c, one))
          | inr l ↦ l
        ]) in
        ap (taken_out w job) (W.kind_is ∙ e)
        ∙ (cond_false (is_first_append job) [] (removable w (file_in w name)) (first_above job far)
        ∙ (removable-same (file_in w name) (none-pinned (ap (pinned_for start) e))
        ∙ ap (removable start)
        (same-file name (inr (
          PutStart (next_id start.records) name,
          one-left (PutJob name bytes) 1 e refl one
              ∙ ap (λ kd. first_record start kd ∷ start.records) e,
          refl,
        ))))))
    gate-older (GetJob name) e = tt
    gate-older (DropJob name) e = λ none. (let one : appends_left (setup_in w) job ≡ 1
        = (let b = gate-less in let c = left-start (appends_left (setup_in w) job) refl in
        omega (arith, b, c, none)) in
        ap (taken_out w job) (W.kind_is ∙ e)
        ∙ (removable-same (file_in w name) (none-pinned (ap (pinned_for start) e))
        ∙ ap (removable start) (same-file name (inl (all-left (DropJob name) 1 e refl one)))))
    gate-older AuditJob e = tt
    gate-older RepairJob e = tt
    gate-older UpgradeJob e = tt

    gate-front : take (job.place + 1) (actions_of (setup_in start) done)
        ≡ take (job.place + 1) (actions_of (setup_in start) job)
    gate-front = subst (λ (s : Setup). take (job.place + 1) (actions_of s done) ≡ take (job.place + 1)
        (actions_of s job)) W.setup (same-front w job taken next job.kind refl no-get first-older-same)
      where
        no-get : (name : List ℕ) → job.kind ≡ GetJob name → ⊥
        no-get name e = (let h : Writes w job (GetJob name) a.entry = subst (λ kd. Writes w job kd a.entry) e
            (done-writes 8 w W.sound job runs next a flight own three) in h)

        first-older-same : (name bytes : List ℕ) → job.kind ≡ PutJob name bytes → job.place < 4 →
            taken ≡ job.older
        first-older-same name bytes e l = ap (taken_out w job) e
            ∙ (cond_true (is_first_append job) [] (removable w (file_in w name)) (first_below job l)
            ∙ sym ((W.sound.jobs job.number job runs).undecided
            (let c = put-first (setup_in w) job name bytes e l in omega (arith, c))))

    gate-walk : (faults : ℕ) → w.disk_faults ≤ faults →
        IsSound 8 (record (done_append w job a) { disk_faults = faults }) →
        WalkedAt start kind profile (record (done_append w job a) { disk_faults = faults }) done
    gate-walk faults low sound = walked-next (record (done_append w job a) { disk_faults = faults }) done
        sound refl refl (setup_same (record (done_append w job a) { disk_faults = faults }) w
        (setup-more a.entry w.records (W.sound.set_up W.opened) (W.sound.append a flight).follows.accepted))
        refl refl refl refl refl refl (gate-subject kind refl W.subject) (gate-older kind refl)
        (gate-records gate-wrote) (made-on SyncGate done job.given w.providers next (λ f. cc) refl refl
        gate-front (refl, refl)) refl low

  -- ---- what each action did

  object-made : (object : ℕ) → worked_object w job object
      ≡ object_made (with_job_at start kind profile job) object
  object-made object = ap
      (λ (s : Setup). object_of (profiled s (pinned_profile s.profile job.pinned object)) object) W.setup
      ∙ ap (λ ps. object_of (profiled (setup_in start) (pinned_profile (setup_in start).profile ps object))
      object) W.pinned

  block-same : (kd : Kind) (j object stripe : ℕ) →
      block_to_store w job kd j object stripe ≡ block_stored
      (with_job_at start kind profile job) kd job.given j object stripe
  block-same (PutJob name bytes) j object stripe =
      ap (λ (s : Setup). columns (object_of (profiled s job.profile) object) bytes j stripe) W.setup
      ∙ ap (λ p. columns (object_of (profiled (setup_in start) p) object) bytes j stripe) W.profile_is
  block-same (GetJob name) j object stripe =
      ap (λ o. column_of_symbols o (symbols_given job.given object stripe) j stripe) (object-made object)
  block-same (DropJob name) j object stripe =
      ap (λ o. column_of_symbols o (symbols_given job.given object stripe) j stripe) (object-made object)
  block-same AuditJob j object stripe =
      ap (λ o. column_of_symbols o (symbols_given job.given object stripe) j stripe) (object-made object)
  block-same RepairJob j object stripe =
      ap (λ o. column_of_symbols o (symbols_given job.given object stripe) j stripe) (object-made object)
  block-same UpgradeJob j object stripe =
      ap (λ o. column_of_symbols o (symbols_given job.given object stripe) j stripe) (object-made object)

  block-stored : (j object stripe : ℕ) → block_to_store w job job.kind j object stripe
      ≡ block_stored (with_job_at start kind profile job) kind job.given j object stripe
  block-stored j object stripe =
      ap (λ kd. block_to_store w job kd j object stripe) W.kind_is ∙ block-same kind j object stripe

  challenge-made : (object round : ℕ) → asked_challenge (setup_in w) job object round
      ≡ challenge_made (with_job_at start kind profile job) object round
  challenge-made object round = ap (λ (s : Setup). asked_challenge s job object round) W.setup
      ∙ ap (λ ps. challenge_in (profiled (setup_in start) (pinned_profile (setup_in start).profile ps object))
      job object (pinned_size ps object) round) W.pinned

  -- a step that goes on
  abbrev GoesOn : State → Type 0
  GoesOn new = (next : Job) × WalkedAt start kind profile new next

  called : (action : Action) (given : List Given) (providers : ℕ → Provider) (new : State) →
      next_action w job ≡ Some action → (action ≡ End → ⊥) → (action ≡ WriteBody → ⊥) →
      ends_append action ≡ false →
      Did (with_job_at start kind profile job) action w.providers providers job.given given → IsSound 8 new →
      new ≡ record (going_on w (onward job job.subject given)) { providers = providers } → GoesOn new
  called action given providers new next n m plain did sound is = (
    onward job job.subject given,
    subst (λ v. WalkedAt start kind profile v (onward job job.subject given)) (sym is)
        (on-walk action given next n m plain w.append w.doubt providers w.disk_faults (omega arith) did
        (subst (IsSound 8) is sound)),
  )

  moved-on : (action : Action) (flight : Option Append) (doubt : Option Doubt) (faults : ℕ) (new : State) →
      next_action w job ≡ Some action → (action ≡ End → ⊥) → (action ≡ WriteBody → ⊥) →
      ends_append action ≡ false →
      Did (with_job_at start kind profile job) action w.providers w.providers job.given job.given →
      w.disk_faults ≤ faults → IsSound 8 new →
      new ≡ record (going_on w (onward job job.subject job.given))
      { append = flight; doubt = doubt; disk_faults = faults } → GoesOn new
  moved-on action flight doubt faults new next n m plain did low sound is = (
    onward job job.subject job.given,
    subst (λ v. WalkedAt start kind profile v (onward job job.subject job.given)) (sym is)
        (on-walk action job.given next n m plain flight doubt w.providers faults low did
        (subst (IsSound 8) is sound)),
  )

  moves-walk : (action : Action) (flight : Option Append) (new : State) → w.append ≡ flight →
      next_action w job ≡ Some action → holder_of flight action ≡ None → Moves w job action flight More new →
      IsSound 8 new → GoesOn new
  moves-walk WriteBody None new flight next free (entry, writes, (faults, low, is)) sound = (
    onward job (subject_drawn w job job.kind) job.given,
    subst (λ v. WalkedAt start kind profile v (onward job (subject_drawn w job job.kind) job.given))
        (sym is) (body-walk next entry faults low (subst (IsSound 8) is sound)),
  )
  moves-walk WriteBody (Some a) new flight next free h sound =
      absurd (some-not-none (Some a.job) a.job refl free)
  moves-walk SyncBody (Some a) new flight next free (at, (faults, low, is)) sound =
      moved-on SyncBody (Some (record a { moves = a.moves + 1 })) w.doubt faults new next (λ e. cc)
      (λ e. cc) refl (refl, refl) low sound is
  moves-walk WriteGate (Some a) new flight next free (at, (faults, low, is)) sound =
      moved-on WriteGate (Some (record a { moves = a.moves + 1 }))
      (Some (record { entry = a.entry; maker = Some (advanced job) })) faults new next (λ e. cc)
      (λ e. cc) refl (refl, refl) low sound is
  moves-walk SyncGate (Some a) new flight next free (at, (faults, low, is)) sound = (
    decided job (taken_out w job job.kind),
    subst (λ v. WalkedAt start kind profile v (decided job (taken_out w job job.kind))) (sym is)
        (gate-walk next a flight at.0 at.1 faults low (subst (IsSound 8) is sound)),
  )
  moves-walk action flight new e next free h sound = absurd h

  acts-walk : (action : Action) (new : State) → next_action w job ≡ Some action →
      holder_of w.append action ≡ None → Acts w job action More new → IsSound 8 new → GoesOn new
  acts-walk (Store j object stripe) new next free (p, call, is) sound = called (Store j object stripe)
      job.given (with_provider w.providers j p) new next (λ e. cc) (λ e. cc) refl (
        (p, subst (λ b. Stores object stripe b (w.providers j) p) (block-stored j object stripe) call, refl),
        refl,
      ) sound is
  acts-walk (Fetch j object stripe) new next free (block, (p, call, is)) sound =
      called (Fetch j object stripe) (Fetched j object stripe block ∷ job.given)
      (with_provider w.providers j p) new next (λ e. cc) (λ e. cc) refl (
        block,
        (
          p,
          subst (λ (o : Object). Fetches o.profile.size object stripe (w.providers j) block p)
              (object-made object) call,
          refl,
        ),
        refl,
      ) sound is
  acts-walk (Ask j object round) new next free (symbol, (p, call, is)) sound =
      called (Ask j object round) (Answered j object round symbol ∷ job.given)
      (with_provider w.providers j p) new next (λ e. cc) (λ e. cc) refl (
        symbol,
        (
          p,
          subst (λ c. Asks (honest_answer c) object (w.providers j) symbol p)
              (challenge-made object round) call,
          refl,
        ),
        refl,
      ) sound is
  acts-walk (Work object stripe) new next free (symbols, gives, is) sound = called (Work object stripe)
      (Worked object stripe symbols ∷ job.given) w.providers new next (λ e. cc) (λ e. cc) refl (
        symbols,
        subst (λ (s : Setup). GivesSymbols (object_made (with_job_at start kind profile job) object) stripe
            (blocks_given job.given s.n object stripe) symbols) W.setup
            (subst (λ (o : Object). GivesSymbols o stripe
            (blocks_given job.given (setup_in w).n object stripe) symbols) (object-made object) gives),
        refl,
        refl,
      ) sound is
  acts-walk (Remove j object) new next free (p, call, is) sound = called (Remove j object) job.given
      (with_provider w.providers j p) new next (λ e. cc) (λ e. cc) refl ((p, call, refl), refl) sound is
  acts-walk action new next free h sound = moves-walk action w.append new refl next free h sound

  -- a step that goes on leaves the job further on its walk
  pub walk-step : (moment : ℕ) (new : State) → Happens 8 moment w (Step 1) More new → GoesOn new
  walk-step moment new h =
      (let a = step-acts More new (λ n e. absurd (let f : More ≡ Waiting n = e in cc)) h in
      acts-walk a.0 new a.1 a.2 a.3
      (events-sound 8 moment w W.sound (omega arith, omega arith) (Step 1) More new (omega arith) h))

  -- a step that ends the job made, or failed at, its next action
  pub walk-last : (moment : ℕ) (new : State) (how : answer.Answer) →
      Happens 8 moment w (Step 1) (Ended how) new → (action : Action) × (next_action w job ≡ Some action) ×
      (holder_of w.append action ≡ None) × Acts w job action (Ended how) new
  walk-last moment new how h =
      (let a = step-acts (Ended how) new (λ n e. absurd (let f : Ended how ≡ Waiting n = e in cc)) h in
      (a.0, a.1, a.2, a.3))
