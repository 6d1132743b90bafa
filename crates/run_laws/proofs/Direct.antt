-- What each event does to the records, the record in doubt, the kinds of jobs and the bytes of object
-- numbers, told with the limits
-- that a setup passed and the event that a job came of.
use Rattle.run_laws.proofs.Words.{◌≡◌, ℕ, true, false, ◌⊎◌, List, [], ◌∷◌, ◌++◌, Option, Some, None, refl, ap, sym, subst, ◌∙◌, inl, inr, IsTrue, is_some, and_from, false≢true, some-not-none, Record, Setup, SetUp, is_setup, is_master, is_in_grammar, setup_of, PutJob, Job, job_of, with_job, without_job, advanced, Event, Step, Outcome, IsSpelled, IsSpelledKind, State, Append, Doubt, Alone, bytes_drawn}
use Rattle.machine_defs.specs.Begins.{beginning}
use Rattle.machine_defs.specs.Alone.{StepsAlone}
use Rattle.machine_defs.specs.Openings.{LeavesDoubt}
use Rattle.machine_defs.specs.Machine.{Happens}
use Rattle.machine_defs.proofs.Cases.{AreSettled, Acting, Cases, by_event}
use Rattle.machine_defs.proofs.Asides.{steps_aside}

-- a setup that a journal may hold
abbrev pub IsValid : Setup → Type 0
IsValid s = IsTrue (is_in_grammar (SetUp s))

-- the records after an event
pub data Records_are (old : State) (rs : List Record) : Type 0 where
  same : rs ≡ old.records → Records_are old rs
  appended : (a : Append) → old.append ≡ Some a → rs ≡ a.entry ∷ old.records → Records_are old rs
  settled : (d : Doubt) → old.doubt ≡ Some d → rs ≡ d.entry ∷ old.records → Records_are old rs
  set_up : (s : Setup) → IsValid s → rs ≡ SetUp s ∷ old.records → Records_are old rs
  settled_set_up : (s : Setup) (d : Doubt) → IsValid s → old.doubt ≡ Some d →
      rs ≡ SetUp s ∷ d.entry ∷ old.records → Records_are old rs

-- a record in doubt after an event
pub data Doubt_was (old : State) (d : Doubt) : Type 0 where
  kept : old.doubt ≡ Some d → Doubt_was old d
  gated : (a : Append) → old.append ≡ Some a → d.entry ≡ a.entry → Doubt_was old d
  set_up : (s : Setup) → IsValid s → d.entry ≡ SetUp s → Doubt_was old d

-- the jobs after an event
pub data Jobs_are (old : State) (js : List Job) : Type 0 where
  same : js ≡ old.jobs → Jobs_are old js
  went_on : (x j : Job) → job_of old.jobs x.number ≡ Some x → j.number ≡ x.number → j.kind ≡ x.kind →
      js ≡ with_job old.jobs j → Jobs_are old js
  ended : (n : ℕ) → js ≡ without_job old.jobs n → Jobs_are old js
  gone : js ≡ [] → Jobs_are old js
  one_more : (x : Job) → IsSpelledKind x.kind → js ≡ old.jobs ++ x ∷ [] → Jobs_are old js

-- the bytes of object numbers after an event
pub data Bytes_are (old : State) (bytes : ℕ → List ℕ) (append : Option Append) : Type 0 where
  same : bytes ≡ old.bytes → ((a : Append) → append ≡ Some a → old.append ≡ None → ⊥) →
      Bytes_are old bytes append
  drew : (x : Job) → job_of old.jobs x.number ≡ Some x → old.append ≡ None →
      ((a : Append) → append ≡ Some a → a.job ≡ x.number) →
      bytes ≡ bytes_drawn old x x.kind → Bytes_are old bytes append

pub record Direct (old new : State) : Type 0 where
  pub records : Records_are old new.records
  pub doubt : (d : Doubt) → new.doubt ≡ Some d → Doubt_was old d
  pub jobs : Jobs_are old new.jobs
  pub bytes : Bytes_are old new.bytes new.append
  pub opened : new.is_open ≡ true → (old.is_open ≡ true) ⊎ (is_some (setup_of new.records) ≡ true)

module _ (old : State) where
  -- no append is in flight now that was not before
  no_new : (a : Append) → old.append ≡ Some a → old.append ≡ None → ⊥
  no_new a = some-not-none old.append a

  -- none is in flight where one was moved on
  pub was_moved : (b : Append) → old.append ≡ Some b → (append : Option Append) (a : Append) → append ≡ Some a →
      old.append ≡ None → ⊥
  was_moved b flight append a h none = some-not-none old.append b flight none

  -- an event of no record, no draw and no setup
  still : (new : State) → new.records ≡ old.records → new.doubt ≡ old.doubt → Jobs_are old new.jobs →
      new.bytes ≡ old.bytes → (new.append ≡ old.append) ⊎ (new.append ≡ None) →
      (new.is_open ≡ old.is_open) ⊎ (new.is_open ≡ false) → Direct old new
  still new records doubt jobs bytes append is_open = record {
    records = Records_are.same records;
    doubt = λ d h. Doubt_was.kept (sym doubt ∙ h);
    jobs = jobs;
    bytes = Bytes_are.same bytes (λ a h none. elim append
        [ inl e ↦ some-not-none old.append a (sym e ∙ h) none | inr e ↦ some-not-none new.append a h e ]);
    opened = λ h. elim is_open [ inl e ↦ inl (sym e ∙ h) | inr e ↦ absurd (false≢true (sym e ∙ h)) ];
  }

  none_settled : (d : Doubt) → None ≡ Some d → Doubt_was old d
  none_settled d h = absurd (some-not-none (Some d) d refl (sym h))

  module _ (job : Job) (runs : job_of old.jobs job.number ≡ Some job) where
    in_doubt : (a : Append) → old.append ≡ Some a → (maker : Option Job) (d : Doubt) →
        Some (record { entry = a.entry; maker = maker }) ≡ Some d → Doubt_was old d
    in_doubt a flight maker d h = (let e : record { entry = a.entry; maker = maker } ≡ d = cc in
        Doubt_was.gated a flight (sym (ap (λ (x : Doubt). x.entry) e)))

    -- an append that was begun is of its job
    pub first_job : (entry : Record) (a : Append) → Some (record { job = job.number; entry = entry; moves = 1 })
        ≡ Some a → a.job ≡ job.number
    first_job entry a h = (let e : record { job = job.number; entry = entry; moves = 1 } ≡ a = cc in
        sym (ap (λ (x : Append). x.job) e))

    ends : (new : State) → new.records ≡ old.records → new.doubt ≡ old.doubt →
        new.jobs ≡ without_job old.jobs job.number → new.bytes ≡ old.bytes →
        (new.append ≡ old.append) ⊎ (new.append ≡ None) → new.is_open ≡ old.is_open → Direct old new
    ends new records doubt jobs bytes append is_open =
        still new records doubt (Jobs_are.ended job.number jobs) bytes append (inl is_open)

    calls : (y : Job) (new : State) → y.number ≡ job.number → y.kind ≡ job.kind →
        new.jobs ≡ with_job old.jobs y → new.records ≡ old.records → new.doubt ≡ old.doubt →
        new.bytes ≡ old.bytes → new.append ≡ old.append → new.is_open ≡ old.is_open → Direct old new
    calls y new number kind jobs records doubt bytes append is_open = still new records doubt
        (Jobs_are.went_on job y runs number kind jobs) bytes (inl append) (inl is_open)

    acts : Acting old job (λ r w. IsSpelled (Step job.number) → Direct old w)
    acts = record {
      begins = λ entry next none writes faults low spelled. record {
        records = Records_are.same refl;
        doubt = λ d h. Doubt_was.kept h;
        jobs = Jobs_are.went_on job _ runs refl refl refl;
        bytes = Bytes_are.drew job runs none (first_job entry) refl;
        opened = λ h. inl h;
      };
      syncs = λ a next flight mine faults low spelled. record {
        records = Records_are.same refl;
        doubt = λ d h. Doubt_was.kept h;
        jobs = Jobs_are.went_on job _ runs refl refl refl;
        bytes = Bytes_are.same refl (was_moved a flight _);
        opened = λ h. inl h;
      };
      gates = λ a next flight mine faults low spelled. record {
        records = Records_are.same refl;
        doubt = in_doubt a flight (Some (advanced job));
        jobs = Jobs_are.went_on job _ runs refl refl refl;
        bytes = Bytes_are.same refl (was_moved a flight _);
        opened = λ h. inl h;
      };
      finishes = λ a next flight mine faults low spelled. record {
        records = Records_are.appended a flight refl;
        doubt = none_settled;
        jobs = Jobs_are.went_on job _ runs refl refl refl;
        bytes = Bytes_are.same refl (was_moved a flight _);
        opened = λ h. inl h;
      };
      bars = λ action plain next mine faults low rose spelled. ends _ refl refl refl refl (inr refl) refl;
      bars_gated = λ a next flight mine faults low rose spelled. record {
        records = Records_are.same refl;
        doubt = in_doubt a flight (Some (advanced job));
        jobs = Jobs_are.ended job.number refl;
        bytes = Bytes_are.same refl (was_moved a flight _);
        opened = λ h. inl h;
      };
      begins_not = λ next none spelled. ends _ refl refl refl refl (inl refl) refl;
      gates_not = λ a next flight mine spelled. ends _ refl refl refl refl (inr refl) refl;
      stores = λ j o s p next call spelled. calls (advanced job) _ refl refl refl refl refl refl refl refl;
      stores_not = λ j o s p how next call spelled. ends _ refl refl refl refl (inl refl) refl;
      fetches = λ j o s block p next call spelled. calls _ _ refl refl refl refl refl refl refl refl;
      asks = λ j o round symbol p next call spelled. calls _ _ refl refl refl refl refl refl refl refl;
      works = λ o s symbols next gives spelled. calls _ _ refl refl refl refl refl refl refl refl;
      removes = λ j o p next call spelled. calls (advanced job) _ refl refl refl refl refl refl refl refl;
      ends = λ action how next last spelled. ends _ refl refl refl refl (inl refl) refl;
    }

  steps_alone : (x : Alone) (r : Outcome) (new : State) → StepsAlone old x r new → Direct old new
  steps_alone x r new h = (let a = steps_aside old x r new h in record {
    records = Records_are.same a.records;
    doubt = λ d g. Doubt_was.kept (sym a.doubt ∙ g);
    jobs = Jobs_are.same a.jobs;
    bytes = Bytes_are.same a.bytes (λ b g none. no_new b (sym a.append ∙ g) none);
    opened = λ g. inl (sym a.is_open ∙ g);
  })

  settled_records : (rs : List Record) → AreSettled old rs → Records_are old rs
  settled_records rs (inl e) = Records_are.same e
  settled_records rs (inr (d, at, e)) = Records_are.settled d at e

  -- all jobs are given up, and a record in doubt is settled
  gives_up : (rs : List Record) (new : State) → AreSettled old rs → new.records ≡ rs → new.doubt ≡ None →
      new.jobs ≡ [] → new.append ≡ None → new.bytes ≡ old.bytes →
      (new.is_open ≡ true → is_some (setup_of rs) ≡ true) → Direct old new
  gives_up rs new so records doubt jobs append bytes up = record {
    records = subst (Records_are old) (sym records) (settled_records rs so);
    doubt = λ d h. absurd (some-not-none new.doubt d h doubt);
    jobs = Jobs_are.gone jobs;
    bytes = Bytes_are.same bytes (λ a h none. some-not-none new.append a h append);
    opened = λ h. inr (ap (λ rs. is_some (setup_of rs)) records ∙ up h);
  }

  left_doubt : (s : Setup) (doubt : Option Doubt) → IsValid s → LeavesDoubt old s doubt → (d : Doubt) →
      doubt ≡ Some d → Doubt_was old d
  left_doubt s doubt valid (inl is) d h = Doubt_was.kept (sym is ∙ h)
  left_doubt s doubt valid (inr (none, is)) d h =
      (let e : Some (record { entry = SetUp s; maker = None }) ≡ Some d = sym is ∙ h in
      let f : record { entry = SetUp s; maker = None } ≡ d = cc in
      Doubt_was.set_up s valid (sym (ap (λ (x : Doubt). x.entry) f)))

  set_up_on : (s : Setup) (rs : List Record) → IsValid s → AreSettled old rs → Records_are old (SetUp s ∷ rs)
  set_up_on s rs valid (inl e) = Records_are.set_up s valid (ap (λ l. SetUp s ∷ l) e)
  set_up_on s rs valid (inr (d, at, e)) = Records_are.settled_set_up s d valid at (ap (λ l. SetUp s ∷ l) e)

  events : (limit moment : ℕ) → Cases limit moment old (λ e r w. IsSpelled e → Direct old w)
  events limit moment = record {
    still = λ e r h spelled. still old refl refl (Jobs_are.same refl) refl (inl refl) (inl refl);
    acts = λ job runs is_open unbarred. acts job runs;
    alone = λ number x r new at is_open unbarred h spelled. steps_alone x r new h;
    begins = λ kind is_open allowed spelled. still _ refl refl
        (Jobs_are.one_more (beginning old moment kind None) spelled refl) refl (inl refl) (inl refl);
    begins_at = λ profile name bytes is_open allowed spelled. still _ refl refl
        (Jobs_are.one_more (beginning old moment (PutJob name bytes) (Some profile)) spelled.1 refl) refl
        (inl refl) (inl refl);
    scrub = λ allowed spelled. still _ refl refl (Jobs_are.same refl) refl (inl refl) (inl refl);
    pack = λ allowed spelled. still _ refl refl (Jobs_are.same refl) refl (inl refl) (inl refl);
    stops = λ picks rs js area so spelled.
        gives_up rs _ so refl refl refl refl refl (λ h. absurd (false≢true h));
    opens = λ rs js area so up faults low spelled. gives_up rs _ so refl refl refl refl refl (λ h. up);
    opens_not = λ why rs js area so faults low spelled.
        gives_up rs _ so refl refl refl refl refl (λ h. absurd (false≢true h));
    reads_not = λ why faults low spelled. still _ refl refl (Jobs_are.gone refl) refl (inr refl) (inr refl);
    sets_up = λ s rs js good closed so none faults low spelled. record {
      records = set_up_on s rs (and_from (is_setup s) (is_master s.master) good spelled.7) so;
      doubt = none_settled;
      jobs = Jobs_are.same refl;
      bytes = Bytes_are.same refl no_new;
      opened = λ h. inl h;
    };
    sets_up_not = λ s why doubt good closed so faults low spelled. record {
      records = Records_are.same refl;
      doubt = left_doubt s doubt (and_from (is_setup s) (is_master s.master) good spelled.7) so;
      jobs = Jobs_are.same refl;
      bytes = Bytes_are.same refl no_new;
      opened = λ h. inl h;
    };
    is_set_up = λ s rs js closed so faults low spelled. record {
      records = settled_records rs so;
      doubt = none_settled;
      jobs = Jobs_are.same refl;
      bytes = Bytes_are.same refl no_new;
      opened = λ h. inl h;
    };
    replaces = λ e j IsThere changed p quiet counts call spelled.
        still _ refl refl (Jobs_are.same refl) refl (inl refl) (inl refl);
    replaces_not = λ e j IsThere changed p quiet call spelled.
        still _ refl refl (Jobs_are.same refl) refl (inl refl) (inl refl);
    continues = λ spelled. still _ refl refl (Jobs_are.gone refl) refl (inr refl) (inr refl);
  }

  -- what each event does to records, the record in doubt, kinds of jobs and bytes of object numbers
  pub direct : (limit moment : ℕ) (e : Event) (r : Outcome) (new : State) → IsSpelled e →
      Happens limit moment old e r new → Direct old new
  direct limit moment e r new spelled h =
      by_event limit moment old (λ e r w. IsSpelled e → Direct old w) (events limit moment) e r new h spelled
