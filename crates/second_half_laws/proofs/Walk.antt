-- What each event does to the jobs that run, and to what is in doubt.
use Rattle.second_half_laws.proofs.Words.{true, refl, ap, sym, subst, ◌∙◌, inl, inr, eq-eqb, is_some-none, GivesSymbols, Setup, SetUp, setup_of, Provider, Asks, honest_answer, Kind, PutJob, Job, Given, Fetched, Answered, Worked, job_of, with_job, without_job, advanced, advanced_with, Action, WriteBody, SyncBody, WriteGate, SyncGate, Store, Fetch, Ask, Work, Remove, Event, Init, Begin, BeginAt, BeginScrub, BeginPack, Step, Stop, Reopen, Continue, Outcome, Ready, Refused, Opened, Begun, More, Ended, Replaced, NothingHeld, Stopped, Continued, State, Append, Doubt, worked_object, setup_in, with_provider, going_on, beginning, blocks_given, asked_challenge, subject_drawn, taken_out, next_action, holder_of, LeavesDoubt, Happens, steps_aside, IsLone, cond_true, found_with, found_without, found_more, found_none, IsHeldThen, IsStill, Acting, Cases, by_event, IsAnsweredThen}
use Rattle.std.proofs.Common.{◌≡◌, ℕ, ◌+◌, ◌==◌, false, List, [], ◌∷◌, ◌++◌, Option, Some, None}
use Rattle.machine_defs.specs.Refusals as refusal
use Rattle.machine_defs.specs.Answers as answer
use Rattle.second_half_laws.proofs.GetEnds.{none_beside}
use Rattle.second_half_laws.proofs.Origin.{found_by}

-- what an action gave
abbrev pub IsGift : State → Job → State → Action → Given → Type 0
IsGift old x new (Fetch i o s) gift =
    (block : Option (List ℕ)) × (gift ≡ Fetched i o s block) × IsHeldThen old new x.pinned i o s block
IsGift old x new (Ask i o r) gift =
    (symbol : Option ℕ) × (gift ≡ Answered i o r symbol) × IsAnsweredThen old x old new i o r symbol
IsGift old x new (Work o s) gift = (symbols : List ℕ) × (gift ≡ Worked o s symbols) × GivesSymbols
    (worked_object old x o) s (blocks_given x.given (setup_in old).n o s) symbols
IsGift old x new action gift = ⊥

-- an action that gives nothing, draws nothing and puts no record in effect
abbrev pub IsSilent : Action → Type 0
IsSilent SyncBody = Unit {0}
IsSilent WriteGate = Unit {0}
IsSilent (Store i o s) = Unit {0}
IsSilent (Remove i o) = Unit {0}
IsSilent action = ⊥

-- a job that has made an action
pub data Passed (old : State) (x : Job) (action : Action) (new : State) (j : Job) : Type 0 where
  silent : IsSilent action → j ≡ advanced x → new.records ≡ old.records → Passed old x action new j
  gave : (gift : Given) → IsGift old x new action gift → j ≡ advanced_with x gift →
      new.records ≡ old.records → Passed old x action new j
  drew : action ≡ WriteBody → j ≡ record (advanced x) { subject = subject_drawn old x x.kind } →
      new.records ≡ old.records → Passed old x action new j
  finished : (a : Append) → action ≡ SyncGate → old.append ≡ Some a → a.job ≡ x.number →
      j ≡ record (advanced x) { older = taken_out old x x.kind } →
      new.records ≡ a.entry ∷ old.records → Passed old x action new j

-- a job made an action in this event, and went on
pub record Goes (old : State) (e : Event) (r : Outcome) (new : State) (k : ℕ) (x : Job) (action : Action)
    (j : Job) : Type 0 where
  pub number : x.number ≡ k
  pub event : e ≡ Step k
  pub outcome : r ≡ More
  pub is_open : old.is_open ≡ true
  pub unbarred : old.is_barred ≡ false
  pub none_alone : old.alone ≡ None
  pub runs : job_of old.jobs k ≡ Some x
  pub next : next_action old x ≡ Some action
  pub unheld : holder_of old.append action ≡ None
  pub passed : Passed old x action new j

-- a job that runs after an event
pub data Went (moment : ℕ) (old : State) (e : Event) (r : Outcome) (new : State) (k : ℕ)
    (j : Job) : Type 0 where
  kept : job_of old.jobs k ≡ Some j → (e ≡ Step k → r ≡ More → ⊥) → Went moment old e r new k j
  begun : (kind : Kind) (wish : Option ℕ) → j ≡ beginning old moment kind wish → k ≡ old.next_job →
      new.records ≡ old.records → Went moment old e r new k j
  went : (x : Job) (action : Action) → Goes old e r new k x action j → Went moment old e r new k j

-- what is in doubt after an event
pub data Doubted (old new : State) (d : Doubt) : Type 0 where
  kept : old.doubt ≡ Some d → new.records ≡ old.records → Doubted old new d
  gated : (x : Job) (a : Append) → job_of old.jobs x.number ≡ Some x → next_action old x ≡ Some WriteGate →
      old.append ≡ Some a → a.job ≡ x.number → d ≡ record { entry = a.entry; maker = Some (advanced x) } →
      new.records ≡ old.records → Doubted old new d
  set_up : (s : Setup) → d ≡ record { entry = SetUp s; maker = None } → setup_of new.records ≡ None →
      Doubted old new d

pub record Walked (moment : ℕ) (old : State) (e : Event) (r : Outcome) (new : State) : Type 0 where
  pub job : (k : ℕ) (j : Job) → job_of new.jobs k ≡ Some j → Went moment old e r new k j
  pub doubt : (d : Doubt) → new.doubt ≡ Some d → Doubted old new d

-- an action that begins no append
abbrev IsNoBody : Action → Type 0
IsNoBody WriteBody = ⊥
IsNoBody action = Unit {0}

-- only the begin of an append waits for another one
unheld : (flight : Option Append) (action : Action) → IsNoBody action → holder_of flight action ≡ None
unheld (Some a) WriteBody h = absurd h
unheld flight action h = refl

none_now : (d : Doubt) → None ≡ Some d → ⊥
none_now d h = cc

module _ (moment : ℕ) (old : State) (e : Event) (r : Outcome) where
  same_jobs : (new : State) → ((k : ℕ) → e ≡ Step k → r ≡ More → ⊥) → new.jobs ≡ old.jobs →
      ((d : Doubt) → new.doubt ≡ Some d → Doubted old new d) → Walked moment old e r new
  same_jobs new apart jobs doubt =
      record { job = λ k j h. Went.kept (cc) (apart k); doubt = doubt }

  no_jobs : (new : State) → new.jobs ≡ [] → ((d : Doubt) → new.doubt ≡ Some d → Doubted old new d) →
      Walked moment old e r new
  no_jobs new jobs doubt = record { job = λ k j h. absurd (found_none new.jobs k j jobs h); doubt = doubt }

  apart : IsStill e r → (k : ℕ) → e ≡ Step k → r ≡ More → ⊥
  apart still k is more = rw is at (subst (IsStill e) more still)

  ends : (new : State) → ((k : ℕ) → e ≡ Step k → r ≡ More → ⊥) → (n : ℕ) → new.jobs ≡ without_job old.jobs n →
      ((d : Doubt) → new.doubt ≡ Some d → Doubted old new d) → Walked moment old e r new
  ends new apart n jobs doubt =
      record {
        job = λ k j h. Went.kept (found_without old.jobs n k j (cc)).1 (apart k);
        doubt = doubt;
      }

module _ (moment : ℕ) (old : State) where
  module _ (job : Job) (runs : job_of old.jobs job.number ≡ Some job) (is_open : old.is_open ≡ true)
      (unbarred : old.is_barred ≡ false) (none_alone : old.alone ≡ None) where
    abbrev Result : Outcome → State → Type 0
    Result r new = Walked moment old (Step job.number) r new

    stay : (new : State) → new.doubt ≡ old.doubt → new.records ≡ old.records → (d : Doubt) →
        new.doubt ≡ Some d → Doubted old new d
    stay new doubt records d h = Doubted.kept (sym doubt ∙ h) records

    not_more : (r : Outcome) → (r ≡ More → ⊥) → (k : ℕ) → Step job.number ≡ Step k → r ≡ More → ⊥
    not_more r apart k e m = apart m

    ended_not : (how : answer.Answer) → Ended how ≡ More → ⊥
    ended_not how e = cc

    ends_so : (how : answer.Answer) (new : State) → new.jobs ≡ without_job old.jobs job.number →
        ((d : Doubt) → new.doubt ≡ Some d → Doubted old new d) → Result (Ended how) new
    ends_so how new jobs doubt = ends moment old (Step job.number) (Ended how) new
        (not_more (Ended how) (ended_not how)) job.number jobs doubt

    goes_on : (action : Action) (y : Job) (new : State) → next_action old job ≡ Some action →
        holder_of old.append action ≡ None → y.number ≡ job.number → new.jobs ≡ with_job old.jobs y →
        Passed old job action new y → ((d : Doubt) → new.doubt ≡ Some d → Doubted old new d) → Result More new
    goes_on action y new next_is free number jobs passed doubt = record {
      job = λ k j h. elim (found_with old.jobs y k j (cc)) [
        | inl p ↦ (let at = sym (p.0 ∙ number) in Went.went job action (record {
          number = at;
          event = ap Step at;
          outcome = refl;
          is_open = is_open;
          unbarred = unbarred;
          none_alone = none_alone;
          runs = cc;
          next = next_is;
          unheld = free;
          passed = rw (← p.1) at passed;
        }))
        | inr q ↦ Went.kept q.1 (λ same m. q.0 (cc))
      ];
      doubt = doubt;
    }
      where
        step_is : {k : ℕ} → Step job.number ≡ Step k → k ≡ job.number
        step_is e = cc

    in_doubt : (a : Append) (new : State) → next_action old job ≡ Some WriteGate → old.append ≡ Some a →
        a.job ≡ job.number → new.records ≡ old.records →
        new.doubt ≡ Some (record { entry = a.entry; maker = Some (advanced job) }) → (d : Doubt) →
        new.doubt ≡ Some d → Doubted old new d
    in_doubt a new next_is at mine records doubt d h = (let f = sym doubt ∙ h in
        Doubted.gated job a runs next_is at mine (sym cc) records)

    abbrev called : Job → ℕ → Provider → State
    called y j p = record (going_on old y) { providers = with_provider old.providers j p }

    -- what a call of a provider gave
    answered_by : (j o round : ℕ) (symbol : Option ℕ) (p : Provider) (new : State) →
        Asks (honest_answer (asked_challenge (setup_in old) job o round)) o (old.providers j) symbol p →
        new.providers ≡ with_provider old.providers j p → IsAnsweredThen old job old new j o round symbol
    answered_by j o round symbol p new call providers = elim call.gives [
      | inl g ↦ inl g
      | inr f ↦ inr (rw (← (ap (λ g. g j) providers ∙ cond_true (j == j) p (old.providers j)
          (eq-eqb j j refl))) at f)
    ]

    -- an action that is no begin of an append
    makes : (action : Action) (y : Job) (new : State) → next_action old job ≡ Some action → IsNoBody action →
        y.number ≡ job.number → new.jobs ≡ with_job old.jobs y → Passed old job action new y →
        new.doubt ≡ old.doubt → new.records ≡ old.records → Result More new
    makes action y new next_is plain number jobs passed doubt records = goes_on action y new next_is
        (unheld old.append action plain) number jobs passed (stay new doubt records)

    acts : Acting old job Result
    acts = record {
      begins = λ entry next none writes faults low. goes_on WriteBody _ _ next (cc) refl refl
          (Passed.drew refl refl refl) (stay _ refl refl);
      syncs = λ a next flight mine faults low.
          makes SyncBody (advanced job) _ next tt refl refl (Passed.silent tt refl refl) refl refl;
      gates = λ a next flight mine faults low. goes_on WriteGate (advanced job) _ next
          (unheld old.append WriteGate tt) refl refl (Passed.silent tt refl refl)
          (in_doubt a _ next flight mine.0 refl refl);
      finishes = λ a next flight mine faults low. goes_on SyncGate _ _ next (unheld old.append SyncGate tt)
          refl refl (Passed.finished a refl flight mine.0 refl refl) (λ d h. absurd (none_now d h));
      bars = λ action plain next mine faults low rose. ends_so answer.DiskFault _ refl (stay _ refl refl);
      bars_gated = λ a next flight mine faults low rose.
          ends_so answer.DiskFault _ refl (in_doubt a _ next flight mine.0 refl refl);
      begins_not = λ next none. ends_so answer.Memory _ refl (stay _ refl refl);
      gates_not = λ a next flight mine. ends_so answer.Memory _ refl (stay _ refl refl);
      stores = λ j o s p next call.
          makes (Store j o s) (advanced job) _ next tt refl refl (Passed.silent tt refl refl) refl refl;
      stores_not = λ j o s p how next call. ends_so how _ refl (stay _ refl refl);
      fetches = λ j o s block p next call. makes (Fetch j o s) _ _ next tt refl refl
          (Passed.gave (Fetched j o s block) (
            block,
            refl,
            found_by old job runs j o s block p
                (called (advanced_with job (Fetched j o s block)) j p) call refl,
          ) refl refl) refl refl;
      asks = λ j o round symbol p next call. makes (Ask j o round) _ _ next tt refl refl
          (Passed.gave (Answered j o round symbol) (
            symbol,
            refl,
            answered_by j o round symbol p
                (called (advanced_with job (Answered j o round symbol)) j p) call refl,
          ) refl refl) refl refl;
      works = λ o s symbols next gives. makes (Work o s) _ _ next tt refl refl
          (Passed.gave (Worked o s symbols) (symbols, refl, gives) refl refl) refl refl;
      removes = λ j o p next call.
          makes (Remove j o) (advanced job) _ next tt refl refl (Passed.silent tt refl refl) refl refl;
      ends = λ action how next last. ends_so how _ refl (stay _ refl refl);
    }

  begun_not : (e : Event) (n k : ℕ) → e ≡ Step k → Begun n ≡ More → ⊥
  begun_not e n k is more = cc

  begins : (e : Event) (kind : Kind) (wish : Option ℕ) → Walked moment old e (Begun old.next_job)
      (record old {
        jobs = old.jobs ++ beginning old moment kind wish ∷ [];
        next_job = old.next_job + 1;
      })
  begins e kind wish = record {
    job = λ k j h. elim (found_more old.jobs (beginning old moment kind wish) k j h) [
      | inl p ↦ Went.begun kind wish p.1 p.0 refl
      | inr q ↦ Went.kept q (begun_not e old.next_job k)
    ];
    doubt = λ d h. Doubted.kept h refl;
  }

  left_doubt : (s : Setup) (doubt : Option Doubt) (new : State) → LeavesDoubt old s doubt →
      new.records ≡ old.records → (d : Doubt) → doubt ≡ Some d → Doubted old new d
  left_doubt s doubt new (inl is) rec d h = Doubted.kept (sym is ∙ h) rec
  left_doubt s doubt new (inr (none, is)) rec d h = (let g = sym is ∙ h in
      Doubted.set_up s (sym cc) (cc (is_some-none (setup_of old.records) none)))

  -- an event that leaves jobs, records and what is in doubt
  leaves : (e : Event) (r : Outcome) (new : State) → ((k : ℕ) → e ≡ Step k → r ≡ More → ⊥) →
      new.jobs ≡ old.jobs → new.doubt ≡ old.doubt → new.records ≡ old.records → Walked moment old e r new
  leaves e r new far jobs doubt records =
      same_jobs moment old e r new far jobs (λ d h. Doubted.kept (sym doubt ∙ h) records)

  -- an event with which no job runs and nothing is in doubt
  gives_up : (e : Event) (r : Outcome) (new : State) → new.jobs ≡ [] → new.doubt ≡ None →
      Walked moment old e r new
  gives_up e r new jobs doubt = no_jobs moment old e r new jobs (λ d h. absurd (none_now d (sym doubt ∙ h)))

  walks : (limit : ℕ) → IsLone old → Cases limit moment old (Walked moment old)
  walks limit lone = record {
    still = λ e r h. leaves e r old (apart moment old e r h) refl refl refl;
    acts = λ job runs is_open unbarred.
        acts job runs is_open unbarred (none_beside old job.number job lone runs);
    alone = λ number x r new at is_open unbarred h. (let a = steps_aside old x r new h in
        no_jobs moment old (Step number) r new (a.jobs ∙ lone x at)
        (λ d g. Doubted.kept (sym a.doubt ∙ g) a.records));
    begins = λ kind is_open allowed. begins (Begin kind) kind None;
    begins_at = λ profile name bytes is_open allowed.
        begins (BeginAt profile name bytes) (PutJob name bytes) (Some profile);
    scrub = λ allowed. leaves _ _ _ (begun_not BeginScrub old.next_job) refl refl refl;
    pack = λ allowed. leaves _ _ _ (begun_not BeginPack old.next_job) refl refl refl;
    stops = λ picks rs js area so. gives_up (Stop picks) Stopped _ refl refl;
    opens = λ rs js area so up faults low. gives_up Reopen Opened _ refl refl;
    opens_not = λ why rs js area so faults low. gives_up Reopen (Refused why) _ refl refl;
    reads_not = λ why faults low. no_jobs moment old Reopen (Refused why) _ refl (λ d h. Doubted.kept h refl);
    sets_up = λ s rs js good closed so none faults low. same_jobs moment old (Init s) Ready _
        (apart moment old (Init s) Ready tt) refl (λ d h. absurd (none_now d h));
    sets_up_not = λ s why doubt good closed so faults low. same_jobs moment old (Init s) (Refused why) _
        (apart moment old (Init s) (Refused why) tt) refl (left_doubt s doubt _ so refl);
    is_set_up = λ s rs js closed so faults low. same_jobs moment old (Init s) (Refused refusal.Already) _
        (apart moment old (Init s) (Refused refusal.Already) tt) refl (λ d h. absurd (none_now d h));
    replaces = λ e j IsThere changed p still counts call.
        leaves e Replaced _ (apart moment old e Replaced still) refl refl refl;
    replaces_not = λ e j IsThere changed p still call.
        leaves e NothingHeld _ (apart moment old e NothingHeld still) refl refl refl;
    continues = no_jobs moment old Continue Continued _ refl (λ d h. Doubted.kept h refl);
  }

  -- a job that runs after an event has just begun, stayed, or made an action; a doubt is old or just written
  pub walked : (limit : ℕ) (e : Event) (r : Outcome) (new : State) → IsLone old →
      Happens limit moment old e r new → Walked moment old e r new
  walked limit e r new lone h = by_event limit moment old (Walked moment old) (walks limit lone) e r new h
