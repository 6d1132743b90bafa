-- What runs alone goes in any history as it does in that which is the journal: a state sees its history by its
-- table alone, and that is the journal's.
--
--   plain u                   == the state with its journal for its history
--   Carried u v Happened      == what happened in `plain u` and left v happens in u, and leaves a state that is
--                                v but for its history
use Rattle.job_laws.proofs.Words.{◌≡◌, ℕ, suc, ◌+◌, ◌==◌, Bool, true, false, cond, List, [], ◌∷◌, ◌++◌, length, Option, Some, None, refl, ap, sym, subst, ◌∙◌, ◌⊎◌, inl, inr, arith, is_some, slice_get, flat_map, cases_Bool, columns, column_of_symbols, Object, upto, Fetches, Provider, Record, Setup, AuditStart, next_audit, Area, AreAlike, Action, WriteBody, SyncBody, WriteGate, SyncGate, Store, Fetch, Ask, Work, Remove, End, actions_of, Scrubs, StepsScrub, StepsAlone, scrubbing, unalone, opened_scrub, found_more, differs, scrub_actions, new_scrub, number_alone, Answer, Put, Got, Dropped, Audited, Repaired, Upgraded, Scrubbed, Lost, ProviderFault, DiskFault, Memory, Moves, Writes, is_first_append, subject_drawn, bytes_drawn, audits_drawn, taken_out, begun_append, moved, doubted, done_append, barred, unappended, HasSums, pinned_file, pins_by, due_number, due_flags, subject_at_begin, chosen, beginning, BeginsAt, pin_all, machine_pins, Step, BeginScrub, Outcome, Refused, More, Waiting, Begun, Ended, Closed, IsSpelledKind, block_given, file_given, pinned_profile, Entry, Kind, PutJob, GetJob, DropJob, AuditJob, RepairJob, UpgradeJob, aim_of, Pinned, Fetched, Answered, Worked, Job, job_of, advanced, advanced_with, Happens, MustReopen, NoSuchJob, first_refusal, Moment, now, profiled, object_of, setup_or_none, sight_of, aims_of, causes, reserved, StandsPlain, StandsWithDoubt, StandsSwitched, StandsForState, State, Append, Alone, Scrubbing, Packing, Scrub, setup_in, file_in, object_among, worked_object, going_on, ended, with_provider, journal_end, block_to_store, GotBytes, Ends, Acts, is_idle_drop, next_action, holder_of, ActsOrWaits, StepsOn, StepsJob, StepsMine, StepsOne, StepsOpen, Steps, PartRan, AreSteps, GoesOnTo, RanAlone, Seen, AreHanded, IsOpenAtRest, IsSound, events-sound, MayName, walk-begin}
use Rattle.std.specs.Prelude.{map, sum_by}
use Rattle.device_defs.specs.Cells.{Cells}
use Rattle.command_defs.specs.Scrubs.{RanScrub}
use Rattle.state_laws.proofs.Packs.{file-alike}
use Rattle.state_laws.proofs.Resting.{rest-sound}

-- the state with its journal for its history
abbrev pub plain : State → State
plain u = record u { records = u.journal }

-- no pack runs
abbrev pub IsUnpacking : Option Alone → Type 0
IsUnpacking (Some (Packing pack)) = ⊥
IsUnpacking h = Unit {0}

-- so it happens in the state too, and leaves one that is this one but for its history
pub record Carried (v : State) (Happened : State → Type 0) : Type 0 where
  pub new : State
  pub happens : Happened new
  pub same : v ≡ plain new
  pub none_packs : IsUnpacking new.alone

-- a state that is so left
carry : {v : State} {P : State → Type 0} (new : State) → IsUnpacking new.alone → P new → v ≡ plain new →
    Carried v P
carry new none_packs happens same =
    record { new = new; happens = happens; same = same; none_packs = none_packs }

module _ (u : State) (E : AreAlike u.journal u.records) (none_packs : IsUnpacking u.alone) where
  -- ---- what a state sees of its history

  set_up : setup_in u ≡ setup_in (plain u)
  unfolding setup_in
  set_up = ap setup_or_none (sym E.setup)

  found : (name : List ℕ) → file_in u name ≡ file_in (plain u) name
  found name = sym (file-alike u.journal u.records name E)

  idle : (job : Job) (kind : Kind) → is_idle_drop u job kind ≡ is_idle_drop (plain u) job kind
  idle job (DropJob name) = cc (found name)
  idle job kind = refl

  next : (job : Job) → next_action u job ≡ next_action (plain u) job
  next job = ap (λ b. cond b (Some End) (slice_get (actions_of (setup_in u) job) job.place)) (idle job job.kind)
      ∙ ap (λ s. cond (is_idle_drop (plain u) job job.kind) (Some End)
      (slice_get (actions_of s job) job.place)) set_up

  worked : (job : Job) (id : ℕ) → worked_object u job id ≡ worked_object (plain u) job id
  worked job id = ap (λ s. object_of (profiled s (pinned_profile s.profile job.pinned id)) id) set_up

  to_store : (job : Job) (kind : Kind) (j object stripe : ℕ) →
      block_to_store u job kind j object stripe ≡ block_to_store (plain u) job kind j object stripe
  to_store job (PutJob name bytes) j object stripe =
      ap (λ s. columns (object_of (profiled s job.profile) object) bytes j stripe) set_up
  to_store job kind j object stripe = cc (worked job object)

  subjects : (job : Job) (kind : Kind) → subject_drawn (plain u) job kind ≡ subject_drawn u job kind
  subjects job (PutJob name bytes) = cc
  subjects job AuditJob = cc
  subjects job kind = refl

  its_bytes : (job : Job) (kind : Kind) (id : ℕ) → bytes_drawn (plain u) job kind id ≡ bytes_drawn u job kind id
  its_bytes job (PutJob name bytes) id = cc
  its_bytes job kind id = refl

  its_audits : (job : Job) (kind : Kind) (number : ℕ) →
      audits_drawn (plain u) job kind number ≡ audits_drawn u job kind number
  its_audits job AuditJob number = cc
  its_audits job kind number = refl

  taken : (job : Job) (kind : Kind) → taken_out (plain u) job kind ≡ taken_out u job kind
  taken job (PutJob name bytes) = cc (found name)
  taken job (DropJob name) = cc (found name)
  taken job kind = refl

  writes : (job : Job) (kind : Kind) (entry : Record) → Writes (plain u) job kind entry →
      Writes u job kind entry
  writes job (PutJob name bytes) entry h = cc
  writes job (GetJob name) entry h = absurd h
  writes job AuditJob entry h = elim (cases_Bool (is_first_append job)) [
    | inl t ↦ rw t (let g : entry ≡ AuditStart (next_audit u.journal) = rw t at h in cc)
    | inr f ↦ rw f (let g = rw f at h in
        (g.0, (rw (← set_up) at g.1), g.2))
  ]
  writes job kind entry h = h

  got : (job : Job) (files : List Pinned) (bytes : List ℕ) → GotBytes (plain u) job files bytes →
      GotBytes u job files bytes
  got job [] bytes h = h
  got job (f ∷ fs) bytes h = h ∙ ap (λ s. file_given s job.given f) (sym set_up)

  ends : (job : Job) (kind : Kind) (answer : Answer) → Ends (plain u) job kind answer → Ends u job kind answer
  ends job (PutJob name bytes) Put h = h
  ends job (GetJob name) (Got bytes) h = got job job.pinned bytes h
  ends job (DropJob name) Dropped h = h
  ends job AuditJob (Audited number undecided counts) h =
      (h.0, subst (λ s. HasSums s job (record { counts = counts; undecided = undecided })) (sym set_up) h.1)
  ends job RepairJob (Repaired number) h = h
  ends job UpgradeJob Upgraded h = h
  ends job kind answer h = absurd h

  -- ---- a move of an append

  moves : (job : Job) (action : Action) (flight : Option Append) (outcome : Outcome) (v : State) →
      Moves (plain u) job action flight outcome v → Carried v (Moves u job action flight outcome)
  moves job WriteBody flight More v (entry, w, (faults, le, e)) = record {
    new = record (begun_append u job entry) { disk_faults = faults };
    happens = (entry, writes job job.kind entry w, (faults, le, refl));
    same = e ∙ (λ i. record (going_on (plain u) (record (advanced job) { subject = subjects job job.kind i })) {
      append = Some (record { job = job.number; entry = entry; moves = 1 });
      bytes = λ id. its_bytes job job.kind id i;
      audits = λ number. its_audits job job.kind number i;
      disk_faults = faults;
    });
    none_packs = none_packs;
  }
  moves job WriteBody flight (Ended DiskFault) v (faults, le, rose, e) =
      carry (record (barred (ended u job)) { disk_faults = faults }) none_packs (faults, le, rose, refl) e
  moves job WriteBody flight (Ended Memory) v e = carry (ended u job) none_packs refl e
  moves job SyncBody (Some a) More v (at, (faults, le, e)) =
      carry (record (moved (going_on u (advanced job)) a) { disk_faults = faults }) none_packs
      (at, (faults, le, refl)) e
  moves job SyncBody (Some a) (Ended DiskFault) v (at, (faults, le, rose, e)) = carry
      (record (barred (ended u job)) { disk_faults = faults }) none_packs (at, (faults, le, rose, refl)) e
  moves job WriteGate (Some a) More v (at, (faults, le, e)) =
      carry (record (doubted (moved (going_on u (advanced job)) a) a job) { disk_faults = faults }) none_packs
      (at, (faults, le, refl)) e
  moves job WriteGate (Some a) (Ended DiskFault) v (at, (faults, le, rose, e)) =
      carry (record (doubted (barred (ended u job)) a job) { disk_faults = faults }) none_packs
      (at, (faults, le, rose, refl)) e
  moves job WriteGate (Some a) (Ended Memory) v (at, e) = carry (unappended (ended u job)) none_packs (at, refl) e
  moves job SyncGate (Some a) More v (at, (faults, le, e)) = record {
    new = record (done_append u job a) { disk_faults = faults };
    happens = (at, (faults, le, refl));
    same = e ∙ (λ i. record (going_on (plain u) (record (advanced job) { older = taken job job.kind i })) {
      records = a.entry ∷ u.journal;
      journal = a.entry ∷ u.journal;
      append = None;
      doubt = None;
      disk_faults = faults;
    });
    none_packs = none_packs;
  }
  moves job SyncGate (Some a) (Ended DiskFault) v (at, (faults, le, rose, e)) = carry
      (record (barred (ended u job)) { disk_faults = faults }) none_packs (at, (faults, le, rose, refl)) e
  moves job action flight outcome v h = absurd h

  -- ---- an action

  acts : (job : Job) (action : Action) (outcome : Outcome) (v : State) → Acts (plain u) job action outcome v →
      Carried v (Acts u job action outcome)
  acts job (Store j object stripe) More v (p, call, e) =
      carry (record (going_on u (advanced job)) { providers = with_provider u.providers j p }) none_packs
      (p, (rw (← (to_store job job.kind j object stripe)) at call), refl) e
  acts job (Store j object stripe) (Ended (ProviderFault k)) v (is, (p, call, e)) = carry
      (record (ended u job) { providers = with_provider u.providers j p }) none_packs (is, (p, call, refl)) e
  acts job (Store j object stripe) (Ended Memory) v (p, call, e) =
      carry (record (ended u job) { providers = with_provider u.providers j p }) none_packs (p, call, refl) e
  acts job (Fetch j object stripe) More v (block, (p, call, e)) = (let c = subst
      (λ (o : Object). Fetches o.profile.size object stripe (u.providers j) block p) (sym (worked job object))
      call in carry (record (going_on u (advanced_with job (Fetched j object stripe block)))
      { providers = with_provider u.providers j p }) none_packs (block, (p, c, refl)) e)
  acts job (Ask j object round) More v (symbol, (p, call, e)) = carry
      (record (going_on u (advanced_with job (Answered j object round symbol)))
      { providers = with_provider u.providers j p }) none_packs (symbol, (p, (rw (← set_up) at call), refl)) e
  acts job (Work object stripe) More v (symbols, gives, e) =
      carry (going_on u (advanced_with job (Worked object stripe symbols))) none_packs
      (symbols, (rw (← set_up) at gives), refl) e
  acts job (Work object stripe) (Ended (Lost s row)) v (is, loses, e) =
      carry (ended u job) none_packs (is, (rw (← set_up) at loses), refl) e
  acts job (Remove j object) More v (p, call, e) =
      carry (record (going_on u (advanced job)) { providers = with_provider u.providers j p }) none_packs
      (p, call, refl) e
  acts job End (Ended answer) v (is, e) = carry (ended u job) none_packs (ends job job.kind answer is, refl) e
  acts job action outcome v h = moves job action u.append outcome v h

  -- ---- a step of a job

  or_waits : (job : Job) (action : Action) (holder : Option ℕ) (outcome : Outcome) (v : State) →
      ActsOrWaits (plain u) job action holder outcome v → Carried v (ActsOrWaits u job action holder outcome)
  or_waits job action None outcome v h = acts job action outcome v h
  or_waits job action (Some holder) (Waiting k) v (is, e) = carry u none_packs (is, refl) e
  or_waits job action (Some holder) outcome v h = absurd h

  on : (job : Job) (action : Option Action) (outcome : Outcome) (v : State) →
      StepsOn (plain u) job action outcome v → Carried v (StepsOn u job action outcome)
  on job None outcome v h = absurd h
  on job (Some action) outcome v h = or_waits job action (holder_of u.append action) outcome v h

  of_job : (job : Option Job) (outcome : Outcome) (v : State) → StepsJob (plain u) job outcome v →
      Carried v (StepsJob u job outcome)
  of_job None (Refused NoSuchJob) v e = carry u none_packs refl e
  of_job None outcome v h = absurd h
  of_job (Some job) outcome v h =
      on job (next_action u job) outcome v (subst (λ a. StepsOn (plain u) job a outcome v) (sym (next job)) h)

  -- ---- a step of a scrub

  among : (files : List Pinned) (id : ℕ) → object_among u files id ≡ object_among (plain u) files id
  among files id = ap (λ s. object_of (profiled s (pinned_profile s.profile files id)) id) set_up

  opened_by : Scrub → ℕ → ℕ → List Action → List ℕ → Setup → Scrub
  opened_by scrub object stripe rest symbols s = record scrub {
    todo = flat_map (λ j. cond (off j == 0) [] (Store j object stripe ∷ [])) (upto s.n) ++ rest;
    given = Worked object stripe symbols ∷ scrub.given;
    found = found_more scrub.found off;
  }
    where
      off : ℕ → ℕ
      off j = differs (block_given scrub.given object stripe j) (column_of_symbols
          (object_of (profiled s (pinned_profile s.profile scrub.files object)) object) symbols j stripe)

  opens : (scrub : Scrub) (object stripe : ℕ) (rest : List Action) (symbols : List ℕ) →
      opened_scrub (plain u) scrub object stripe rest symbols ≡ opened_scrub u scrub object stripe rest symbols
  unfolding opened_by
  opens scrub object stripe rest symbols = ap (opened_by scrub object stripe rest symbols) (sym set_up)

  scrubs : (scrub : Scrub) (action : Action) (rest : List Action) (outcome : Outcome) (v : State) →
      Scrubs (plain u) scrub action rest outcome v → Carried v (Scrubs u scrub action rest outcome)
  scrubs scrub (Fetch j object stripe) rest More v (block, (p, call, e)) =
      (let c = subst (λ (o : Object). Fetches o.profile.size object stripe (u.providers j) block p)
      (sym (among scrub.files object)) call in carry (record (scrubbing u (record scrub
      { todo = rest; given = Fetched j object stripe block ∷ scrub.given }))
      { providers = with_provider u.providers j p }) tt (block, (p, c, refl)) e)
  scrubs scrub (Work object stripe) rest More v (symbols, gives, e) =
      carry (scrubbing u (opened_scrub u scrub object stripe rest symbols)) tt
      (symbols, (rw (← set_up) at gives), refl) (cc (opens scrub object stripe rest symbols))
  scrubs scrub (Work object stripe) rest (Ended (Lost s row)) v (is, loses, e) =
      carry (unalone u) tt (is, (rw (← set_up) at loses), refl) e
  scrubs scrub (Store j object stripe) rest More v (p, call, e) =
      carry (record (scrubbing u (record scrub { todo = rest })) { providers = with_provider u.providers j p }) tt
      (p, (rw (← (among scrub.files object)) at call), refl) e
  scrubs scrub (Store j object stripe) rest (Ended (ProviderFault k)) v (is, (p, call, e)) =
      carry (record (unalone u) { providers = with_provider u.providers j p }) tt (is, (p, call, refl)) e
  scrubs scrub (Store j object stripe) rest (Ended Memory) v (p, call, e) =
      carry (record (unalone u) { providers = with_provider u.providers j p }) tt (p, call, refl) e
  scrubs scrub End rest (Ended (Scrubbed stripes symbols blocks)) v (a, b, c, e) = record {
    new = unalone u;
    happens = (
      a,
      b ∙ ap (λ (s : Setup). map scrub.found.symbols (upto s.n)) (sym set_up),
      c ∙ ap (λ (s : Setup). map scrub.found.blocks (upto s.n)) (sym set_up),
      refl,
    );
    same = e;
    none_packs = tt;
  }
  scrubs scrub action rest outcome v h = absurd h

  of_scrub : (scrub : Scrub) (todo : List Action) (outcome : Outcome) (v : State) →
      StepsScrub (plain u) scrub todo outcome v → Carried v (StepsScrub u scrub todo outcome)
  of_scrub scrub [] outcome v h = absurd h
  of_scrub scrub (action ∷ rest) outcome v h = scrubs scrub action rest outcome v h

  -- ---- a step

  lone : (alone : Alone) (outcome : Outcome) (v : State) → IsUnpacking (Some alone) →
      StepsAlone (plain u) alone outcome v → Carried v (StepsAlone u alone outcome)
  lone (Scrubbing scrub) outcome v none h = of_scrub scrub scrub.todo outcome v h
  lone (Packing pack) outcome v none h = absurd none

  mine : (number : ℕ) (alone : Alone) (its : Bool) (outcome : Outcome) (v : State) →
      IsUnpacking (Some alone) → StepsMine (plain u) number alone its outcome v →
      Carried v (StepsMine u number alone its outcome)
  mine number alone true outcome v none h = lone alone outcome v none h
  mine number alone false outcome v none h = of_job (job_of u.jobs number) outcome v h

  one : (number : ℕ) (alone : Option Alone) (outcome : Outcome) (v : State) → IsUnpacking alone →
      StepsOne (plain u) number alone outcome v → Carried v (StepsOne u number alone outcome)
  one number None outcome v none h = of_job (job_of u.jobs number) outcome v h
  one number (Some alone) outcome v none h = mine number alone (number_alone alone == number) outcome v none h

  open_one : (number : ℕ) (is_barred : Bool) (outcome : Outcome) (v : State) →
      StepsOpen (plain u) number is_barred outcome v → Carried v (StepsOpen u number is_barred outcome)
  open_one number true (Refused MustReopen) v e = carry u none_packs refl e
  open_one number true outcome v h = absurd h
  open_one number false outcome v h = one number u.alone outcome v none_packs h

  by_open : (number : ℕ) (is_open : Bool) (outcome : Outcome) (v : State) →
      Steps (plain u) number is_open outcome v → Carried v (Steps u number is_open outcome)
  by_open number false Closed v e = carry u none_packs refl e
  by_open number false outcome v h = absurd h
  by_open number true outcome v h = open_one number u.is_barred outcome v h

  -- a step happens in the state too
  carried : (moment number : ℕ) (outcome : Outcome) (v : State) →
      Happens 8 moment (plain u) (Step number) outcome v →
      Carried v (λ new. Happens 8 moment u (Step number) outcome new)
  carried moment number outcome v h = by_open number u.is_open outcome v h

  -- ---- a begin

  sights : sight_of (plain u) ≡ sight_of u
  sights = λ i. record {
    is_barred = u.is_barred;
    is_alone = is_some u.alone;
    aims = aims_of u.jobs;
    files = E.files i;
    due = E.due i;
    version = E.version i;
    setup = sym set_up i;
    used = journal_end u + sum_by (reserved (E.version i) (sym set_up i)) u.jobs;
    next_id = E.id i;
    next_audit = E.audit i;
  }

  at_begin : (kind : Kind) → subject_at_begin (plain u) kind ≡ subject_at_begin u kind
  at_begin RepairJob = ap due_number E.due
  at_begin kind = refl

  job-same : (moment : ℕ) (kind : Kind) (own : Option ℕ) →
      beginning (plain u) moment kind own ≡ beginning u moment kind own
  job-same moment kind own = λ i. record {
    number = u.next_job;
    kind = kind;
    profile = chosen (sym set_up i) own;
    begun = moment;
    pinned = pins_by machine_pins (pinned_file u) (λ name. sym (found name) i) (E.files i) (aim_of kind);
    flagged = due_flags (sym set_up i).tolerance (E.due i);
    subject = at_begin kind i;
    older = [];
    place = 0;
    given = [];
  }

  begins-carried : (moment number : ℕ) (kind : Kind) (own : Option ℕ) (v : State) →
      BeginsAt 8 moment (plain u) kind own (Begun number) v → Carried v (BeginsAt 8 moment u kind own (Begun number))
  begins-carried moment number kind own v (opened, none, is, e) = record {
    new = record u { jobs = u.jobs ++ beginning u moment kind own ∷ []; next_job = u.next_job + 1 };
    happens = (opened, ap (λ x. first_refusal (causes 8 x (aim_of kind) own)) (sym sights) ∙ none, is, refl);
    same = e ∙ ap (λ j. record (plain u) { jobs = u.jobs ++ j ∷ []; next_job = u.next_job + 1 })
        (job-same moment kind own);
    none_packs = none_packs;
  }

  scrub-same : (moment : ℕ) → new_scrub (plain u) moment ≡ new_scrub u moment
  scrub-same moment = λ i. record {
    number = u.next_job;
    begun = moment;
    files = pin_all u (E.files i);
    todo = scrub_actions (sym set_up i) (pin_all u (E.files i));
    given = [];
    found = record { stripes = 0; symbols = λ j. 0; blocks = λ j. 0 };
  }

  scrub-carried : (moment number : ℕ) (v : State) → Happens 8 moment (plain u) BeginScrub (Begun number) v →
      Carried v (Happens 8 moment u BeginScrub (Begun number))
  scrub-carried moment number v (opened, none, is, e) = record {
    new = record u { alone = Some (Scrubbing (new_scrub u moment)); next_job = u.next_job + 1 };
    happens = (opened, none, is, refl);
    same = e ∙ ap (λ s. record (plain u) { alone = Some (Scrubbing s); next_job = u.next_job + 1 })
        (scrub-same moment);
    none_packs = tt;
  }

-- ---- steps up to an end

-- steps go so from the state too
record CarriedOn (u : State) (moment number : ℕ) (ms : List Moment) : Type 0 where
  steps : List Moment
  are_steps : AreSteps u moment number steps
  long : length steps ≡ length ms
  same : now (plain u) ms ≡ plain (now u steps)
  sound : IsSound 8 (now u steps)
  none_packs : IsUnpacking (now u steps).alone

module _ (u : State) (S : IsSound 8 u) (none : IsUnpacking u.alone) (moment number : ℕ) (is : number ≡ 1) where
  one-more : (x : Moment) (ms : List Moment) → AreSteps (plain u) moment number (x ∷ ms) →
      CarriedOn u moment number ms → CarriedOn u moment number (x ∷ ms)
  one-more x ms are C =
      (let g = carried (now u C.steps) C.sound.journal.alike C.none_packs (moment + length C.steps) number
      More x.state (subst (λ k. Happens 8 (moment + k) (plain (now u C.steps)) (Step number) More x.state)
      (sym C.long) (subst (λ w. Happens 8 (moment + length ms) w (Step number) More x.state) C.same are.2)) in
      record {
        steps = record { event = Step number; outcome = More; state = g.new } ∷ C.steps;
        are_steps = (refl, refl, g.happens, C.are_steps);
        long = ap suc C.long;
        same = g.same;
        sound = events-sound 8 (moment + length C.steps) (now u C.steps) C.sound (omega arith, omega arith)
            (Step number) More g.new (omega arith) g.happens;
        none_packs = g.none_packs;
      })

  steps-carried : (ms : List Moment) → AreSteps (plain u) moment number ms → CarriedOn u moment number ms
  steps-carried [] are =
      record { steps = []; are_steps = tt; long = refl; same = refl; sound = S; none_packs = none }
  steps-carried (x ∷ ms) are = one-more x ms are (steps-carried ms are.3)

  -- so do all up to an end
  goes-carried : (answer : Answer) (heard : List Entry) (v : State) →
      GoesOnTo (plain u) moment number answer heard v → Carried v (GoesOnTo u moment number answer heard)
  goes-carried answer heard v G = (let C = steps-carried G.steps G.are_steps in
      let g = carried (now u C.steps) C.sound.journal.alike C.none_packs (moment + length C.steps) number
      (Ended answer) v (subst (λ k. Happens 8 (moment + k) (plain (now u C.steps)) (Step number)
      (Ended answer) v) (sym C.long)
      (subst (λ w. Happens 8 (moment + length G.steps) w (Step number) (Ended answer) v) C.same G.ends)) in
      record {
        new = g.new;
        happens = record { steps = C.steps; are_steps = C.are_steps; ends = g.happens; heard_is = cc };
        same = g.same;
        none_packs = g.none_packs;
      })

-- ---- what runs alone

-- what images stand for does not rest on the history
images-plain : (told : Option Cells) (w : State) → StandsForState told (plain w) → StandsForState told w
images-plain None w h = tt
images-plain (Some cells) w h = λ image is. by image (h image is)
  where
    by : (image : List ℕ) →
        StandsPlain (plain w) image ⊎ (StandsWithDoubt (plain w) image ⊎ StandsSwitched (plain w) image) →
        StandsPlain w image ⊎ (StandsWithDoubt w image ⊎ StandsSwitched w image)
    by image (inl p) = inl p
    by image (inr (inl D)) = inr (inl (record { doubt = D.doubt; in_doubt = D.in_doubt; stands = D.stands }))
    by image (inr (inr X)) = inr (inr (record { switching = X.switching; stands = X.stands }))

-- nor do the providers
handed-plain : (ps : List Provider) (w : State) → AreHanded ps (plain w) → AreHanded ps w
handed-plain ps w h = record { count = h.count; each = h.each }

module _ (u : State) (O : IsOpenAtRest u 1) where
  sound : IsSound 8 u
  sound = rest-sound 8 u O.rest

  quiet : IsUnpacking u.alone
  quiet = cc

  -- a job
  pub ran-alike : (area : Area) (records : List Record) (kind : Kind) (own : Option ℕ) (answer : Answer)
      (old new : Seen) (heard : List Entry) (faults moment : ℕ) → IsSpelledKind kind → MayName kind own →
      RanAlone area records kind own answer old new heard faults (plain u) moment →
      RanAlone area records kind own answer old new heard faults u moment
  ran-alike area records kind own answer old new heard faults moment spelled named R =
      (let b = begins-carried u sound.journal.alike quiet moment R.runs.job kind own R.runs.begun R.runs.begins in
      let W = walk-begin moment R.runs.job u b.new kind own named O spelled b.happens in
      let g = goes-carried b.new W.1.sound b.none_packs (moment + 1) R.runs.job W.0 answer heard R.last
      (rw b.same at R.runs.goes_on) in
      record {
        last = g.new;
        runs = record { begun = b.new; job = R.runs.job; begins = b.happens; goes_on = g.happens };
        images = images-plain new.disk g.new (rw g.same at R.images);
        faults_are = cc;
        handed = handed-plain new.providers g.new (rw g.same at R.handed);
        outside_text = rw g.same at R.outside_text;
      })

  -- a part of a put
  pub part-alike : (area : Area) (records : List Record) (name bytes : List ℕ) (own : Option ℕ)
      (old new : Seen) (faults moment : ℕ) → IsSpelledKind (PutJob name bytes) →
      MayName (PutJob name bytes) own → PartRan area records name bytes own old new faults (plain u) moment →
      PartRan area records name bytes own old new faults u moment
  part-alike area records name bytes own old new faults moment spelled named R =
      (let kind = PutJob name bytes in
      let b = begins-carried u sound.journal.alike quiet moment R.runs.job kind own R.runs.begun R.runs.begins
      in let W = walk-begin moment R.runs.job u b.new kind own named O spelled b.happens in
      let C = steps-carried b.new W.1.sound b.none_packs (moment + 1) R.runs.job W.0 R.runs.steps
      (rw b.same at R.runs.are_steps) in
      let e : R.last ≡ plain (now b.new C.steps) = cc in
      record {
        last = now b.new C.steps;
        runs = record {
          begun = b.new;
          job = R.runs.job;
          begins = b.happens;
          steps = C.steps;
          are_steps = C.are_steps;
          made = C.long ∙ R.runs.made;
          last = refl;
        };
        images = images-plain new.disk (now b.new C.steps) (rw e at R.images);
        faults_are = sym (ap (λ (w : State). w.disk_faults) e) ∙ R.faults_are;
        handed = handed-plain new.providers (now b.new C.steps) (rw e at R.handed);
        outside_text = rw e at R.outside_text;
      })

  -- a scrub
  pub scrub-alike : (records : List Record) (answer : Answer) (old new : Seen) (faults moment : ℕ) →
      RanScrub records answer old new faults (plain u) moment → RanScrub records answer old new faults u moment
  scrub-alike records answer old new faults moment R =
      (let b = scrub-carried u sound.journal.alike quiet moment R.runs.job R.runs.begun R.runs.begins in
      let S = events-sound 8 moment u sound (omega arith, omega arith) BeginScrub (Begun R.runs.job) b.new tt
      b.happens in let g = goes-carried b.new S b.none_packs (moment + 1) R.runs.job (cc) answer [] R.last
      (subst (λ w. GoesOnTo w (moment + 1) R.runs.job answer [] R.last) b.same R.runs.goes_on) in
      record {
        last = g.new;
        runs = record { begun = b.new; job = R.runs.job; begins = b.happens; goes_on = g.happens };
        images = images-plain new.disk g.new (subst (λ w. StandsForState new.disk w) g.same R.images);
        faults_are = cc;
        handed = handed-plain new.providers g.new (subst (λ w. AreHanded new.providers w) g.same R.handed);
      })
