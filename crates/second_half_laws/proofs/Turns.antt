-- What each event does to the record in doubt and its maker, to the begins of audit numbers, and which jobs
-- run on.
use Rattle.second_half_laws.proofs.Words.{true, ◌⊎◌, refl, ap, sym, subst, ◌∙◌, inl, inr, ne_eqb, cases_eq, cases_Bool, eqb-true, false≢true, some-not-none, is_some-none, Setup, SetUp, setup_of, Job, job_of, with_job, without_job, advanced, Action, WriteBody, SyncBody, WriteGate, SyncGate, Store, Fetch, Ask, Work, Event, Outcome, State, Append, Doubt, audits_drawn, next_action, LeavesDoubt, Happens, IsLast, Acting, Cases, by_event, cond_true, cond_false, found_itself, still_found, steps_aside}
use Rattle.std.proofs.Common.{◌≡◌, ℕ, ◌==◌, false, List, [], ◌∷◌, Option, Some, None}
use Rattle.run_laws.proofs.Direct.{was_moved, first_job}

-- the jobs of other numbers stay
other_with : (js : List Job) (y : Job) (k : ℕ) → (k ≡ y.number → ⊥) → job_of (with_job js y) k ≡ job_of js k
other_with [] y k apart = refl
other_with (x ∷ js) y k apart = elim (cases_Bool (x.number == y.number)) [
  | inl t ↦ cc (
    cond_true _ _ _ t,
    cond_false _ _ _ (ne_eqb y.number k (λ e. apart (sym e))),
    cond_false _ _ _ (ne_eqb x.number k (λ e. apart (sym e ∙ eqb-true x.number y.number t))),
  )
  | inr f ↦ cc (cond_false _ _ _ f, other_with js y k apart)
]

other_without : (js : List Job) (n k : ℕ) → (k ≡ n → ⊥) → job_of (without_job js n) k ≡ job_of js k
other_without [] n k apart = refl
other_without (x ∷ js) n k apart = elim (cases_Bool (x.number == n)) [
  | inl t ↦ ap (λ l. job_of l k) (cc) ∙ (other_without js n k apart
      ∙ sym (cond_false _ _ _ (ne_eqb x.number k (λ e. apart (sym e ∙ eqb-true x.number n t)))))
  | inr f ↦ cc (cond_false _ _ _ f, other_without js n k apart)
]

-- an action that is not the last move of an append
abbrev IsNoSync : Action → Type 0
IsNoSync SyncGate = ⊥
IsNoSync action = Unit {0}

-- a job that ran goes on as it was, or makes an action, or the vault is closed
pub data Stay_is (old new : State) (k : ℕ) (j : Job) : Type 0 where
  stayed : job_of new.jobs k ≡ Some j → Stay_is old new k j
  steps : (action : Action) → next_action old j ≡ Some action →
      (action ≡ SyncGate → (new.doubt ≡ None) ⊎ (new.is_barred ≡ true)) → Stay_is old new k j
  shut : new.is_open ≡ false → Stay_is old new k j
  undoubted : new.doubt ≡ None → Stay_is old new k j

-- the record in doubt, and who made it
pub data Doubt_now (old new : State) (d : Doubt) : Type 0 where
  kept : old.doubt ≡ Some d → new.records ≡ old.records → Doubt_now old new d
  gated : (job : Job) (a : Append) → job_of old.jobs job.number ≡ Some job →
      next_action old job ≡ Some WriteGate → old.append ≡ Some a → a.job ≡ job.number → d.entry ≡ a.entry →
      d.maker ≡ Some (advanced job) → new.records ≡ old.records →
      (job_of new.jobs job.number ≡ Some (advanced job)) ⊎ (new.is_barred ≡ true) → Doubt_now old new d
  set_up : (s : Setup) → d.entry ≡ SetUp s → d.maker ≡ None → setup_of new.records ≡ None →
      new.is_open ≡ false → Doubt_now old new d

-- the begins of audit numbers
pub data Audits_are (old new : State) : Type 0 where
  undrawn : new.audits ≡ old.audits → ((a : Append) → new.append ≡ Some a → old.append ≡ None → ⊥) →
      Audits_are old new
  drew : (x : Job) → job_of old.jobs x.number ≡ Some x → old.append ≡ None →
      ((a : Append) → new.append ≡ Some a → a.job ≡ x.number) →
      new.audits ≡ audits_drawn old x x.kind → Audits_are old new

-- a vault that is open was so before, and was not barred if it is not
abbrev pub WasOpen : State → State → Type 0
WasOpen old new = new.is_open ≡ true → (old.is_open ≡ true) × (new.is_barred ≡ false → old.is_barred ≡ false)

pub record Turns (old new : State) : Type 0 where
  pub doubt : (d : Doubt) → new.doubt ≡ Some d → Doubt_now old new d
  pub audits : Audits_are old new
  pub opened : (d : Doubt) → new.doubt ≡ Some d → WasOpen old new
  pub stay : (k : ℕ) (j : Job) → job_of old.jobs k ≡ Some j → Stay_is old new k j

module _ (old : State) where
  no_new : (a : Append) → old.append ≡ Some a → old.append ≡ None → ⊥
  no_new a = some-not-none old.append a

  same_open : WasOpen old old
  same_open h = (h, λ g. g)

  -- jobs stay
  stay_all : (new : State) → new.jobs ≡ old.jobs → (k : ℕ) (j : Job) → job_of old.jobs k ≡ Some j →
      Stay_is old new k j
  stay_all new jobs k j h = Stay_is.stayed (cc)

  -- nothing changes but jobs that begin, what runs alone and devices
  quiet : (new : State) → new.doubt ≡ old.doubt → new.records ≡ old.records → new.audits ≡ old.audits →
      new.append ≡ old.append → WasOpen old new →
      ((k : ℕ) (j : Job) → job_of old.jobs k ≡ Some j → job_of new.jobs k ≡ Some j) → Turns old new
  quiet new doubt records audits append opened stays = record {
    doubt = λ d h. Doubt_now.kept (sym doubt ∙ h) records;
    audits = Audits_are.undrawn audits (λ a h none. no_new a (sym append ∙ h) none);
    opened = λ d h. opened;
    stay = λ k j h. Stay_is.stayed (stays k j h);
  }

  -- all jobs are given up and the vault is closed, or nothing is in doubt
  no_doubt : (new : State) → new.doubt ≡ None → (d : Doubt) → new.doubt ≡ Some d → Doubt_now old new d
  no_doubt new none d h = absurd (some-not-none new.doubt d h none)

  not_open : (new : State) → new.is_open ≡ false → WasOpen old new
  not_open new closed h = absurd (false≢true (sym closed ∙ h))

  module _ (job : Job) (runs : job_of old.jobs job.number ≡ Some job) where
    it_is : (k : ℕ) (j : Job) → job_of old.jobs k ≡ Some j → k ≡ job.number → j ≡ job
    it_is k j h e = cc

    stay_by : (action : Action) (new : State) → next_action old job ≡ Some action →
        (action ≡ SyncGate → (new.doubt ≡ None) ⊎ (new.is_barred ≡ true)) →
        ((k : ℕ) → (k ≡ job.number → ⊥) → job_of new.jobs k ≡ job_of old.jobs k) → (k : ℕ) (j : Job) →
        job_of old.jobs k ≡ Some j → Stay_is old new k j
    stay_by action new next_is gate others k j h = elim (cases_eq k job.number) [
      | inl e ↦ Stay_is.steps action (cc) gate
      | inr n ↦ Stay_is.stayed (others k n ∙ h)
    ]

    went : (js : List Job) (y : Job) → js ≡ with_job old.jobs y → y.number ≡ job.number → (k : ℕ) →
        (k ≡ job.number → ⊥) → job_of js k ≡ job_of old.jobs k
    went js y jobs number k apart = cc (other_with old.jobs y k (λ e. apart (e ∙ number)))

    left_out : (js : List Job) → js ≡ without_job old.jobs job.number → (k : ℕ) → (k ≡ job.number → ⊥) →
        job_of js k ≡ job_of old.jobs k
    left_out js jobs k apart = cc (other_without old.jobs job.number k apart)

    none_now : (append : Option Append) → append ≡ None → (a : Append) → append ≡ Some a → old.append ≡ None →
        ⊥
    none_now append is a h none = some-not-none append a h is

    no_sync : (action : Action) → IsNoSync action → action ≡ SyncGate → ⊥
    no_sync action h e = rw e at h

    -- a job goes on and nothing else changes but for devices
    goes_on : (action : Action) (new : State) (y : Job) → next_action old job ≡ Some action →
        IsNoSync action → new.jobs ≡ with_job old.jobs y → y.number ≡ job.number →
        new.doubt ≡ old.doubt → new.records ≡ old.records → new.audits ≡ old.audits →
        ((a : Append) → new.append ≡ Some a → old.append ≡ None → ⊥) → WasOpen old new → Turns old new
    goes_on action new y next_is plain jobs number doubt records audits append is_open = record {
      doubt = λ d h. Doubt_now.kept (sym doubt ∙ h) records;
      audits = Audits_are.undrawn audits append;
      opened = λ d h. is_open;
      stay = stay_by action new next_is (λ e. absurd (no_sync action plain e)) (went new.jobs y jobs number);
    }

    ends_so : (action : Action) (new : State) → next_action old job ≡ Some action →
        (action ≡ SyncGate → new.is_barred ≡ true) → new.jobs ≡ without_job old.jobs job.number →
        new.doubt ≡ old.doubt → new.records ≡ old.records → new.audits ≡ old.audits →
        (new.append ≡ old.append) ⊎ (new.append ≡ None) → WasOpen old new → Turns old new
    ends_so action new next_is gate jobs doubt records audits append is_open = record {
      doubt = λ d h. Doubt_now.kept (sym doubt ∙ h) records;
      audits = Audits_are.undrawn audits (λ a h none. elim append
          [ inl e ↦ no_new a (sym e ∙ h) none | inr e ↦ some-not-none new.append a h e ]);
      opened = λ d h. is_open;
      stay = stay_by action new next_is (λ e. inr (gate e)) (left_out new.jobs jobs);
    }

    in_doubt : (a : Append) (new : State) → next_action old job ≡ Some WriteGate → old.append ≡ Some a →
        a.job ≡ job.number → new.doubt ≡ Some (record { entry = a.entry; maker = Some (advanced job) }) →
        new.records ≡ old.records →
        (job_of new.jobs job.number ≡ Some (advanced job)) ⊎ (new.is_barred ≡ true) → (d : Doubt) →
        new.doubt ≡ Some d → Doubt_now old new d
    in_doubt a new next_is flight mine doubt records on d h =
        (let e : record { entry = a.entry; maker = Some (advanced job) } ≡ d = cc in
        Doubt_now.gated job a runs next_is flight mine (cc) (cc) records on)

    now_barred : old.is_open ≡ true → (old.is_open ≡ true) × (true ≡ false → old.is_barred ≡ false)
    now_barred h = (h, λ g. absurd (false≢true (sym g)))

    acts : Acting old job (λ r w. Turns old w)
    acts = record {
      begins = λ entry next none writes faults low. record {
        doubt = λ d h. Doubt_now.kept h refl;
        audits = Audits_are.drew job runs none (first_job old job runs entry) refl;
        opened = λ d h. same_open;
        stay = stay_by WriteBody _ next (λ e. absurd (no_sync WriteBody tt e)) (went _ _ refl refl);
      };
      syncs = λ a next flight mine faults low. goes_on SyncBody _ (advanced job) next tt refl refl refl refl
          refl (was_moved old a flight _) same_open;
      gates = λ a next flight mine faults low. record {
        doubt = in_doubt a _ next flight mine.0 refl refl
            (inl (found_itself old.jobs (advanced job) job runs));
        audits = Audits_are.undrawn refl (was_moved old a flight _);
        opened = λ d h. same_open;
        stay = stay_by WriteGate _ next (λ e. absurd (no_sync WriteGate tt e))
            (went _ (advanced job) refl refl);
      };
      finishes = λ a next flight mine faults low. record {
        doubt = no_doubt _ refl;
        audits = Audits_are.undrawn refl (was_moved old a flight _);
        opened = λ d h. same_open;
        stay = stay_by SyncGate _ next (λ e. inl refl) (went _ _ refl refl);
      };
      bars = λ action plain next mine faults low rose.
          ends_so action _ next (λ e. refl) refl refl refl refl (inr refl) now_barred;
      bars_gated = λ a next flight mine faults low rose. record {
        doubt = in_doubt a _ next flight mine.0 refl refl (inr refl);
        audits = Audits_are.undrawn refl (was_moved old a flight _);
        opened = λ d h. now_barred;
        stay = stay_by WriteGate _ next (λ e. absurd (no_sync WriteGate tt e)) (left_out _ refl);
      };
      begins_not = λ next none. ends_so WriteBody _ next
          (λ e. absurd (no_sync WriteBody tt e)) refl refl refl refl (inl refl) same_open;
      gates_not = λ a next flight mine. ends_so WriteGate _ next
          (λ e. absurd (no_sync WriteGate tt e)) refl refl refl refl (inr refl) same_open;
      stores = λ j o s p next call. goes_on _ _ _ next tt refl refl refl refl refl no_new same_open;
      stores_not = λ j o s p how next call. ends_so (Store j o s) _ next
          (λ e. absurd (no_sync (Store j o s) tt e)) refl refl refl refl (inl refl) same_open;
      fetches = λ j o s block p next call.
          goes_on (Fetch j o s) _ _ next tt refl refl refl refl refl no_new same_open;
      asks = λ j o round symbol p next call.
          goes_on (Ask j o round) _ _ next tt refl refl refl refl refl no_new same_open;
      works = λ o s symbols next gives.
          goes_on (Work o s) _ _ next tt refl refl refl refl refl no_new same_open;
      removes = λ j o p next call. goes_on _ _ _ next tt refl refl refl refl refl no_new same_open;
      ends = λ action how next last. ends_so action _ next
          (λ e. absurd (subst (λ a. IsLast old job a how) e last)) refl refl refl refl (inl refl) same_open;
    }

  -- nothing is in doubt any more
  settles_all : (new : State) → new.doubt ≡ None → new.audits ≡ old.audits →
      (new.append ≡ None) ⊎ (new.append ≡ old.append) →
      ((k : ℕ) (j : Job) → job_of old.jobs k ≡ Some j → Stay_is old new k j) → Turns old new
  settles_all new doubt audits append stay = record {
    doubt = no_doubt new doubt;
    audits = Audits_are.undrawn audits (λ a h none. elim append
        [ inl e ↦ some-not-none new.append a h e | inr e ↦ no_new a (sym e ∙ h) none ]);
    opened = λ d h. absurd (some-not-none new.doubt d h doubt);
    stay = stay;
  }

  gives_up : (new : State) → new.doubt ≡ old.doubt → new.records ≡ old.records → new.append ≡ None →
      new.audits ≡ old.audits → new.is_open ≡ false → Turns old new
  gives_up new doubt records append audits closed = record {
    doubt = λ d h. Doubt_now.kept (sym doubt ∙ h) records;
    audits = Audits_are.undrawn audits (λ a h none. some-not-none new.append a h append);
    opened = λ d h. not_open new closed;
    stay = λ k j h. Stay_is.shut closed;
  }

  failed : (s : Setup) (doubt : Option Doubt) (faults : ℕ) → old.is_open ≡ false →
      LeavesDoubt old s doubt → Turns old (record old { doubt = doubt; disk_faults = faults })
  failed s doubt faults closed (inl e) = quiet _ e refl refl refl same_open (λ k j h. h)
  failed s doubt faults closed (inr (none, e)) = record {
    doubt = λ d h. (let f : record { entry = SetUp s; maker = None } ≡ d = cc in
        Doubt_now.set_up s (cc) (cc) (is_some-none (setup_of old.records) none) closed);
    audits = Audits_are.undrawn refl no_new;
    opened = λ d h. same_open;
    stay = λ k j h. Stay_is.stayed h;
  }

  events : (limit moment : ℕ) → Cases limit moment old (λ e r w. Turns old w)
  events limit moment = record {
    still = λ e r h. quiet old refl refl refl refl same_open (λ k j h. h);
    acts = λ job runs is_open unbarred. acts job runs;
    alone = λ number x r new at is_open unbarred h. (let a = steps_aside old x r new h in
        quiet new a.doubt a.records a.audits a.append (λ g. (sym a.is_open ∙ g, λ z. unbarred))
        (λ k j g. cc));
    begins = λ kind is_open allowed. quiet _ refl refl refl refl same_open (λ k j h. still_found _ _ k j h);
    begins_at = λ profile name bytes is_open allowed. quiet _ refl refl refl refl same_open
        (λ k j h. still_found _ _ k j h);
    scrub = λ allowed. quiet _ refl refl refl refl same_open (λ k j h. h);
    pack = λ allowed. quiet _ refl refl refl refl same_open (λ k j h. h);
    stops = λ picks rs js area so. settles_all _ refl refl (inl refl) (λ k j h. Stay_is.shut refl);
    opens = λ rs js area so up faults low. settles_all _ refl refl (inl refl) (λ k j h. Stay_is.undoubted refl);
    opens_not = λ why rs js area so faults low.
        settles_all _ refl refl (inl refl) (λ k j h. Stay_is.undoubted refl);
    reads_not = λ why faults low. gives_up _ refl refl refl refl refl;
    sets_up = λ s rs js good closed so none faults low.
        settles_all _ refl refl (inr refl) (λ k j h. Stay_is.stayed h);
    sets_up_not = λ s why doubt good closed so faults low. failed s doubt faults closed so;
    is_set_up = λ s rs js closed so faults low.
        settles_all _ refl refl (inr refl) (λ k j h. Stay_is.stayed h);
    replaces = λ e j IsThere changed p still counts call. quiet _ refl refl refl refl same_open (λ k j h. h);
    replaces_not = λ e j IsThere changed p still call. quiet _ refl refl refl refl same_open (λ k j h. h);
    continues = gives_up _ refl refl refl refl refl;
  }

  -- what each event does to the record in doubt, to the begins of audits, and to jobs that run on
  pub turns : (limit moment : ℕ) (e : Event) (r : Outcome) (new : State) → Happens limit moment old e r new →
      Turns old new
  turns limit moment e r new h =
      by_event limit moment old (λ e r w. Turns old w) (events limit moment) e r new h
