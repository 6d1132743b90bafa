-- Each block that a running job was given came of a fetch since its begin.
use Rattle.second_half_laws.proofs.Words.{refl, ap, sym, subst, ◌∙◌, inl, inr, arith, eq-eqb, In, Provider, Fetches, Kind, PutJob, Pinned, Job, Given, Fetched, Worked, job_of, with_job, without_job, advanced, advanced_with, Event, Outcome, State, IsStart, worked_object, with_provider, going_on, beginning, Happens, Moment, now, IsRun, steps_aside, Acting, Cases, by_event, cond_true, found_with, found_without, found_more, found_none, all, IsHeldThen, CameOf}
use Rattle.std.proofs.Common.{◌≡◌, ℕ, ◌≤◌, ◌==◌, List, [], ◌∷◌, ◌++◌, length, Option, Some, None}

-- a gift that is a block was held by its provider
abbrev IsFound : State → State → List Pinned → Given → Type 0
IsFound old new files (Fetched i o s block) = IsHeldThen old new files i o s block
IsFound old new files gift = Unit {0}

-- what a running job was given by an event
data Gift_is (old new : State) (k : ℕ) (j : Job) : Type 0 where
  had : (x : Job) → job_of old.jobs k ≡ Some x → j.given ≡ x.given → j.begun ≡ x.begun → j.pinned ≡ x.pinned →
      Gift_is old new k j
  none : j.given ≡ [] → Gift_is old new k j
  one : (x : Job) (gift : Given) → job_of old.jobs k ≡ Some x → j.given ≡ gift ∷ x.given → j.begun ≡ x.begun →
      j.pinned ≡ x.pinned → IsFound old new x.pinned gift → Gift_is old new k j

abbrev Gifts : State → State → Type 0
Gifts old new = (k : ℕ) (j : Job) → job_of new.jobs k ≡ Some j → Gift_is old new k j

module _ (old : State) where
  same_jobs : (new : State) → new.jobs ≡ old.jobs → Gifts old new
  same_jobs new jobs k j h = Gift_is.had j (cc) refl refl refl

  no_jobs : (new : State) → new.jobs ≡ [] → Gifts old new
  no_jobs new jobs k j h = absurd (found_none new.jobs k j jobs h)

  module _ (job : Job) (runs : job_of old.jobs job.number ≡ Some job) where
    ends : (new : State) → new.jobs ≡ without_job old.jobs job.number → Gifts old new
    ends new jobs k j h = Gift_is.had j (found_without old.jobs job.number k j (cc)).1 refl refl refl

    goes_on : (new : State) (y : Job) → new.jobs ≡ with_job old.jobs y → y.number ≡ job.number →
        y.given ≡ job.given → y.begun ≡ job.begun → y.pinned ≡ job.pinned → Gifts old new
    goes_on new y jobs number given begun pinned k j h = elim (found_with old.jobs y k j (cc)) [
      | inl p ↦ Gift_is.had job (cc) (cc) (cc) (cc)
      | inr q ↦ Gift_is.had j q.1 refl refl refl
    ]

    is_given : (new : State) (gift : Given) → new.jobs ≡ with_job old.jobs (advanced_with job gift) →
        IsFound old new job.pinned gift → Gifts old new
    is_given new gift jobs found k j h = elim (found_with old.jobs (advanced_with job gift) k j (cc)) [
      | inl p ↦ Gift_is.one job gift (cc) (cc) (cc) (cc) found
      | inr q ↦ Gift_is.had j q.1 refl refl refl
    ]

    -- a fetch gave what its provider held, or none
    pub found_by : (j o s : ℕ) (block : Option (List ℕ)) (p : Provider) (new : State) →
        Fetches (worked_object old job o).profile.size o s (old.providers j) block p →
        new.providers ≡ with_provider old.providers j p → IsHeldThen old new job.pinned j o s block
    found_by j o s block p new call providers = elim call.gives [
      | inl g ↦ inl g
      | inr f ↦ inr (rw (← (ap (λ g. g j) providers ∙ cond_true (j == j) p (old.providers j)
          (eq-eqb j j refl))) at f)
    ]

    acts : Acting old job (λ r w. Gifts old w)
    acts = record {
      begins = λ entry next none writes faults low. goes_on _ _ refl refl refl refl refl;
      syncs = λ a next flight mine faults low. goes_on _ (advanced job) refl refl refl refl refl;
      gates = λ a next flight mine faults low. goes_on _ (advanced job) refl refl refl refl refl;
      finishes = λ a next flight mine faults low. goes_on _ _ refl refl refl refl refl;
      bars = λ action plain next mine faults low rose. ends _ refl;
      bars_gated = λ a next flight mine faults low rose. ends _ refl;
      begins_not = λ next none. ends _ refl;
      gates_not = λ a next flight mine. ends _ refl;
      stores = λ j o s p next call. goes_on _ (advanced job) refl refl refl refl refl;
      stores_not = λ j o s p how next call. ends _ refl;
      fetches = λ j o s block p next call.
          (let new = record (going_on old (advanced_with job (Fetched j o s block)))
          { providers = with_provider old.providers j p } in
          is_given new (Fetched j o s block) refl (found_by j o s block p new call refl));
      asks = λ j o round symbol p next call. is_given _ _ refl tt;
      works = λ o s symbols next gives. is_given _ (Worked o s symbols) refl tt;
      removes = λ j o p next call. goes_on _ (advanced job) refl refl refl refl refl;
      ends = λ action how next last. ends _ refl;
    }

  begun : (moment : ℕ) (kind : Kind) (profile : Option ℕ) (new : State) →
      new.jobs ≡ old.jobs ++ beginning old moment kind profile ∷ [] → Gifts old new
  begun moment kind profile new jobs k j h =
      elim (found_more old.jobs (beginning old moment kind profile) k j (cc)) [
        | inl p ↦ Gift_is.none (cc)
        | inr q ↦ Gift_is.had j q refl refl refl
      ]

  events : (limit moment : ℕ) → Cases limit moment old (λ e r w. Gifts old w)
  events limit moment = record {
    still = λ e r h. same_jobs old refl;
    acts = λ job runs is_open unbarred. acts job runs;
    alone = λ number x r new at is_open unbarred h. same_jobs new (steps_aside old x r new h).jobs;
    begins = λ kind is_open allowed. begun moment kind None _ refl;
    begins_at = λ profile name bytes is_open allowed. begun moment (PutJob name bytes) (Some profile) _ refl;
    scrub = λ allowed. same_jobs _ refl;
    pack = λ allowed. same_jobs _ refl;
    stops = λ picks rs js area so. no_jobs _ refl;
    opens = λ rs js area so up faults low. no_jobs _ refl;
    opens_not = λ why rs js area so faults low. no_jobs _ refl;
    reads_not = λ why faults low. no_jobs _ refl;
    sets_up = λ s rs js good closed so none faults low. same_jobs _ refl;
    sets_up_not = λ s why doubt good closed so faults low. same_jobs _ refl;
    is_set_up = λ s rs js closed so faults low. same_jobs _ refl;
    replaces = λ e j IsThere changed p still counts call. same_jobs _ refl;
    replaces_not = λ e j IsThere changed p still call. same_jobs _ refl;
    continues = no_jobs _ refl;
  }

  gifts : (limit moment : ℕ) (e : Event) (r : Outcome) (new : State) → Happens limit moment old e r new →
      Gifts old new
  gifts limit moment e r new h =
      by_event limit moment old (λ e r w. Gifts old w) (events limit moment) e r new h

-- one more event behind
further : (start : State) (m : Moment) (ms : List Moment) (begun : ℕ) (files : List Pinned) (j o s : ℕ)
    (block : Option (List ℕ)) → CameOf start ms begun files j o s block →
    CameOf start (m ∷ ms) begun files j o s block
further start m ms begun files j o s block c =
    record {
      later = m ∷ c.later;
      moment = c.moment;
      before = c.before;
      split = ap (λ l. m ∷ l) c.split;
      since = c.since;
      held = c.held;
    }

abbrev CameAll : State → List Moment → Type 0
CameAll start ms = (k : ℕ) (job : Job) (j o s : ℕ) (block : Option (List ℕ)) →
    job_of (now start ms).jobs k ≡ Some job → In (Fetched j o s block) job.given →
    CameOf start ms job.begun job.pinned j o s block

step_came : (start : State) (m : Moment) (ms : List Moment) →
    ((k : ℕ) (x : Job) → job_of (now start ms).jobs k ≡ Some x → x.begun ≤ length ms) → CameAll start ms →
    Gifts (now start ms) m.state → CameAll start (m ∷ ms)
step_came start m ms early came given_now k job j o s block h i = by_gift (given_now k job h)
  where
    before : (x : Job) → job_of (now start ms).jobs k ≡ Some x → job.begun ≡ x.begun → job.pinned ≡ x.pinned →
        In (Fetched j o s block) x.given → CameOf start (m ∷ ms) job.begun job.pinned j o s block
    before x runs begun pinned i_x = (rw (← begun) at (subst (λ l. CameOf start (m ∷ ms) x.begun l j o s
        block) (sym pinned)
        (further start m ms x.begun x.pinned j o s block (came k x j o s block runs i_x))))

    now_given : (x : Job) (gift : Given) → job_of (now start ms).jobs k ≡ Some x → job.begun ≡ x.begun →
        job.pinned ≡ x.pinned → IsFound (now start ms) m.state x.pinned gift →
        In (Fetched j o s block) (gift ∷ x.given) → CameOf start (m ∷ ms) job.begun job.pinned j o s block
    now_given x gift runs begun pinned found (inl e) = record {
      later = [];
      moment = m;
      before = ms;
      split = refl;
      since = omega (arith, early k x runs, begun);
      held = rw (← pinned) at (subst (IsFound (now start ms) m.state x.pinned) (sym e) found);
    }
    now_given x gift runs begun pinned found (inr i_x) = before x runs begun pinned i_x

    by_gift : Gift_is (now start ms) m.state k job → CameOf start (m ∷ ms) job.begun job.pinned j o s block
    by_gift (Gift_is.had x runs given begun pinned) = before x runs begun pinned (rw given at i)
    by_gift (Gift_is.none given) = absurd (rw given at i)
    by_gift (Gift_is.one x gift runs given begun pinned found) =
        now_given x gift runs begun pinned found (rw given at i)

-- in every run a block that a job was given is what its provider held at a fetch since the job's begin
pub came_of : (limit : ℕ) (start : State) → IsStart start → (ms : List Moment) → IsRun limit start ms →
    CameAll start ms
came_of limit start clean [] run = λ k job j o s block h i. absurd (found_none start.jobs k job clean.jobs h)
came_of limit start clean (m ∷ ms) run = step_came start m ms (all limit start clean ms run.2).held.begun
    (came_of limit start clean ms run.2) (gifts _ limit _ _ _ m.state run.1)
