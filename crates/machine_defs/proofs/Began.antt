-- A running job is the one that its begin began.
use Rattle.machine_defs.proofs.Words.{◌≡◌, ◌⊎◌, refl, ap, sym, subst, ◌∙◌, inl, inr, arith, Kind, PutJob, GetJob, AuditJob, Job, job_of, with_job, without_job, advanced, Answer, Event, Init, Begin, BeginAt, Step, Stop, Reopen, Continue, Outcome, Ready, Refused, Opened, Begun, More, Ended, Replaced, NothingHeld, Stopped, Continued, State, Alone, IsStart, Settles, beginning, StepsAlone, reread, Stops, Reopens, Continues, Happens, Moment, now, IsRun, IsBeginOf, NoneBegan, WasBegun, IsPutBegin, GivesUp, IsOfJob}
use Rattle.std.proofs.Common.{ℕ, List, [], ◌∷◌, ◌++◌, length, Option, Some, None}
use Rattle.machine_defs.specs.Refusals as refusal
use Rattle.machine_defs.specs.Answers as answer
use Rattle.machine_defs.proofs.Asides.{steps_aside}
use Rattle.machine_defs.proofs.StepEnds.{HasFailed, alone_fails}
use Rattle.machine_defs.proofs.Cases.{IsStill, IsStepped, Acting, Beside, Cases, by_action, by_alone, by_step, by_event}
use Rattle.machine_defs.proofs.Changes.{IsLone}
use Rattle.machine_defs.proofs.JobLists.{found_with, found_without, found_more, found_none}
use Rattle.machine_defs.proofs.Numbers.{objects}
use Rattle.machine_defs.proofs.Numbers as num

-- an outcome that ends no job
abbrev IsNoEnd : Outcome → Type 0
IsNoEnd (Ended how) = ⊥
IsNoEnd r = Unit {0}

-- an outcome that is no begin
abbrev IsNoBegin : Outcome → Type 0
IsNoBegin (Begun number) = ⊥
IsNoBegin r = Unit {0}

-- a job after an event that began none
pub record Had (old : State) (k : ℕ) (j : Job) : Type 0 where
  pub job : Job
  pub runs : job_of old.jobs k ≡ Some job
  pub kind : j.kind ≡ job.kind
  pub profile : j.profile ≡ job.profile
  pub begun : j.begun ≡ job.begun

-- a running job after an event: it ran before, or the event is its begin
pub data Came (moment : ℕ) (old : State) (e : Event) (r : Outcome) (k : ℕ) (j : Job) : Type 0 where
  had : Had old k j → ((n : ℕ) → r ≡ Begun n → n ≡ old.next_job) → Came moment old e r k j
  fresh : IsBeginOf e j → r ≡ Begun k → j.begun ≡ moment → Came moment old e r k j

abbrev AllCame : ℕ → State → Event → Outcome → List Job → Type 0
AllCame moment old e r js = (k : ℕ) (j : Job) → job_of js k ≡ Some j → Came moment old e r k j

module _ (moment : ℕ) (old : State) where
  itself : (k : ℕ) (j : Job) → job_of old.jobs k ≡ Some j → Had old k j
  itself k j h = record { job = j; runs = h; kind = refl; profile = refl; begun = refl }

  -- an event that began none
  kept : (e : Event) (r : Outcome) (k : ℕ) (j : Job) → IsNoBegin r → Had old k j → Came moment old e r k j
  kept e r k j none h = Came.had h (λ n is. absurd (rw is at none))

  same_jobs : (e : Event) (r : Outcome) → IsNoBegin r → AllCame moment old e r old.jobs
  same_jobs e r none k j h = kept e r k j none (itself k j h)

  no_jobs : (e : Event) (r : Outcome) → AllCame moment old e r []
  no_jobs e r k j h = absurd (found_none [] k j refl h)

  module _ (job : Job) (runs : job_of old.jobs job.number ≡ Some job) where
    over : (how : Answer) → AllCame moment old (Step job.number) (Ended how) (without_job old.jobs job.number)
    over how k j h = kept (Step job.number) (Ended how) k j tt
        (itself k j (found_without old.jobs job.number k j h).1)

    on : (y : Job) → y.number ≡ job.number → y.kind ≡ job.kind → y.profile ≡ job.profile →
        y.begun ≡ job.begun → AllCame moment old (Step job.number) More (with_job old.jobs y)
    on y number kind profile begun k j h = kept (Step job.number) More k j tt
        (elim (found_with old.jobs y k j h) [
          | inl p ↦ record {
            job = job;
            runs = subst (λ n. job_of old.jobs n ≡ Some job) (sym (p.0 ∙ number)) runs;
            kind = ap (λ (x : Job). x.kind) p.1 ∙ kind;
            profile = ap (λ (x : Job). x.profile) p.1 ∙ profile;
            begun = ap (λ (x : Job). x.begun) p.1 ∙ begun;
          }
          | inr q ↦ itself k j q.1
        ])

    acts : Acting old job (λ r w. AllCame moment old (Step job.number) r w.jobs)
    acts = record {
      begins = λ entry next none writes faults low. on _ refl refl refl refl;
      syncs = λ a next flight mine faults low. on (advanced job) refl refl refl refl;
      gates = λ a next flight mine faults low. on (advanced job) refl refl refl refl;
      finishes = λ a next flight mine faults low. on _ refl refl refl refl;
      bars = λ action plain next mine faults low rose. over answer.DiskFault;
      bars_gated = λ a next flight mine faults low rose. over answer.DiskFault;
      begins_not = λ next none. over answer.Memory;
      gates_not = λ a next flight mine. over answer.Memory;
      stores = λ j o s p next call. on (advanced job) refl refl refl refl;
      stores_not = λ j o s p how next call. over how;
      fetches = λ j o s block p next call. on _ refl refl refl refl;
      asks = λ j o round symbol p next call. on _ refl refl refl refl;
      works = λ o s symbols next gives. on _ refl refl refl refl;
      removes = λ j o p next call. on (advanced job) refl refl refl refl;
      ends = λ action how next last. over how;
    }

  next_is : (n : ℕ) → Begun old.next_job ≡ Begun n → n ≡ old.next_job
  next_is n h = (let f : old.next_job ≡ n = cc in sym f)

  begun : (e : Event) (kind : Kind) (profile : Option ℕ) → IsBeginOf e (beginning old moment kind profile) →
      AllCame moment old e (Begun old.next_job) (old.jobs ++ beginning old moment kind profile ∷ [])
  begun e kind profile is k j h = elim (found_more old.jobs (beginning old moment kind profile) k j h) [
    | inl p ↦ Came.fresh (subst (IsBeginOf e) (sym p.1) is) (ap Begun (sym p.0)) (ap (λ x. x.begun) p.1)
    | inr q ↦ Came.had (itself k j q) next_is
  ]

  comes : (limit : ℕ) → Cases limit moment old (λ e r w. AllCame moment old e r w.jobs)
  comes limit = record {
    still = λ e r h. same_jobs e r (none_begun e r h);
    acts = λ job runs is_open unbarred. acts job runs;
    alone = λ number x r w at is_open unbarred h.
        subst (AllCame moment old (Step number) r) (sym (steps_aside old x r w h).jobs)
        (same_jobs (Step number) r (by_alone old x (λ r w. IsNoBegin r) (beside x) r w h));
    begins = λ kind is_open allowed. begun (Begin kind) kind None (inl refl);
    begins_at = λ profile name bytes is_open allowed. begun (BeginAt profile name bytes) (PutJob name bytes)
        (Some profile) (inr (name, bytes, refl, refl));
    scrub = λ allowed k j h. Came.had (itself k j h) next_is;
    pack = λ allowed k j h. Came.had (itself k j h) next_is;
    stops = λ picks rs js area so. no_jobs (Stop picks) Stopped;
    opens = λ rs js area so up faults low. no_jobs Reopen Opened;
    opens_not = λ why rs js area so faults low. no_jobs Reopen (Refused why);
    reads_not = λ why faults low. no_jobs Reopen (Refused why);
    sets_up = λ s rs js good closed so none faults low. same_jobs (Init s) Ready tt;
    sets_up_not = λ s why doubt good closed so faults low. same_jobs (Init s) (Refused why) tt;
    is_set_up = λ s rs js closed so faults low. same_jobs (Init s) (Refused refusal.Already) tt;
    replaces = λ e j IsThere changed p still counts call. same_jobs e Replaced tt;
    replaces_not = λ e j IsThere changed p still call. same_jobs e NothingHeld tt;
    continues = no_jobs Continue Continued;
  }
    where
      none_begun : (e : Event) (r : Outcome) → IsStill e r → IsNoBegin r
      none_begun Continue r h = absurd h
      none_begun e (Begun number) h = absurd h
      none_begun e r h = tt

      stepped : (r : Outcome) → IsStepped r → IsNoBegin r
      stepped (Begun number) h = h
      stepped r h = tt

      beside : (x : Alone) → Beside old x (λ r w. IsNoBegin r)
      beside x = record {
        stores = λ scrub rest j o s p at todo call. tt;
        stores_not = λ j p how call. tt;
        fetches = λ scrub left j o s block p call. tt;
        aside = λ left r h. stepped r h;
        packs = λ left is_barred switching journal area faults r h low. stepped r h;
      }

-- a running job ran before an event, or the event is its begin
pub came_all : (old : State) (limit moment : ℕ) (e : Event) (r : Outcome) (new : State) →
    Happens limit moment old e r new → AllCame moment old e r new.jobs
came_all old limit moment e r new h =
    by_event limit moment old (λ e r w. AllCame moment old e r w.jobs) (comes moment old limit) e r new h

-- a job of the same kind, profile and begin was begun by the same event
pub same_begin : (e : Event) (x j : Job) → j.kind ≡ x.kind → j.profile ≡ x.profile → IsBeginOf e x →
    IsBeginOf e j
same_begin e x j kind profile (inl is) = inl (is ∙ ap Begin (sym kind))
same_begin e x j kind profile (inr (name, bytes, x_kind, is)) =
    inr (name, bytes, kind ∙ x_kind, is ∙ ap (λ p. BeginAt p name bytes) (sym profile))

-- a running job is the one that the last begin of its number began
pub was_begun : (limit : ℕ) (start : State) → IsStart start → (ms : List Moment) → IsRun limit start ms →
    (k : ℕ) (j : Job) → job_of (now start ms).jobs k ≡ Some j → WasBegun ms k j
was_begun limit start clean [] run k j h = absurd (found_none start.jobs k j clean.jobs h)
was_begun limit start clean (m ∷ ms) run k j h =
    elim (came_all (now start ms) limit (length ms) m.event m.outcome m.state run.1 k j h) [
      | Came.fresh event outcome begun ↦ record {
        later = [];
        moment = m;
        before = ms;
        split = refl;
        begun = begun;
        event = event;
        outcome = outcome;
        last = tt;
      }
      | Came.had x numbered ↦ (let b = was_begun limit start clean ms run.2 k x.job x.runs in
          let l = (num.facts objects limit start clean ms run.2).jobs_below k x.job x.runs in
          record {
            later = m ∷ b.later;
            moment = b.moment;
            before = b.before;
            split = ap (λ hs. m ∷ hs) b.split;
            begun = x.begun ∙ b.begun;
            event = same_begin b.moment.event x.job j x.kind x.profile b.event;
            outcome = b.outcome;
            last = (λ out. (let e = numbered k out in omega arith), b.last);
          })
    ]

-- the last begin of a number, in two ways to find it, is one moment
one_last : (number : ℕ) (later rest : List Moment) (m n : Moment) (before older : List Moment) →
    later ++ m ∷ before ≡ rest ++ n ∷ older → m.outcome ≡ Begun number → n.outcome ≡ Begun number →
    NoneBegan number later → NoneBegan number rest → (m ≡ n) × (before ≡ older)
one_last number [] [] m n before older is out other none last = (cc, cc)
one_last number [] (x ∷ rest) m n before older is out other none last =
    (let e : m ≡ x = cc in absurd (last.0 (sym (ap (λ (y : Moment). y.outcome) e) ∙ out)))
one_last number (x ∷ later) [] m n before older is out other none last =
    (let e : x ≡ n = cc in absurd (none.0 (ap (λ (y : Moment). y.outcome) e ∙ other)))
one_last number (x ∷ later) (y ∷ rest) m n before older is out other none last = one_last number later rest m
    n before older (let e : later ++ m ∷ before ≡ rest ++ n ∷ older = cc in e) out other none.1 last.1

-- a job that runs with the number of a begin, behind which none of that number came, is the one begun there
pub is_begun : (limit : ℕ) (start : State) → IsStart start → (later before : List Moment) (m : Moment) →
    IsRun limit start (later ++ m ∷ before) → (k : ℕ) (j : Job) → m.outcome ≡ Begun k → NoneBegan k later →
    job_of (now start (later ++ m ∷ before)).jobs k ≡ Some j → (j.begun ≡ length before) × IsBeginOf m.event j
is_begun limit start clean later before m run k j out none h =
    (let b = was_begun limit start clean (later ++ m ∷ before) run k j h in
    let e = one_last k later b.later m b.moment before b.before b.split out b.outcome none b.last in
    (b.begun ∙ ap length (sym e.1), subst (λ (x : Moment). IsBeginOf x.event j) (sym e.0) b.event))

-- a job begun by the begin of a put of these bytes is one
pub put_of : (e : Event) (j : Job) (name bytes : List ℕ) → IsBeginOf e j → IsPutBegin e name bytes →
    j.kind ≡ PutJob name bytes
put_of e j name bytes (inl is) (inl p) = cc (sym is ∙ p)
put_of e j name bytes (inl is) (inr (profile, p)) = absurd (cc (sym is ∙ p))
put_of e j name bytes (inr (n, by, kind, is)) (inl p) = absurd (cc (sym is ∙ p))
put_of e j name bytes (inr (n, by, kind, is)) (inr (profile, p)) = (let f = sym is ∙ p in
    kind ∙ cc)

-- a job begun by a begin with no profile of its own is of the kind
pub kind_of : (e : Event) (j : Job) (name : List ℕ) → IsBeginOf e j → e ≡ Begin (GetJob name) →
    j.kind ≡ GetJob name
kind_of e j name (inl is) p = cc (sym is ∙ p)
kind_of e j name (inr (n, by, kind, is)) p = absurd (cc (sym is ∙ p))

-- ---- which job a step ended

not_failed : (how : Answer) → IsOfJob how → HasFailed how → ⊥
not_failed (answer.Lost stripe row) h f = h
not_failed (answer.ProviderFault provider) h f = h
not_failed answer.DiskFault h f = h
not_failed answer.Memory h f = h
not_failed (answer.Scrubbed stripes symbols blocks) h f = h
not_failed (answer.Packed before after) h f = h
not_failed how h f = f

-- a step that ended with an answer of a job is one of a running job
pub ended_job : (limit moment : ℕ) (old : State) (e : Event) (r : Outcome) (new : State) (number : ℕ)
    (how : Answer) → IsOfJob how → e ≡ Step number → r ≡ Ended how → Happens limit moment old e r new →
    (job : Job) × (job_of old.jobs number ≡ Some job) × (job.number ≡ number)
ended_job limit moment old e r new number how good event outcome h =
    by_step old Found (λ n o still is. absurd (subst (IsStill (Step n)) is still))
    (λ job runs is_open unbarred action o w next free made is. (job, runs, refl))
    (λ n x o w at is_open unbarred made is. absurd (not_failed how good
    (alone_fails old (beginning old 0 AuditJob None) w x how (subst (λ z. StepsAlone old x z w) is made))))
    number old.is_open r new refl (subst (λ x. Happens limit moment old x r new) event h) outcome
  where
    Found : ℕ → Outcome → State → Type 0
    Found n o w = o ≡ Ended how → (job : Job) × (job_of old.jobs n ≡ Some job) × (job.number ≡ n)

-- ---- jobs that are gone

-- a step of a running job that ended leaves the others
ended_leaves : (old : State) (job : Job) →
    Acting old job (λ r new. IsNoEnd r ⊎ (new.jobs ≡ without_job old.jobs job.number))
ended_leaves old job = record {
  begins = λ entry next none writes faults low. inl tt;
  syncs = λ a next flight mine faults low. inl tt;
  gates = λ a next flight mine faults low. inl tt;
  finishes = λ a next flight mine faults low. inl tt;
  bars = λ action plain next mine faults low rose. inr refl;
  bars_gated = λ a next flight mine faults low rose. inr refl;
  begins_not = λ next none. inr refl;
  gates_not = λ a next flight mine. inr refl;
  stores = λ j o s p next call. inl tt;
  stores_not = λ j o s p how next call. inr refl;
  fetches = λ j o s block p next call. inl tt;
  asks = λ j o round symbol p next call. inl tt;
  works = λ o s symbols next gives. inl tt;
  removes = λ j o p next call. inl tt;
  ends = λ action how next last. inr refl;
}

-- a running job that a step ended no longer runs
pub ended_gone : (limit moment : ℕ) (old : State) (e : Event) (r : Outcome) (new : State) (number : ℕ)
    (how : Answer) (job : Job) → IsLone old → job_of old.jobs number ≡ Some job → e ≡ Step number →
    r ≡ Ended how → Happens limit moment old e r new → new.jobs ≡ without_job old.jobs number
ended_gone limit moment old e r new number how job lone runs event outcome h =
    elim (by_step old Gone (λ n o still x. inl (no_end n o still))
    (λ x runs is_open unbarred action o w next free made given.
    by_action old x _ (ended_leaves old x) action o w next free made)
    (λ n x o w at is_open unbarred made given. absurd (found_none old.jobs n given.0 (lone x at) given.1))
    number old.is_open r new refl (subst (λ (x : Event). Happens limit moment old x r new) event h)
    (job, runs)) [
      | inl no_end ↦ absurd (subst IsNoEnd outcome no_end)
      | inr gone ↦ gone
    ]
  where
    Gone : ℕ → Outcome → State → Type 0
    Gone n o w = ((x : Job) × (job_of old.jobs n ≡ Some x)) → IsNoEnd o ⊎ (w.jobs ≡ without_job old.jobs n)

    no_end : (n : ℕ) (o : Outcome) → IsStill (Step n) o → IsNoEnd o
    no_end n (Ended how) h = absurd h
    no_end n o h = tt

settled_jobs : (left mid : State) → Settles left mid → mid.jobs ≡ left.jobs
settled_jobs left mid (inl is) = ap (λ (w : State). w.jobs) is
settled_jobs left mid (inr (d, at, is)) = ap (λ (w : State). w.jobs) is

stops_none : (old : State) (r : Outcome) (new : State) → Stops old r new → new.jobs ≡ []
stops_none old Stopped new (journal, area, holds, h) = settled_jobs (reread old journal area) new h
stops_none old r new h = absurd h

reopens_none : (old : State) (r : Outcome) (new : State) → Reopens old r new → new.jobs ≡ []
reopens_none old Opened new (mid, (journal, area, holds, s), up, enough, (faults, low, is)) =
    ap (λ (w : State). w.jobs) is ∙ settled_jobs (reread old journal area) mid s
reopens_none old (Refused refusal.NotSetUp) new (mid, (journal, area, holds, s), nothing, (faults, low, is)) =
    ap (λ (w : State). w.jobs) is ∙ settled_jobs (reread old journal area) mid s
reopens_none old (Refused refusal.TooFewProviders) new (mid, (journal, area, holds, s), up, few, (faults, low, is)) =
    ap (λ (w : State). w.jobs) is ∙ settled_jobs (reread old journal area) mid s
reopens_none old (Refused refusal.DiskFault) new (faults, low, rose, is) = ap (λ (w : State). w.jobs) is
reopens_none old (Refused refusal.Memory) new is = ap (λ (w : State). w.jobs) is
reopens_none old r new h = absurd h

continues_none : (old : State) (r : Outcome) (new : State) → Continues old r new → new.jobs ≡ []
continues_none old Continued new is = ap (λ (w : State). w.jobs) is
continues_none old r new h = absurd h

-- no job runs behind an event that gives up all
pub given_up_none : (limit moment : ℕ) (old : State) (e : Event) (r : Outcome) (new : State) → GivesUp e →
    Happens limit moment old e r new → new.jobs ≡ []
given_up_none limit moment old (Stop picks) r new up h = stops_none old r new h
given_up_none limit moment old Reopen r new up h = reopens_none old r new h
given_up_none limit moment old Continue r new up h = continues_none old r new h
given_up_none limit moment old e r new up h = absurd up
