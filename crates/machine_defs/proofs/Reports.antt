-- What a report has of a job is what that job heard.
use Rattle.machine_defs.proofs.Words.{◌≡◌, ◌≤◌, ◌⊎◌, refl, ap, sym, subst, ◌∙◌, inl, inr, arith, cases_Bool, eqb-true, append-nil, Kind, GetJob, AuditJob, Given, Fetched, Answered, Worked, Job, job_of, without_job, Answer, Event, Init, Step, Stop, Reopen, Continue, Outcome, Ready, Refused, Opened, More, Ended, Replaced, NothingHeld, Stopped, State, IsStart, Happens, Moment, now, IsRun, Entry, entries_of, heard_by_kind, heard_by, heard_at, reported_after, heard_in, given_to, NoneContinues, EndsJob}
use Rattle.std.proofs.Common.{ℕ, ◌<◌, ◌==◌, List, [], ◌∷◌, ◌++◌, length, Some}
use Rattle.std.proofs.lemmas.List.{append_assoc}
use Rattle.machine_defs.specs.Refusals as refusal
use Rattle.machine_defs.specs.Answers as answer
use Rattle.machine_defs.proofs.JobLists.{cond_true, cond_false, found_none, found_without}
use Rattle.machine_defs.proofs.Changes.{IsLone, Job_is, Changes}
use Rattle.machine_defs.proofs.Asides.{steps_aside}
use Rattle.machine_defs.proofs.Cases.{IsStill, Acting, Cases, by_event}
use Rattle.machine_defs.proofs.Events.{changes}
use Rattle.machine_defs.proofs.Numbers.{objects}
use Rattle.machine_defs.proofs.Numbers as num

-- what entries give a job, of two lists of them
given_append : (k : ℕ) (xs ys : List Entry) → given_to k (xs ++ ys) ≡ given_to k ys ++ given_to k xs
given_append k [] ys = sym (append-nil (given_to k ys))
given_append k (x ∷ xs) ys = elim (cases_Bool (x.job == k)) [
  | inl t ↦ cond_true (x.job == k) (given_to k (xs ++ ys) ++ x.given ∷ []) (given_to k (xs ++ ys)) t
      ∙ (ap (λ l. l ++ x.given ∷ []) (given_append k xs ys)
      ∙ (append_assoc (given_to k ys) (given_to k xs) (x.given ∷ [])
      ∙ ap (λ l. given_to k ys ++ l)
      (sym (cond_true (x.job == k) (given_to k xs ++ x.given ∷ []) (given_to k xs) t))))
  | inr f ↦ cond_false (x.job == k) (given_to k (xs ++ ys) ++ x.given ∷ []) (given_to k (xs ++ ys)) f
      ∙ (given_append k xs ys
      ∙ ap (λ l. given_to k ys ++ l)
      (sym (cond_false (x.job == k) (given_to k xs ++ x.given ∷ []) (given_to k xs) f)))
]

-- entries of one job give another nothing
other_entry : (k n : ℕ) (g : Given) (xs : List Entry) → (n ≡ k → ⊥) → given_to k xs ≡ [] →
    given_to k (xs ++ record { job = n; given = g } ∷ []) ≡ []
other_entry k n g xs apart h = given_append k xs (record { job = n; given = g } ∷ [])
    ∙ (ap (λ l. given_to k (record { job = n; given = g } ∷ []) ++ l) h
    ∙ (append-nil (given_to k (record { job = n; given = g } ∷ []))
    ∙ elim (cases_Bool (n == k)) [
      | inl t ↦ absurd (apart (eqb-true n k t))
      | inr f ↦ cond_false (n == k) (g ∷ []) [] f
    ]))

others_nothing : (k n : ℕ) (given : List Given) → (n ≡ k → ⊥) → given_to k (entries_of n given) ≡ []
others_nothing k n [] apart = refl
others_nothing k n (Worked o s symbols ∷ more) apart = others_nothing k n more apart
others_nothing k n (Fetched i o s block ∷ more) apart =
    other_entry k n (Fetched i o s block) (entries_of n more) apart (others_nothing k n more apart)
others_nothing k n (Answered i o r symbol ∷ more) apart =
    other_entry k n (Answered i o r symbol) (entries_of n more) apart (others_nothing k n more apart)

others_hear : (k : ℕ) (x : Job) (kind : Kind) → (x.number ≡ k → ⊥) → given_to k (heard_by_kind x kind) ≡ []
others_hear k x (GetJob name) apart = others_nothing k x.number x.given apart
others_hear k x AuditJob apart = others_nothing k x.number x.given apart
others_hear k x kind apart = refl

-- an outcome that ends no job
abbrev IsNoEnd : Outcome → Type 0
IsNoEnd (Ended how) = ⊥
IsNoEnd r = Unit {0}

-- an event that ends no job: by its outcome, or since no job runs
abbrev EndsNone : State → Outcome → Type 0
EndsNone old r = IsNoEnd r ⊎ (old.jobs ≡ [])

-- what an event does to a report
pub data Report_is (old : State) (e : Event) (r : Outcome) (new : State) : Type 0 where
  anew : e ≡ Continue → heard_at old e r ≡ [] → Report_is old e r new
  same : ((xs : List Entry) → reported_after e xs ≡ xs) → heard_at old e r ≡ [] → EndsNone old r →
      old.next_job ≤ new.next_job → Report_is old e r new
  ended : (x : Job) → e ≡ Step x.number → ((xs : List Entry) → reported_after e xs ≡ xs) →
      heard_at old e r ≡ heard_by (Some x) → job_of old.jobs x.number ≡ Some x →
      new.jobs ≡ without_job old.jobs x.number → old.next_job ≤ new.next_job → Report_is old e r new

module _ (old : State) where
  module _ (job : Job) (runs : job_of old.jobs job.number ≡ Some job) where
    on : (new : State) → old.next_job ≤ new.next_job → Report_is old (Step job.number) More new
    on new next = Report_is.same (λ xs. refl) refl (inl tt) next

    over : (how : Answer) (new : State) → old.next_job ≤ new.next_job →
        new.jobs ≡ without_job old.jobs job.number → Report_is old (Step job.number) (Ended how) new
    over how new next jobs = Report_is.ended job refl (λ xs. refl) (ap heard_by runs) runs jobs next

    acts : Acting old job (Report_is old (Step job.number))
    acts = record {
      begins = λ entry next none writes faults low. on _ (omega arith);
      syncs = λ a next flight mine faults low. on _ (omega arith);
      gates = λ a next flight mine faults low. on _ (omega arith);
      finishes = λ a next flight mine faults low. on _ (omega arith);
      bars = λ action plain next mine faults low rose. over answer.DiskFault _ (omega arith) refl;
      bars_gated = λ a next flight mine faults low rose. over answer.DiskFault _ (omega arith) refl;
      begins_not = λ next none. over answer.Memory _ (omega arith) refl;
      gates_not = λ a next flight mine. over answer.Memory _ (omega arith) refl;
      stores = λ j o s p next call. on _ (omega arith);
      stores_not = λ j o s p how next call. over how _ (omega arith) refl;
      fetches = λ j o s block p next call. on _ (omega arith);
      asks = λ j o round symbol p next call. on _ (omega arith);
      works = λ o s symbols next gives. on _ (omega arith);
      removes = λ j o p next call. on _ (omega arith);
      ends = λ action how next last. over how _ (omega arith) refl;
    }

  -- an event that ends no job
  quiet : (e : Event) (r : Outcome) (new : State) → IsStill e r → old.next_job ≤ new.next_job →
      Report_is old e r new
  quiet e r new still next = Report_is.same (kept e r still) (none e r still) (inl (no_end e r still)) next
    where
      kept : (e : Event) (r : Outcome) → IsStill e r → (xs : List Entry) → reported_after e xs ≡ xs
      kept Continue r h xs = absurd h
      kept e r h xs = refl

      none : (e : Event) (r : Outcome) → IsStill e r → heard_at old e r ≡ []
      none (Step number) (Ended how) h = absurd h
      none e r h = refl

      no_end : (e : Event) (r : Outcome) → IsStill e r → IsNoEnd r
      no_end Continue r h = absurd h
      no_end e (Ended how) h = absurd h
      no_end e r h = tt

  -- what runs alone is no job, and no job runs beside it
  beside : (number : ℕ) (r : Outcome) (new : State) → old.jobs ≡ [] → new.next_job ≡ old.next_job →
      Report_is old (Step number) r new
  beside number r new none next = Report_is.same (λ xs. refl) (nothing_heard r) (inr none) (omega arith)
    where
      nothing_heard : (r : Outcome) → heard_at old (Step number) r ≡ []
      nothing_heard (Ended how) = ap (λ js. heard_by (job_of js number)) none
      nothing_heard r = refl

  reports : (limit moment : ℕ) → IsLone old → Cases limit moment old (Report_is old)
  reports limit moment lone = record {
    still = λ e r h. quiet e r old h (omega arith);
    acts = λ job runs is_open unbarred. acts job runs;
    alone = λ number x r new at is_open unbarred h. beside number r new (lone x at) (steps_aside old x r new h).next_job;
    begins = λ kind is_open allowed. Report_is.same (λ xs. refl) refl (inl tt) (omega arith);
    begins_at = λ profile name bytes is_open allowed. Report_is.same (λ xs. refl) refl (inl tt) (omega arith);
    scrub = λ allowed. Report_is.same (λ xs. refl) refl (inl tt) (omega arith);
    pack = λ allowed. Report_is.same (λ xs. refl) refl (inl tt) (omega arith);
    stops = λ picks rs js area so. quiet (Stop picks) Stopped _ tt (omega arith);
    opens = λ rs js area so up faults low. quiet Reopen Opened _ tt (omega arith);
    opens_not = λ why rs js area so faults low. quiet Reopen (Refused why) _ tt (omega arith);
    reads_not = λ why faults low. quiet Reopen (Refused why) _ tt (omega arith);
    sets_up = λ s rs js good closed so none faults low. quiet (Init s) Ready _ tt (omega arith);
    sets_up_not = λ s why doubt good closed so faults low. quiet (Init s) (Refused why) _ tt (omega arith);
    is_set_up = λ s rs js closed so faults low. quiet (Init s) (Refused refusal.Already) _ tt (omega arith);
    replaces = λ e j IsThere changed p still counts call. quiet e Replaced _ still (omega arith);
    replaces_not = λ e j IsThere changed p still call. quiet e NothingHeld _ still (omega arith);
    continues = Report_is.anew refl refl;
  }

  report : (limit moment : ℕ) (e : Event) (r : Outcome) (new : State) → IsLone old →
      Happens limit moment old e r new → Report_is old e r new
  report limit moment e r new lone h =
      by_event limit moment old (Report_is old) (reports limit moment lone) e r new h

-- a job that runs after an event ran before, or its number was the next one
ran : (limit moment : ℕ) (old : State) (e : Event) (r : Outcome) (new : State) (k : ℕ) (j : Job) →
    Changes limit moment old e r new → job_of new.jobs k ≡ Some j →
    ((x : Job) × (job_of old.jobs k ≡ Some x)) ⊎ (k ≡ old.next_job)
ran limit moment old e r new k j X h = elim (X.job k j h) [
  | Job_is.kept runs grown ↦ inl (j, runs)
  | Job_is.begun kind profile is k_is allowed rec ↦ inr k_is
  | Job_is.plain x action runs next_is is_plain goes rec st ↦ inl (x, runs)
  | Job_is.drew x runs next_is none_ is rec ↦ inl (x, runs)
  | Job_is.finished x a runs next_is flight mine is rec none_ ↦ inl (x, runs)
]

-- of running jobs, and of numbers not yet given, a report has nothing
record Fresh (start : State) (ms : List Moment) : Type 0 where
  pub running : (k : ℕ) (j : Job) → job_of (now start ms).jobs k ≡ Some j →
      given_to k (heard_in start ms) ≡ []
  pub above : (k : ℕ) → (now start ms).next_job ≤ k → given_to k (heard_in start ms) ≡ []

-- what an event adds to what a report gives a job
added : (start : State) (m : Moment) (ms : List Moment) (k : ℕ) →
    ((xs : List Entry) → reported_after m.event xs ≡ xs) →
    given_to k (heard_at (now start ms) m.event m.outcome) ≡ [] →
    given_to k (heard_in start (m ∷ ms)) ≡ given_to k (heard_in start ms)
added start m ms k kept none =
    given_append k (reported_after m.event (heard_in start ms)) (heard_at (now start ms) m.event m.outcome)
    ∙ (ap (λ l. l ++ given_to k (reported_after m.event (heard_in start ms))) none
    ∙ ap (given_to k) (kept (heard_in start ms)))

module _ (limit : ℕ) (start : State) (clean : IsStart start) where
  abbrev Run : List Moment → Type 0
  Run ms = IsRun limit start ms

  change : (m : Moment) (ms : List Moment) → Run (m ∷ ms) →
      Changes limit (length ms) (now start ms) m.event m.outcome m.state
  change m ms run = changes limit (length ms) (now start ms) m.event m.outcome m.state
      (num.facts objects limit start clean ms run.2).idle run.1

  lone : (ms : List Moment) → Run ms → IsLone (now start ms)
  lone ms run = (num.facts objects limit start clean ms run).idle.lone

  below : (ms : List Moment) → Run ms → (k : ℕ) (j : Job) → job_of (now start ms).jobs k ≡ Some j →
      k < (now start ms).next_job
  below ms run = (num.facts objects limit start clean ms run).jobs_below

  fresh : (ms : List Moment) → Run ms → Fresh start ms
  fresh [] run = record { running = λ k j h. refl; above = λ k l. refl }
  fresh (m ∷ ms) run = (let F = fresh ms run.2 in
      elim (report (now start ms) limit (length ms) m.event m.outcome m.state (lone ms run.2) run.1) [
        | Report_is.anew is none ↦ (let all : (k : ℕ) → given_to k (heard_in start (m ∷ ms)) ≡ [] = λ k.
            ap (λ l. given_to k (reported_after m.event (heard_in start ms) ++ l)) none
            ∙ ap (λ (e : Event). given_to k (reported_after e (heard_in start ms) ++ [])) is in
            record { running = λ k j h. all k; above = λ k l. all k })
        | Report_is.same kept none no_end next ↦ record {
          running = λ k j h. added start m ms k kept (ap (given_to k) none)
              ∙ elim (ran limit (length ms) (now start ms) m.event m.outcome m.state k j (change m ms run) h) [
                | inl x ↦ F.running k x.0 x.1
                | inr is ↦ F.above k (omega (arith, is))
              ];
          above = λ k l. added start m ms k kept (ap (given_to k) none) ∙ F.above k (omega arith);
        }
        | Report_is.ended x at kept heard runs jobs next ↦ record {
          running = λ k j h. (let q = found_without (now start ms).jobs x.number k j
              (ap (λ l. job_of l k) (sym jobs) ∙ h) in
              added start m ms k kept (ap (given_to k) heard ∙ others_hear k x x.kind (λ e. q.0 (sym e)))
              ∙ F.running k j q.1);
          above = λ k l. (let low = below ms run.2 x.number x runs in
              added start m ms k kept (ap (given_to k) heard ∙ others_hear k x x.kind (λ e. omega arith))
              ∙ F.above k (omega arith));
        }
      ])

  -- a job that has ended: it does not run, and its number is not given again
  pub record Over (ms : List Moment) (n : ℕ) : Type 0 where
    pub gone : (j : Job) → job_of (now start ms).jobs n ≡ Some j → ⊥
    pub low : n < (now start ms).next_job

  module _ (job : Job) where
    over_at : (m : Moment) (ms : List Moment) → Run (m ∷ ms) → EndsJob start m ms job →
        Over (m ∷ ms) job.number
    over_at m ms run e = elim (report (now start ms) limit (length ms) m.event m.outcome m.state
        (lone ms run.2) run.1) [
          | Report_is.anew is none ↦ absurd (let f : Step job.number ≡ Continue = sym e.event ∙ is in cc)
          | Report_is.same kept none (inl no_end) next ↦ absurd (subst IsNoEnd e.outcome no_end)
          | Report_is.same kept none (inr idle) next ↦ absurd
              (found_none (now start ms).jobs job.number job idle e.runs)
          | Report_is.ended x at kept heard runs jobs next ↦ (let same : job.number ≡ x.number
              = (let f : Step job.number ≡ Step x.number = sym e.event ∙ at in cc) in
              let low = below ms run.2 job.number job e.runs in
              record {
                gone = λ j h. (found_without (now start ms).jobs x.number job.number j
                    (ap (λ l. job_of l job.number) (sym jobs) ∙ h)).0 same;
                low = omega arith;
              })
        ]

    value_at : (m : Moment) (ms : List Moment) → Run (m ∷ ms) → EndsJob start m ms job →
        given_to job.number (heard_in start (m ∷ ms)) ≡ given_to job.number (heard_by (Some job))
    value_at m ms run e = ap (λ (x : Event). given_to job.number
        (reported_after x (heard_in start ms) ++ heard_at (now start ms) x m.outcome)) e.event
        ∙ (ap (λ (r : Outcome). given_to job.number
        (heard_in start ms ++ heard_at (now start ms) (Step job.number) r)) e.outcome
        ∙ (ap (λ o. given_to job.number (heard_in start ms ++ heard_by o)) e.runs
        ∙ (given_append job.number (heard_in start ms) (heard_by (Some job))
        ∙ (ap (λ l. given_to job.number (heard_by (Some job)) ++ l)
        ((fresh ms run.2).running job.number job e.runs)
        ∙ append-nil (given_to job.number (heard_by (Some job)))))))

    -- a job that has ended is over, and a report keeps what it heard, until a later call of the program
    pub stays : (later : List Moment) (m : Moment) (ms : List Moment) → Run (later ++ m ∷ ms) →
        EndsJob start m ms job → NoneContinues later →
        Over (later ++ m ∷ ms) job.number ×
        (given_to job.number (heard_in start (later ++ m ∷ ms)) ≡ given_to job.number (heard_by (Some job)))
    stays [] m ms run e none = (over_at m ms run e, value_at m ms run e)
    stays (p ∷ later) m ms run e none = (let before = stays later m ms run.2 e none.1 in
        let old = now start (later ++ m ∷ ms) in
        let G = before.0 in
        let low = G.low in
        let gone : old.next_job ≤ p.state.next_job → (j : Job) → job_of p.state.jobs job.number ≡ Some j →
        ⊥ = λ next j h.
        elim (ran limit (length (later ++ m ∷ ms)) old p.event p.outcome p.state job.number j
        (change p (later ++ m ∷ ms) run) h) [
          | inl x ↦ G.gone x.0 x.1
          | inr is ↦ omega (arith, is)
        ] in
        elim (report old limit (length (later ++ m ∷ ms)) p.event p.outcome p.state
        (lone (later ++ m ∷ ms) run.2) run.1) [
          | Report_is.anew is nothing ↦ absurd (none.0 is)
          | Report_is.same kept nothing no_end next ↦ (
            record { gone = gone next; low = omega arith },
            added start p (later ++ m ∷ ms) job.number kept (ap (given_to job.number) nothing) ∙ before.1,
          )
          | Report_is.ended x at kept heard runs jobs next ↦ (
            record { gone = gone next; low = omega arith },
            added start p (later ++ m ∷ ms) job.number kept (ap (given_to job.number) heard
                ∙ others_hear job.number x x.kind
                (λ same. G.gone x (subst (λ n. job_of old.jobs n ≡ Some x) same runs))) ∙ before.1,
          )
        ])
