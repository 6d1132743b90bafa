-- The file of a name stays while no job that puts or drops the name begins.
use Rattle.machine_defs.proofs.Words.{◌≡◌, ◌≤◌, ◌⊎◌, false, refl, ap, sym, subst, ◌∙◌, inl, inr, arith, cases_Bool, cases_eq, cases_lt, eq-eqb, Record, PutStart, File, file_as, setup_of, version_of, next_id, started_as, is_start_of, is_same_name, same-eq, Kind, PutJob, GetJob, DropJob, AuditJob, Job, job_of, WriteBody, SyncGate, Event, Step, Begun, More, Ended, State, Append, IsStart, Writes, done_record, is_first_append, next_action, Moment, now, IsRun, takes_out, NoneTakesOut, NeverTakenOut, IsKept, EndsPut, IsBeginOf, NoneBegan, GivesUp, Instruction, Once, RunJob, GoOn, CarriesOut, Answer, Touches, IsBeginFor, BeginsNone, NoneBeganFor, NoneRuns, NoneUnderWay, at_start, unbegun, IsBeginOn, NoneBeganOn, NoneAsksOn, NoneOn, IsUntouched}
use Rattle.std.proofs.Common.{ℕ, ◌+◌, ◌<◌, ◌==◌, List, [], ◌∷◌, ◌++◌, length, Some, None}
use Rattle.machine_defs.specs.Answers as answer
use Rattle.machine_defs.specs.Untouched.{given_up, ended}
use Rattle.machine_defs.proofs.JobLists.{cond_true, cond_false, same_value, found_none, found_without}
use Rattle.machine_defs.proofs.Changes.{IsPlain, IsGated, Grown, Job_is, Append_is, Doubt_is, Changes}
use Rattle.machine_defs.proofs.StepEnds.{event_end}
use Rattle.machine_defs.proofs.Events.{changes}
use Rattle.machine_defs.proofs.Done.{by_version, done-started}
use Rattle.machine_defs.proofs.Numbers.{objects, Draws, next_of_records, first_above, first_below, drawn_later}
use Rattle.machine_defs.proofs.Numbers as num
use Rattle.machine_defs.proofs.RecordFacts.{other_name, not_started-more}
use Rattle.machine_defs.proofs.Fair.{PutAt, put_next, stores_count, gate_place}
use Rattle.machine_defs.proofs.PinFacts.{count_same, setup_one}
use Rattle.machine_defs.proofs.PutProfiles as prof
use Rattle.machine_defs.proofs.Held.{All, all}
use Rattle.machine_defs.proofs.Survive as survive
use Rattle.machine_defs.proofs.Acknowledged.{gate_at, end_place, came_by}
use Rattle.machine_defs.proofs.Began.{Had, Came, came_all, ended_gone, given_up_none}

-- ---- begins

-- a begin of a job of a kind that is meant is one for these
begin_for : (Meant : Kind → Type 0) (e : Event) (j : Job) → IsBeginOf e j → Meant j.kind → IsBeginFor Meant e
begin_for Meant e j (inl is) t = subst (IsBeginFor Meant) (sym is) t
begin_for Meant e j (inr (n, bytes, kind, is)) t = subst (IsBeginFor Meant) (sym is) (subst Meant kind t)

no_fewer : (later ms : List Moment) → length ms ≤ length (later ++ ms)
no_fewer [] ms = omega arith
no_fewer (m ∷ later) ms = (let l = no_fewer later ms in omega arith)

-- the first moments of a run are one
pub run_back : (limit : ℕ) (start : State) (later ms : List Moment) → IsRun limit start (later ++ ms) →
    IsRun limit start ms
run_back limit start [] ms run = run
run_back limit start (m ∷ later) ms run = run_back limit start later ms run.2

-- none runs at a start
none_at_start : (Meant : Kind → Type 0) (start : State) → IsStart start → NoneRuns Meant start
none_at_start Meant start clean = λ k j h t. found_none start.jobs k j clean.jobs h

module _ (Meant : Kind → Type 0) (limit : ℕ) (start : State) where
  -- a running job of a kind that is meant ran before an event that began none
  ran_on : (m : Moment) (ms : List Moment) → IsRun limit start (m ∷ ms) → BeginsNone Meant m → (k : ℕ)
      (j : Job) → job_of m.state.jobs k ≡ Some j → Meant j.kind → Had (now start ms) k j
  ran_on m ms run none k j h t =
      elim (came_all (now start ms) limit (length ms) m.event m.outcome m.state run.1 k j h) [
        | Came.had x numbered ↦ x
        | Came.fresh event outcome begun ↦ absurd (none (begin_for Meant m.event j event t) k outcome)
      ]

  -- while none begins, none runs where none did
  pub none_on : (later ms : List Moment) → IsRun limit start (later ++ ms) → NoneRuns Meant (now start ms) →
      NoneBeganFor Meant later → NoneRuns Meant (now start (later ++ ms))
  none_on [] ms run none began = none
  none_on (m ∷ later) ms run none began = λ k j h t. (let x = ran_on m (later ++ ms) run began.0 k j h t in
      none_on later ms run.2 none began.1 k x.job x.runs (subst Meant x.kind t))

  -- one that runs behind a moment at which none did began there or later
  pub begun_later : (later ms : List Moment) →
      IsRun limit start (later ++ ms) → NoneRuns Meant (now start ms) → (k : ℕ) (j : Job) →
      job_of (now start (later ++ ms)).jobs k ≡ Some j → Meant j.kind → length ms ≤ j.begun
  begun_later [] ms run none k j h t = absurd (none k j h t)
  begun_later (m ∷ later) ms run none k j h t =
      elim (came_all (now start (later ++ ms)) limit (length (later ++ ms)) m.event m.outcome m.state run.1 k j
      h) [
        | Came.had x numbered ↦
            (let l = begun_later later ms run.2 none k x.job x.runs (subst Meant x.kind t) in
            let e = x.begun in omega arith)
        | Came.fresh event outcome begun ↦ (let l = no_fewer later ms in omega arith)
      ]

  -- where none began, none runs
  pub none_ran : IsStart start → (ms : List Moment) →
      IsRun limit start ms → NoneBeganFor Meant ms → NoneRuns Meant (now start ms)
  none_ran clean [] run began = none_at_start Meant start clean
  none_ran clean (m ∷ ms) run began = λ k j h t. (let x = ran_on m ms run began.0 k j h t in
      none_ran clean ms run.2 began.1 k x.job x.runs (subst Meant x.kind t))

  -- behind a begin before which none ran, and since which none began, only a job of its number does
  pub only_its : (between older : List Moment) (b : Moment) → IsRun limit start (between ++ b ∷ older) →
      NoneRuns Meant (now start older) → NoneBeganFor Meant between → (k : ℕ) (j : Job) → job_of (now start
      (between ++ b ∷ older)).jobs k ≡ Some j → Meant j.kind → b.outcome ≡ Begun k
  only_its [] older b run none began = λ k j h t.
      elim (came_all (now start older) limit (length older) b.event b.outcome b.state run.1 k j h) [
        | Came.had x numbered ↦ absurd (none k x.job x.runs (subst Meant x.kind t))
        | Came.fresh event outcome begun ↦ outcome
      ]
  only_its (m ∷ between) older b run none began = λ k j h t.
      (let x = ran_on m (between ++ b ∷ older) run began.0 k j h t in
      only_its between older b run.2 none began.1 k x.job x.runs (subst Meant x.kind t))

  -- none runs behind the end of the one job that did
  pub none_left : IsStart start → (between older : List Moment) (m b : Moment) (number : ℕ) (how : Answer) →
      IsRun limit start (m ∷ (between ++ b ∷ older)) → NoneRuns Meant (now start older) →
      NoneBeganFor Meant between → b.outcome ≡ Begun number → m.event ≡ Step number → m.outcome ≡ Ended how →
      NoneRuns Meant m.state
  none_left clean between older m b number how run none before begun event over =
      λ k j h t. (let ms = between ++ b ∷ older in
      let x = ran_on m ms run (λ on n is. subst (IsBeginFor Meant) event on) k j h t in
      let e : Begun k ≡ Begun number =
      sym (only_its between older b run.2 none before k x.job x.runs (subst Meant x.kind t)) ∙ begun in
      let same : k ≡ number = cc in
      let gone = ended_gone limit (length ms) (now start ms) m.event m.outcome m.state number how x.job
      (num.facts objects limit start clean ms run.2).idle.lone
      (subst (λ n. job_of (now start ms).jobs n ≡ Some x.job) same x.runs) event over run.1 in
      (found_without (now start ms).jobs number k j (ap (λ l. job_of l k) (sym gone) ∙ h)).0 same)

  -- none runs behind an event that gives up all jobs
  pub none_given_up : (m : Moment) (ms : List Moment) →
      IsRun limit start (m ∷ ms) → GivesUp m.event → NoneRuns Meant m.state
  none_given_up m ms run up = λ k j h t. found_none m.state.jobs k j
      (given_up_none limit (length ms) (now start ms) m.event m.outcome m.state up run.1) h

  -- where none is under way, as the events tell, none runs
  pub none_under_way : IsStart start →
      (ms : List Moment) → NoneUnderWay Meant ms → IsRun limit start ms → NoneRuns Meant (now start ms)
  none_under_way clean _ at_start run = none_at_start Meant start clean
  none_under_way clean _ (given_up m ms up) run = none_given_up m ms run up
  none_under_way clean _ (unbegun m ms begins free) run = λ k j h t.
      (let x = ran_on m ms run begins k j h t in
      none_under_way clean ms free run.2 k x.job x.runs (subst Meant x.kind t))
  none_under_way clean _ (ended m b between older number how event outcome none begun free)
      run = none_left clean between older m b number how run
      (none_under_way clean older free (run_back limit start between (b ∷ older) run.2).2)
      none begun event outcome

-- ---- a name that is free

-- a job takes no file of a name out any more: it touches another name, or is a put of it that has come in
abbrev Apart : List ℕ → List Record → Job → Kind → Type 0
Apart name rs j (PutJob n bytes) =
    n ≡ name → (4 ≤ j.place) × (j.subject < next_id rs) × (started_as rs j.subject ≡ None)
Apart name rs j (DropJob n) = n ≡ name → ⊥
Apart name rs j kind = Unit {0}

-- no job will take the file of a name out, and no record in flight or in doubt does
record IsSpared (name : List ℕ) (w : State) : Type 0 where
  pub jobs : (k : ℕ) (j : Job) → job_of w.jobs k ≡ Some j → Apart name w.records j j.kind
  pub flight : (a : Append) → w.append ≡ Some a → takes_out w.records name a.entry ≡ false
  pub doubt : NoneTakesOut name w

apart_of : (name : List ℕ) (rs : List Record) (j : Job) (kind : Kind) → (Touches name kind → ⊥) →
    Apart name rs j kind
apart_of name rs j (PutJob n bytes) none = λ e. absurd (none e)
apart_of name rs j (DropJob n) none = none
apart_of name rs j kind none = tt

spared_of : (name : List ℕ) (w : State) → IsUntouched name w → IsSpared name w
spared_of name w u = record {
  jobs = λ k j h. apart_of name w.records j j.kind (u.none_runs k j h);
  flight = u.none_flies;
  doubt = u.none_takes;
}

-- what a put's end takes out
done_takes : (rs : List Record) (name : List ℕ) (v id size profile : ℕ) →
    takes_out rs name (done_record v id size profile) ≡ is_start_of name (started_as rs id)
done_takes rs name v id size profile =
    by_version v id size profile (λ r. takes_out rs name r ≡ is_start_of name (started_as rs id)) refl refl

module _ (limit : ℕ) (start : State) (m : Moment) (ms : List Moment) (name : List ℕ)
    (run : IsRun limit start (m ∷ ms)) (A : All start ms)
    (X : Changes limit (length ms) (now start ms) m.event m.outcome m.state) where
  abbrev old : State
  old = now start ms

  -- the records after an event that leaves a job running
  abbrev Growth : Type 0
  Growth = (m.state.records ≡ old.records) ⊎ ((a : Append) × (old.append ≡ Some a) ×
      (m.state.records ≡ a.entry ∷ old.records))

  growth : (k : ℕ) → Grown old m.state k → Growth
  growth k (Grown.as_before rec) = inl rec
  growth k (Grown.by_other x a runs next_is flight mine other rec) = inr (a, flight, rec)

  -- a number that is not started stays so
  quiet : Growth → (id : ℕ) → id < next_id old.records → started_as old.records id ≡ None →
      (id < next_id m.state.records) × (started_as m.state.records id ≡ None)
  quiet (inl rec) id l h = ((let e = ap next_id rec in omega arith), ap (λ rs. started_as rs id) rec ∙ h)
  quiet (inr (a, flight, rec)) id l h = (
    (let e = next_of_records objects old m.state A.numbers.written X.records in omega arith),
    ap (λ rs. started_as rs id) rec
        ∙ not_started-more old.records a.entry id (A.pins.append_proper a flight) l h,
  )

  carried : (x j : Job) (kind : Kind) → Growth → x.place ≤ j.place → (4 ≤ x.place → Draws objects kind →
      j.subject ≡ x.subject) → Apart name old.records x kind → Apart name m.state.records j kind
  carried x j (PutJob n bytes) g place subject apart = λ e.
      (let p = apart e in let s = subject p.0 tt in let q = quiet g x.subject p.1 p.2 in (
        (let l = p.0 in omega arith),
        (let l = q.0 in omega arith),
        ap (started_as m.state.records) s ∙ q.1,
      ))
  carried x j (DropJob n) g place subject apart = apart
  carried x j kind g place subject apart = tt

  -- what a job that takes no file of the name out writes takes none out
  writes_none : (x : Job) (kind : Kind) (entry : Record) → job_of old.jobs x.number ≡ Some x → x.kind ≡ kind →
      next_action old x ≡ Some WriteBody → Apart name old.records x kind → Writes old x kind entry →
      takes_out old.records name entry ≡ false
  writes_none x (PutJob n bytes) entry runs kind next_is apart h = elim (cases_lt x.place 4) [
    | inl l ↦ ap (takes_out old.records name)
        (h ∙ cond_true (is_first_append x) (PutStart (next_id old.records) n)
        (done_record (version_of old.records) x.subject (length bytes) x.profile) (first_below x l))
    | inr l ↦ ap (takes_out old.records name)
        (h ∙ cond_false (is_first_append x) (PutStart (next_id old.records) n)
        (done_record (version_of old.records) x.subject (length bytes) x.profile) (first_above x l))
        ∙ (done_takes old.records name (version_of old.records) x.subject (length bytes)
        x.profile ∙ other l)
  ]
    where
      early : PutAt old x bytes x.place WriteBody → 4 ≤ x.place → x.place < 8 + stores_count old x bytes
      early (PutAt.first l e) late = absurd (omega arith)
      early (PutAt.store l k is) late = absurd is
      early (PutAt.second q is l e) late = omega arith
      early (PutAt.after l is) late = absurd is

      other : 4 ≤ x.place → is_start_of name (started_as old.records x.subject) ≡ false
      other late = elim (cases_Bool (is_same_name n name)) [
        | inl t ↦ ap (is_start_of name) (apart (same-eq n name t)).2
        | inr f ↦ ap (is_start_of name) (A.pins.started x.number x n bytes runs kind late
            (early (put_next old x n bytes WriteBody kind next_is) late)) ∙ f
      ]
  writes_none x (GetJob n) entry runs kind next_is apart h = absurd h
  writes_none x (DropJob n) entry runs kind next_is apart h =
      ap (takes_out old.records name) h ∙ other_name n name apart
  writes_none x AuditJob entry runs kind next_is apart h = elim (cases_Bool (is_first_append x)) [
    | inl t ↦ ap (takes_out old.records name) (rw t at h)
    | inr f ↦ (ap (takes_out old.records name) (rw f at h).2)
  ]
  writes_none x _ entry runs kind next_is apart h = ap (takes_out old.records name) h

  same_taken : (entry : Record) → m.state.records ≡ old.records →
      takes_out old.records name entry ≡ false → takes_out m.state.records name entry ≡ false
  same_taken entry rec h = ap (λ rs. takes_out rs name entry) rec ∙ h

  -- a free name stays free while none begins on it
  spared_step : (IsBeginOn name m.event → (n : ℕ) → m.outcome ≡ Begun n → ⊥) → IsSpared name old →
      IsSpared name m.state
  spared_step none F = record { jobs = jobs; flight = flight; doubt = doubt }
    where
      on : (x j : Job) (k : ℕ) → job_of old.jobs k ≡ Some x → Growth → x.place ≤ j.place → j.kind ≡ x.kind →
          (4 ≤ x.place → Draws objects x.kind → j.subject ≡ x.subject) → Apart name m.state.records j j.kind
      on x j k runs g place kind subject = rw (← kind) at (carried x j x.kind g place subject (F.jobs k x runs))

      jobs : (k : ℕ) (j : Job) → job_of m.state.jobs k ≡ Some j → Apart name m.state.records j j.kind
      jobs k j h = elim (X.job k j h) [
        | Job_is.kept r g ↦ on j j k r (growth k g) (omega arith) refl (λ l d. refl)
        | Job_is.begun kd profile is k_is allowed rec ↦ apart_of name m.state.records j j.kind
            (λ t. (let x = ran_on (Touches name) limit start m ms run none k j h t in
            omega (arith, A.numbers.jobs_below k x.job x.runs)))
        | Job_is.plain x action runs next_is is_plain goes rec stores_it ↦
            on x j k runs (inl rec) (omega (arith, goes.place)) goes.kind (λ l d. goes.subject)
        | Job_is.drew x runs next_is none_ is rec ↦
            on x j k runs (inl rec) (omega (arith, ap (λ (y : Job). y.place) is)) (ap (λ y. y.kind) is)
            (λ l d. ap (λ y. y.subject) is ∙ drawn_later old x x.kind (first_above x l))
        | Job_is.finished x a runs next_is flies mine is rec none_ ↦
            on x j k runs (inr (a, flies, rec)) (omega (arith, ap (λ (y : Job). y.place) is))
            (ap (λ y. y.kind) is) (λ l d. ap (λ y. y.subject) is)
      ]

      flight : (a : Append) → m.state.append ≡ Some a → takes_out m.state.records name a.entry ≡ false
      flight a h = elim (X.append a h) [
        | Append_is.kept b flies job entry rec ↦ same_taken a.entry rec
            (ap (takes_out old.records name) entry ∙ F.flight b flies)
        | Append_is.drew x runs next_is mine writes found rec ↦ same_taken a.entry rec
            (writes_none x x.kind a.entry runs refl next_is (F.jobs x.number x runs) writes)
      ]

      doubt : NoneTakesOut name m.state
      doubt d h = elim (X.doubt d h) [
        | Doubt_is.kept before rec ↦ same_taken d.entry rec (F.doubt d before)
        | Doubt_is.gated a flies entry rec ↦ same_taken d.entry rec
            (ap (takes_out old.records name) entry ∙ F.flight a flies)
        | Doubt_is.set_up s entry ↦ ap (takes_out m.state.records name) entry
      ]

-- a free name stays free while none begins on it
spares : (limit : ℕ) (start : State) → IsStart start → (later ms : List Moment) (name : List ℕ) →
    IsRun limit start (later ++ ms) → IsSpared name (now start ms) → NoneBeganOn name later →
    IsSpared name (now start (later ++ ms))
spares limit start clean [] ms name run F began = F
spares limit start clean (m ∷ later) ms name run F began =
    (let A = all limit start clean (later ++ ms) run.2 in
    spared_step limit start m (later ++ ms) name run A
    (changes limit (length (later ++ ms)) (now start (later ++ ms)) m.event m.outcome m.state A.numbers.idle
    run.1) began.0
    (spares limit start clean later ms name run.2 F began.1))

-- while no job that puts or drops a name begins, no record in doubt takes its file out
pub never_taken_out : (limit : ℕ) (start : State) → IsStart start → (later ms : List Moment)
    (name : List ℕ) → IsRun limit start (later ++ ms) → IsUntouched name (now start ms) →
    NoneBeganOn name later → NeverTakenOut name later
never_taken_out limit start clean [] ms name run u began = tt
never_taken_out limit start clean (m ∷ later) ms name run u began = (
  (spares limit start clean (m ∷ later) ms name run (spared_of name (now start ms) u) began).doubt,
  never_taken_out limit start clean later ms name run.2 u began.1,
)

-- ---- a put's file, by the events since its begin

-- what holds since a begin before which no job on a name ran: jobs on it have that number, and a put of it
-- behind its second append has a file that is kept, and the name is free
record Since (start : State) (ms : List Moment) (name : List ℕ) (b : Moment) : Type 0 where
  pub only : (k : ℕ) (j : Job) → job_of (now start ms).jobs k ≡ Some j → Touches name j.kind →
      b.outcome ≡ Begun k
  pub kept : (k : ℕ) (j : Job) (bytes : List ℕ) → job_of (now start ms).jobs k ≡ Some j →
      j.kind ≡ PutJob name bytes → 8 + stores_count (now start ms) j bytes ≤ j.place →
      IsKept (now start ms) name (file_as name j.subject (length bytes) j.profile) × IsSpared name (now start ms)

module _ (limit : ℕ) (start : State) (m : Moment) (ms : List Moment) (name : List ℕ) (b : Moment)
    (clean : IsStart start) (run : IsRun limit start (m ∷ ms))
    (none : IsBeginOn name m.event → (n : ℕ) → m.outcome ≡ Begun n → ⊥) (S : Since start ms name b) where
  abbrev was : State
  was = now start ms

  A : All start ms
  A = all limit start clean ms run.2

  X : Changes limit (length ms) was m.event m.outcome m.state
  X = changes limit (length ms) was m.event m.outcome m.state A.numbers.idle run.1

  only_step : (k : ℕ) (j : Job) → job_of m.state.jobs k ≡ Some j → Touches name j.kind → b.outcome ≡ Begun k
  only_step k j h t = (let x = ran_on (Touches name) limit start m ms run none k j h t in
      S.only k x.job x.runs (subst (Touches name) x.kind t))

  grown : (r : Record) → m.state.records ≡ r ∷ was.records → m.state.records ≡ was.records → ⊥
  grown r rec same = survive.shorter r was.records (sym same ∙ rec)

  -- at the end of the put's second append the name is free
  module _ (k : ℕ) (j x : Job) (bytes : List ℕ) (a : Append) (version : ℕ) (h : job_of m.state.jobs k ≡ Some j)
      (kind : j.kind ≡ PutJob name bytes) (late : 4 ≤ j.place) (flies : was.append ≡ Some a)
      (mine : a.job ≡ k) (rec : m.state.records ≡ a.entry ∷ was.records)
      (entry : a.entry ≡ done_record version j.subject (length bytes) j.profile)
      (below : j.subject < next_id m.state.records) (landed : m.state.append ≡ None) where
    gone : started_as m.state.records j.subject ≡ None
    gone = ap (λ rs. started_as rs j.subject) (rec ∙ ap (λ (r : Record). r ∷ was.records) entry)
        ∙ (done-started version j.subject (length bytes) j.profile was.records j.subject
        ∙ cond_true (j.subject == j.subject) None (started_as was.records j.subject)
        (eq-eqb j.subject j.subject refl))

    its_own : (kd : Kind) → j.kind ≡ kd → Apart name m.state.records j kd
    its_own (PutJob n by) is = λ e. (late, below, gone)
    its_own (DropJob n) is = absurd (let z : PutJob name bytes ≡ DropJob n = sym kind ∙ is in cc)
    its_own kd is = tt

    free_now : IsSpared name m.state
    free_now = record {
      jobs = λ l y g. elim (cases_eq l k) [
        | inl e ↦ rw (same_value _ j y h (subst (λ n. job_of m.state.jobs n ≡ Some y) e g)) at
            (its_own j.kind refl)
        | inr other ↦ apart_of name m.state.records y y.kind (λ t. other
            (cc (sym (only_step l y g t) ∙ (only_step k j h (subst (Touches name) (sym kind) refl)))))
      ];
      flight = λ c g. absurd (let z : None ≡ Some c = sym landed ∙ g in cc);
      doubt = λ d g. elim (X.doubt d g) [
        | Doubt_is.kept before same ↦ absurd (grown a.entry rec same)
        | Doubt_is.gated c flying is same ↦ absurd (grown a.entry rec same)
        | Doubt_is.set_up s is ↦ ap (takes_out m.state.records name) is
      ];
    }

  G : IsGated was
  G = survive.gated limit start clean ms run.2

  kept_step : (k : ℕ) (j : Job) (bytes : List ℕ) → job_of m.state.jobs k ≡ Some j →
      j.kind ≡ PutJob name bytes → 8 + stores_count m.state j bytes ≤ j.place →
      IsKept m.state name (file_as name j.subject (length bytes) j.profile) × IsSpared name m.state
  kept_step k j bytes h kind late = elim (X.job k j h) [
    | Job_is.kept r (Grown.as_before rec) ↦ carry j r kind refl refl
        (let e = count_same m.state was j j bytes (ap setup_of rec) refl refl in omega arith)
    | Job_is.kept r (Grown.by_other x a runs next_is flies mine other rec) ↦ carry j r kind refl refl
        (let e = count_same m.state was j j bytes
        (setup_one limit start m ms A.numbers A.pins X a x flies runs mine rec) refl refl in omega arith)
    | Job_is.begun kd profile is k_is allowed rec ↦
        absurd (let e : j.place ≡ 0 = ap (λ (x : Job). x.place) is in omega arith)
    | Job_is.plain x action runs next_is is_plain goes rec stores_it ↦
        (let kx : x.kind ≡ PutJob name bytes = sym goes.kind ∙ kind in
        let e = count_same m.state was j x bytes (ap setup_of rec) goes.subject goes.profile in
        let place = goes.place in elim (cases_eq x.place (7 + stores_count was x bytes)) [
          | inl gate ↦ absurd (subst IsPlain (gate_at was x name bytes action kx gate next_is) is_plain)
          | inr other ↦ carry x runs kx goes.subject goes.profile (omega arith)
        ])
    | Job_is.drew x runs next_is none_ is rec ↦
        (let kx : x.kind ≡ PutJob name bytes = sym (ap (λ (y : Job). y.kind) is) ∙ kind in
        let place : j.place ≡ x.place + 1 = ap (λ (y : Job). y.place) is in
        let late_x : 4 ≤ x.place = omega arith in
        let subject : j.subject ≡ x.subject = ap (λ (y : Job). y.subject) is
        ∙ drawn_later was x x.kind (first_above x late_x) in
        let e = count_same m.state was j x bytes (ap setup_of rec) subject (ap (λ (y : Job). y.profile) is) in
        elim (cases_eq x.place (7 + stores_count was x bytes)) [
          | inl gate ↦ absurd (let z : WriteBody ≡ SyncGate =
              gate_at was x name bytes WriteBody kx gate next_is in cc)
          | inr other ↦ carry x runs kx subject (ap (λ (y : Job). y.profile) is) (omega arith)
        ])
    | Job_is.finished x a runs next_is flies mine is rec landed ↦
        (let kx : x.kind ≡ PutJob name bytes = sym (ap (λ (y : Job). y.kind) is) ∙ kind in
        let place : j.place ≡ x.place + 1 = ap (λ (y : Job). y.place) is in
        let late_x : 4 ≤ x.place = omega arith in
        let subject : j.subject ≡ x.subject = ap (λ (y : Job). y.subject) is in
        let profile : j.profile ≡ x.profile = ap (λ (y : Job). y.profile) is in
        comes_now x a runs kx next_is late_x subject profile flies mine rec landed
        (own.ended a x name bytes flies (subst (λ n. job_of was.jobs n ≡ Some x) (sym mine) runs)
        kx late_x))
  ]
    where
      own : prof.Facts start ms
      own = prof.facts limit start clean ms run.2

      file_j : File
      file_j = file_as name j.subject (length bytes) j.profile

      carry : (x : Job) → job_of was.jobs k ≡ Some x → x.kind ≡ PutJob name bytes →
          j.subject ≡ x.subject → j.profile ≡ x.profile → 8 + stores_count was x bytes ≤ x.place →
          IsKept m.state name file_j × IsSpared name m.state
      carry x runs kx subject profile late_x = (let p = S.kept k x bytes runs kx late_x in
          let f = spared_step limit start m ms name run A X none p.1 in (
            survive.stays limit start m ms G X name file_j (subst (λ n. IsKept was name
                (file_as name n (length bytes) j.profile)) (sym subject)
                (subst (λ q. IsKept was name (file_as name x.subject (length bytes) q))
                (sym profile) p.0)) f.doubt,
            f,
          ))

      comes_now : (x : Job) (a : Append) → job_of was.jobs k ≡ Some x → x.kind ≡ PutJob name bytes →
          next_action was x ≡ Some SyncGate → 4 ≤ x.place → j.subject ≡ x.subject → j.profile ≡ x.profile →
          was.append ≡ Some a → a.job ≡ k → m.state.records ≡ a.entry ∷ was.records → m.state.append ≡ None →
          prof.Ended was.records x bytes a.entry → IsKept m.state name file_j × IsSpared name m.state
      comes_now x a runs kx next_is late_x subject profile flies mine rec landed e =
          (let place = gate_place was x name bytes kx next_is late_x in
          let entry : a.entry ≡ done_record e.version j.subject (length bytes) j.profile = e.entry_is
          ∙ (ap (λ n. done_record e.version n (length bytes) x.profile) (sym subject)
          ∙ ap (λ q. done_record e.version j.subject (length bytes) q) (sym profile)) in
          let below = A.numbers.below k x runs (subst (Draws objects) (sym kx) tt, late_x) in (
            survive.comes limit start m ms G X name file_j (record {
              version = e.version;
              done = came_by was m.state a.entry rec ∙ ap Some entry;
              profiled = λ v. profile ∙ e.profiled v;
              started = ap (started_as was.records) subject
                  ∙ A.pins.started k x name bytes runs kx late_x (omega arith);
              named = refl;
            }),
            free_now k j x bytes a e.version h kind (omega arith) flies mine rec entry
                (let g = next_of_records objects was m.state A.numbers.written X.records in
                omega arith) landed,
          ))

  since_step : Since start (m ∷ ms) name b
  since_step = record { only = only_step; kept = kept_step }

-- at the begin itself
since_begin : (limit : ℕ) (start : State) → IsStart start → (b : Moment) (ms : List Moment) (name : List ℕ) →
    IsRun limit start (b ∷ ms) → NoneOn name (now start ms) → Since start (b ∷ ms) name b
since_begin limit start clean b ms name run none = record {
  only = λ k j h t.
      elim (came_all (now start ms) limit (length ms) b.event b.outcome b.state run.1 k j h) [
        | Came.had x numbered ↦ absurd (none k x.job x.runs (subst (Touches name) x.kind t))
        | Came.fresh event outcome begun ↦ outcome
      ];
  kept = λ k j bytes h kind late.
      elim ((changes limit (length ms) (now start ms) b.event b.outcome b.state
      (num.facts objects limit start clean ms run.2).idle run.1).job k j h) [
        | Job_is.kept r g ↦ absurd (none k j r (subst (Touches name) (sym kind) refl))
        | Job_is.begun kd profile is k_is allowed rec ↦
            absurd (let e : j.place ≡ 0 = ap (λ (x : Job). x.place) is in omega arith)
        | Job_is.plain x action runs next_is is_plain goes rec stores_it ↦
            absurd (none k x runs (subst (Touches name) (sym (sym goes.kind ∙ kind)) refl))
        | Job_is.drew x runs next_is none_ is rec ↦ absurd (none k x runs
            (subst (Touches name) (sym (sym (ap (λ (y : Job). y.kind) is) ∙ kind)) refl))
        | Job_is.finished x a runs next_is flies mine is rec landed ↦ absurd (none k x runs
            (subst (Touches name) (sym (sym (ap (λ (y : Job). y.kind) is) ∙ kind)) refl))
      ];
}

sinces : (limit : ℕ) (start : State) → IsStart start → (between ms : List Moment) (b : Moment)
    (name : List ℕ) → IsRun limit start (between ++ b ∷ ms) → NoneOn name (now start ms) →
    NoneBeganOn name between → Since start (between ++ b ∷ ms) name b
sinces limit start clean [] ms b name run none began = since_begin limit start clean b ms name run none
sinces limit start clean (m ∷ between) ms b name run none began = since_step limit start m (between ++ b ∷ ms)
    name b clean run began.0 (sinces limit start clean between ms b name run.2 none began.1)

-- a file is kept while none begins on its free name
keeps : (limit : ℕ) (start : State) → IsStart start → (later ms : List Moment) (name : List ℕ)
    (file : File) → IsRun limit start (later ++ ms) → IsSpared name (now start ms) → NoneBeganOn name later →
    IsKept (now start ms) name file → IsKept (now start (later ++ ms)) name file
keeps limit start clean [] ms name file run F began kept = kept
keeps limit start clean (m ∷ later) ms name file run F began kept =
    (let A = all limit start clean (later ++ ms) run.2 in
    survive.stays limit start m (later ++ ms) (survive.gated limit start clean (later ++ ms) run.2)
    (changes limit (length (later ++ ms)) (now start (later ++ ms)) m.event m.outcome m.state A.numbers.idle
    run.1) name file (keeps limit start clean later ms name file run.2 F began.1 kept)
    (spares limit start clean (m ∷ later) ms name run F began).doubt)

-- the file of a put that ended well is kept while no put or drop of its name begins, but for its own
pub put_is_kept : (limit : ℕ) (start : State) → IsStart start → (later between older : List Moment)
    (m b : Moment) (job : Job) (name bytes : List ℕ) →
    IsRun limit start (later ++ m ∷ (between ++ b ∷ older)) → NoneOn name (now start older) →
    NoneBeganOn name between → EndsPut start m (between ++ b ∷ older) job name bytes →
    NoneBeganOn name later →
    (b.outcome ≡ Begun job.number) × IsKept (now start (later ++ m ∷ (between ++ b ∷ older))) name
    (file_as name job.subject (length bytes) job.profile)
put_is_kept limit start clean later between older m b job name bytes run none before ends after =
    (let ms = between ++ b ∷ older in
    let at_end = back later run in
    let S = sinces limit start clean between older b name at_end.2 none before in
    let no_begin : IsBeginOn name m.event → (n : ℕ) → m.outcome ≡ Begun n → ⊥ =
    λ t n is. subst (IsBeginOn name) ends.event t in
    let p = S.kept job.number job bytes ends.runs ends.kind
    (end_place (now start ms) job name bytes ends.kind
    (event_end limit (length ms) (now start ms) m.event m.outcome m.state job answer.Put
    (λ x. x) ends.event ends.outcome ends.runs at_end.1).0) in
    let F = spared_step limit start m ms name at_end (all limit start clean ms at_end.2)
    (changes limit (length ms) (now start ms) m.event m.outcome m.state
    (all limit start clean ms at_end.2).numbers.idle at_end.1) no_begin p.1 in (
      S.only job.number job ends.runs (subst (Touches name) (sym ends.kind) refl),
      keeps limit start clean later (m ∷ ms) name (file_as name job.subject (length bytes) job.profile) run F
          after (survive.stays limit start m ms (survive.gated limit start clean ms at_end.2)
          (changes limit (length ms) (now start ms) m.event m.outcome m.state
          (all limit start clean ms at_end.2).numbers.idle at_end.1) name
          (file_as name job.subject (length bytes) job.profile) p.0 F.doubt),
    ))
  where
    back : (xs : List Moment) → IsRun limit start (xs ++ m ∷ (between ++ b ∷ older)) →
        IsRun limit start (m ∷ (between ++ b ∷ older))
    back [] r = r
    back (x ∷ xs) r = back xs r.2

-- the steps of a command that runs a job begin nothing
pub steps_begin_none : (job number : ℕ) (name : List ℕ) (ms : List Moment) → GoOn job ms →
    NoneBegan number ms × NoneBeganOn name ms
steps_begin_none job number name [] on = (tt, tt)
steps_begin_none job number name (m ∷ ms) (event, outcome, on) =
    (let r = steps_begin_none job number name ms on in (
      ((λ is. (let e : More ≡ Begun number = sym outcome ∙ is in cc)), r.0),
      ((λ t n is. subst (IsBeginOn name) event t), r.1),
    ))

pub both_none : (name : List ℕ) (xs ys : List Moment) → NoneBeganOn name xs → NoneBeganOn name ys →
    NoneBeganOn name (xs ++ ys)
both_none name [] ys hx hy = hy
both_none name (x ∷ xs) ys hx hy = (hx.0, both_none name xs ys hx.1 hy)

-- commands of which none is a begin on a name begin none on it
pub commands_begin_none : (name : List ℕ) (cs : List Instruction) (ms : List Moment) (lines : List ℕ) →
    CarriesOut cs ms lines → NoneAsksOn name cs → NoneBeganOn name ms
commands_begin_none name [] ms lines h none = subst (NoneBeganOn name) (sym h.0) tt
commands_begin_none name (Once event ∷ cs) ms lines (m, older, before, is, m_is, more, all) none =
    subst (NoneBeganOn name) (sym is) (
      (λ t n begun. none.0 (subst (IsBeginOn name) m_is t)),
      commands_begin_none name cs older before more none.1,
    )
commands_begin_none name (RunJob job ∷ cs) ms lines (m, steps, older, before, is, runs, more, all) none =
    subst (NoneBeganOn name) (sym is) (
      (λ t n begun. subst (IsBeginOn name) runs.step t),
      both_none name steps older (steps_begin_none job 0 name steps runs.before).1
          (commands_begin_none name cs older before more none),
    )
