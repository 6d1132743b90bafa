-- Sound states after an action that puts no record in effect and ends no job.
use Rattle.state_laws.proofs.Words.{◌≡◌, ◌<◌, ◌==◌, Bool, true, false, cond, ◌||◌, ◌&&◌, length, Option, refl, ap, sym, subst, ◌∙◌, inl, inr, arith, is_some, IsTrue, cases_Bool, cases_lt, cases_eq, false≢true, some-not-none, Sums, Record, PutStart, PutDone, AuditStart, AuditDone, RepairDone, PutDoneIn, InEffect, version_of, next_id, next_audit, file_of, started_as, refused, put_done_refused, AreAccepted, Kind, PutJob, AuditJob, RepairJob, aim_of, Given, Job, job_of, with_job, Action, End, ends_append, appends_left, actions_left, HasSums, State, Append, Doubt, setup_in, journal_end, going_on, reserved, puts_name, is_check, is_upgrade, Writes, done_record, is_first_append, subject_drawn, bytes_drawn, next_action, cond_true, cond_false, same_value, found_with, Series, objects, audits, Draws, first_above, first_below, moves_made, moves_before, moves_after, IsInOrder, BringsHeld, MayFollow, IsReady, IsSoundJob, IsDoubtOf, IsSoundAppend, IsPutUnderWay, starts_left, IsSound}
use Rattle.std.proofs.Common.{ℕ, ◌≤◌, List, [], ◌∷◌, Some, None}
use Rattle.state_laws.proofs.Orders.{gates}
use Rattle.state_laws.proofs.JobLists.{sum-with, length-with, numbered-with, still-with, only-with, not-mine, other}
use Rattle.state_laws.proofs.NamesTaken.{are_put, taken-fewer}
use Rattle.state_laws.proofs.Records.{sound-accepted, held-on, held-same}
use Rattle.state_laws.proofs.Packs.{started-in, journal-same}
use Rattle.state_laws.proofs.Rooms.{room-same}
use Rattle.state_laws.proofs.Written.{starts-on}
use Rattle.state_laws.proofs.Going.{onward, order-onward, count-onward, not-three, kept-ready, kept, went-ready, went}

-- ---- records that may follow, where bytes stay

-- a put's end that is accepted has a number that was drawn
done-drawn : (rs : List Record) (id : ℕ) → AreAccepted rs → put_done_refused rs (started_as rs id) ≡ None →
    id < next_id rs
done-drawn rs id a g =
    (let t = started-in rs (started_as rs id) g in (sound-accepted rs a).started id t.0 t.1)

-- a record that may follow may still follow where the bytes of drawn numbers stay
pub follows-on : (rs journal : List Record) (end : ℕ) (bytes now : ℕ → List ℕ) (entry : Record) →
    AreAccepted rs → ((id : ℕ) → id < next_id rs → now id ≡ bytes id) → MayFollow rs journal end bytes entry →
    MayFollow rs journal end now entry
follows-on rs journal end bytes now entry a stay m = record {
  spelled = m.spelled;
  accepted = m.accepted;
  in_journal = m.in_journal;
  room = m.room;
  held = held entry m.accepted m.held;
}
  where
    held : (entry : Record) → refused rs entry ≡ None → BringsHeld bytes entry → BringsHeld now entry
    held (PutDone id size) h b = held-same bytes now id size (stay id (done-drawn rs id a (grind arith))) b
    held (PutDoneIn id size profile) h b =
        held-same bytes now id size (stay id (done-drawn rs id a (grind arith))) b
    held (InEffect id size profile name) h b = held-same bytes now id size (stay id (grind arith)) b
    held entry h b = tt

-- ---- lists of jobs in which one goes on

-- the names of puts stay when a job goes on
pub put-with : (n : List ℕ) (js : List Job) (job before : Job) → job_of js job.number ≡ Some before →
    job.kind ≡ before.kind → are_put n (with_job js job) ≡ are_put n js
put-with n [] job before h kind = refl
put-with n (x ∷ js) job before h kind = elim (cases_Bool (x.number == job.number)) [
  | inl t ↦ (ap (are_put n) (cond_true (x.number == job.number) (job ∷ js) (x ∷ with_job js job) t)
      ∙ ap (λ k. puts_name n (aim_of k) || are_put n js) (kind ∙ ap (λ z. z.kind) (sym (same_value _ x before
      (cond_true (x.number == job.number) (Some x) (job_of js job.number) t) h))))
  | inr f ↦ ap (are_put n) (cond_false (x.number == job.number) (job ∷ js) (x ∷ with_job js job) f)
      ∙ ap (λ b. puts_name n (aim_of x.kind) || b)
      (put-with n js job before (sym (cond_false (x.number == job.number) (Some x) (job_of js job.number) f)
      ∙ h) kind)
]

-- ---- the record that a job writes, after one more move

first-on : (series : Series) (w : State) (job : Job) (n : ℕ) (given : List Given) (action : Action) →
    Draws series job.kind → next_action w job ≡ Some action → ends_append action ≡ false →
    is_first_append (onward job n given) ≡ is_first_append job
first-on series w job n given action d next plain = elim (cases_lt job.place 4) [
  | inl l ↦ elim (cases_eq job.place 3) [
    | inl three ↦ absurd (not-three series w job action d next plain three)
    | inr other ↦ first_below (onward job n given) (omega (arith, l, other)) ∙ sym (first_below job l)
  ]
  | inr l ↦ first_above (onward job n given) (omega (arith, l)) ∙ sym (first_above job l)
]

-- a job whose append is not at its last move still writes the record that it wrote
pub writes-on : (w : State) (job : Job) (n : ℕ) (action : Action) (kind : Kind) (entry : Record) →
    job.kind ≡ kind → next_action w job ≡ Some action → ends_append action ≡ false →
    (4 ≤ job.place → n ≡ job.subject) → (job.kind ≡ RepairJob → n ≡ job.subject) → Writes w job kind entry →
    Writes w (onward job n job.given) kind entry
writes-on w job n action (PutJob name bytes) entry kind next plain later repairs h =
    (let first = first-on objects w job n job.given action (subst (Draws objects) (sym kind) tt) next plain in
    elim (cases_lt job.place 4) [
      | inl l ↦ h ∙ (cond_true (is_first_append job) (PutStart (next_id w.records) name)
          (done_record (version_of w.records) job.subject (length bytes) job.profile) (first_below job l)
          ∙ sym (cond_true (is_first_append (onward job n job.given)) (PutStart (next_id w.records) name)
          (done_record (version_of w.records) n (length bytes) job.profile) (first ∙ first_below job l)))
      | inr l ↦ h ∙ (cond_false (is_first_append job) (PutStart (next_id w.records) name)
          (done_record (version_of w.records) job.subject (length bytes) job.profile) (first_above job l)
          ∙ (ap (λ x. done_record (version_of w.records) x (length bytes) job.profile) (sym (later l))
          ∙ sym (cond_false (is_first_append (onward job n job.given)) (PutStart (next_id w.records) name)
          (done_record (version_of w.records) n (length bytes) job.profile)
          (first ∙ first_above job l))))
    ])
writes-on w job n action AuditJob entry kind next plain later repairs h =
    (let first = first-on audits w job n job.given action (subst (Draws audits) (sym kind) tt) next plain in
    elim (cases_lt job.place 4) [
      | inl l ↦ (let g : entry ≡ AuditStart (next_audit w.records) = rw (first_below job l) at h in
          rw (first ∙ first_below job l) g)
      | inr l ↦ (let g : (sums : Sums) × HasSums (setup_in w) job sums ×
          (entry ≡ AuditDone job.subject sums.undecided sums.counts) = rw (first_above job l) at h in
          rw (first ∙ first_above job l)
          (subst (λ x. (sums : Sums) × HasSums (setup_in w) (onward job x job.given) sums ×
          (entry ≡ AuditDone x sums.undecided sums.counts)) (sym (later l)) g))
    ])
writes-on w job n action RepairJob entry kind next plain later repairs h =
    h ∙ ap RepairDone (sym (repairs kind))
writes-on w job n action k entry kind next plain later repairs h = h

-- ---- the number that a first append draws

drawn-again : (n m : ℕ) (b c : Bool) → c ≡ b → cond c n (cond b n m) ≡ cond b n m
drawn-again n m true false e = absurd (false≢true e)
drawn-again n m false true e = absurd (false≢true (sym e))
drawn-again n m b c e = refl

-- once drawn, it is drawn no more
pub drawn-on : (w : State) (job : Job) (action : Action) (kind : Kind) → job.kind ≡ kind →
    next_action w job ≡ Some action → ends_append action ≡ false →
    subject_drawn w (onward job (subject_drawn w job kind) job.given) kind ≡ subject_drawn w job kind
drawn-on w job action (PutJob name bytes) kind next plain = drawn-again (next_id w.records) job.subject
    (is_first_append job) (is_first_append (onward job (subject_drawn w job (PutJob name bytes)) job.given))
    (first-on objects w job (subject_drawn w job (PutJob name bytes)) job.given action
    (subst (Draws objects) (sym kind) tt) next plain)
drawn-on w job action AuditJob kind next plain = drawn-again (next_audit w.records) job.subject
    (is_first_append job) (is_first_append (onward job (subject_drawn w job AuditJob) job.given))
    (first-on audits w job (subject_drawn w job AuditJob) job.given action
    (subst (Draws audits) (sym kind) tt) next plain)
drawn-on w job action h kind next plain = refl

-- once a put has drawn its number, the bytes of each number stay
pub bytes-on : (w : State) (job : Job) (n : ℕ) (now : ℕ → List ℕ) (action : Action) (kind : Kind) (id : ℕ) →
    job.kind ≡ kind → next_action w job ≡ Some action → ends_append action ≡ false →
    now id ≡ bytes_drawn w job kind id →
    bytes_drawn (record w { bytes = now }) (onward job n job.given) kind id ≡ now id
bytes-on w job n now action (PutJob name bytes) id kind next plain e =
    again (is_first_append job) (is_first_append (onward job n job.given)) (id == next_id w.records)
    (first-on objects w job n job.given action (subst (Draws objects) (sym kind) tt) next plain) e
  where
    again : (b c d : Bool) → c ≡ b → now id ≡ cond (b && d) bytes (w.bytes id) →
        cond (c && d) bytes (now id) ≡ now id
    again true true true s h = sym h
    again true false d s h = absurd (false≢true s)
    again false true d s h = absurd (false≢true (sym s))
    again b c d s h = refl
bytes-on w job n now action k id kind next plain e = refl

-- a state in which a job goes on, with this append and doubt, these bytes and these begins of audits
abbrev pub gone_on : State → Job → Option Append → Option Doubt → (ℕ → List ℕ) → (ℕ → ℕ) → State
gone_on old next flight doubt now began =
    record (going_on old next) { append = flight; doubt = doubt; bytes = now; audits = began }

module _ (limit : ℕ) (old : State) (S : IsSound limit old) (job : Job)
    (runs : job_of old.jobs job.number ≡ Some job) where
  -- a state is sound when a job has gone on, if what it left is in order and the rest stays
  pub going-sound : (next : Job) (flight : Option Append) (doubt : Option Doubt) (now : ℕ → List ℕ)
      (began : ℕ → ℕ) → next.number ≡ job.number → next.kind ≡ job.kind → job.place ≤ next.place →
      ((id : ℕ) → id < next_id old.records → now id ≡ old.bytes id) →
      ((k : ℕ) → (k ≡ job.number → ⊥) → moves_made flight k ≡ moves_made old.append k) →
      IsSoundJob (setup_in old) old.records now (moves_made flight job.number) next →
      IsReady (setup_in old) old.journal now next next.kind →
      (IsPutUnderWay next next.kind → IsPutUnderWay job job.kind × (next.subject ≡ job.subject)) →
      appends_left (setup_in old) next ≡ appends_left (setup_in old) job →
      ((a : Append) → flight ≡ Some a → IsSoundAppend (gone_on old next flight doubt now began) a) →
      (old.is_barred ≡ true → flight ≡ None) →
      (old.is_open ≡ true → old.is_barred ≡ false → IsDoubtOf flight doubt) →
      ((d : Doubt) → doubt ≡ Some d → MayFollow old.records old.journal (journal_end old) now d.entry) →
      IsSound limit (gone_on old next flight doubt now began)
  unfolding setup_in
  going-sound next flight doubt now began number kind place stay others own own_ready under count append barred undoubted doubts =
      record {
        accepted = S.accepted;
        spelled = S.spelled;
        journal = journal-same old (gone_on old next flight doubt now began) refl refl refl S.journal;
        room = (let a = sum-with (reserved (version_of old.records) (setup_in old)) old.jobs next job found in
            omega (arith, a, room-same (version_of old.records) (setup_in old) job next kind count, S.room));
        files = held-on old.bytes now old.records S.accepted stay S.files;
        names = (let a = taken-fewer old.records old.records old.jobs (with_job old.jobs next) (λ n h. ap (λ
            b. b || is_some (file_of old.records n)) (sym (put-with n old.jobs next job found kind)) ∙ h) in
            omega (arith, a, S.names));
        ids = λ l. (let a = sum-with starts_left old.jobs next job found in let b = starts-on job next kind
            place in omega (arith, a, b, S.ids (omega (arith, l, a, b))));
        audits = λ k j h is_audit l. elim (found_with old.jobs next k j h) [
          | inl p ↦ S.audits job.number job runs (sym kind ∙ (ap (λ (z : Job). z.kind) (sym p.1) ∙ is_audit))
              (omega (arith, l, ap (λ (z : Job). z.place) p.1, place))
          | inr q ↦ S.audits k j q.1 is_audit l
        ];
        closed = λ closed. absurd (found_some (S.closed closed).0);
        set_up = S.set_up;
        handed = S.handed;
        few = omega (arith, length-with old.jobs next, S.few);
        numbered = numbered-with 0 old.jobs old.next_job next S.numbered;
        jobs = λ k j h. elim (found_with old.jobs next k j h) [
          | inl p ↦ subst (λ (z : Job). IsSoundJob (setup_in old) old.records now (moves_made flight k) z)
              (sym p.1) (subst (λ n. IsSoundJob (setup_in old) old.records now (moves_made flight n) next)
              (sym (p.0 ∙ number)) own)
          | inr q ↦ kept (setup_in old) old.records old.bytes now stay (moves_made old.append k)
              (moves_made flight k) j (others k (λ e. q.0 (e ∙ sym number))) (S.jobs k j q.1)
        ];
        in_journal = λ k j h. elim (found_with old.jobs next k j h) [
          | inl p ↦ subst (λ (z : Job). IsReady (setup_in old) old.journal now z z.kind) (sym p.1) own_ready
          | inr q ↦ kept-ready (setup_in old) old.journal old.bytes now
              (λ id l. stay id (omega (arith, l, S.journal.alike.id))) j j.kind (S.in_journal k j q.1)
        ];
        lone = λ x e. absurd (found_some (S.lone x e));
        packing = S.packing;
        switching = λ e. absurd (found_some (S.switching e).jobs);
        upgrade = λ k j h u. (let a = back k j h in
            only-with old.jobs next job a.0 found
            (S.upgrade k a.0 a.1 (subst (λ kd. IsTrue (is_upgrade (aim_of kd))) a.2 u)) k j h);
        one_check = λ k l i j hi hj ci cj. (let a = back k i hi in let b = back l j hj in
            S.one_check k l a.0 b.0 a.1 b.1 (subst (λ kd. IsTrue (is_check (aim_of kd))) a.2 ci)
            (subst (λ kd. IsTrue (is_check (aim_of kd))) b.2 cj));
        apart = λ k l i j hi hj ui uj same. (let a = under-back k i hi ui in let b = under-back l j hj uj in
            S.apart k l a.0 b.0 a.1 b.1 a.2 b.2 (sym a.3 ∙ (same ∙ b.3)));
        append = append;
        barred = barred;
        undoubted = undoubted;
        doubt = doubts;
      }
    where
      found : job_of old.jobs next.number ≡ Some job
      found = subst (λ n. job_of old.jobs n ≡ Some job) (sym number) runs

      found_some : old.jobs ≡ [] → ⊥
      found_some e = some-not-none (job_of old.jobs job.number) job runs (ap (λ l. job_of l job.number) e)

      at : (k : ℕ) → k ≡ next.number → job_of old.jobs k ≡ Some job
      at k e = subst (λ n. job_of old.jobs n ≡ Some job) (sym e) found

      back : (k : ℕ) (j : Job) → job_of (with_job old.jobs next) k ≡ Some j →
          (i : Job) × (job_of old.jobs k ≡ Some i) × (j.kind ≡ i.kind)
      back k j h = elim (found_with old.jobs next k j h) [
        | inl p ↦ (job, at k p.0, ap (λ (z : Job). z.kind) p.1 ∙ kind)
        | inr q ↦ (j, q.1, refl)
      ]

      under-back : (k : ℕ) (j : Job) → job_of (with_job old.jobs next) k ≡ Some j → IsPutUnderWay j j.kind →
          (i : Job) × (job_of old.jobs k ≡ Some i) × IsPutUnderWay i i.kind × (j.subject ≡ i.subject)
      under-back k j h u = elim (found_with old.jobs next k j h) [
        | inl p ↦ (let v = under (subst (λ (z : Job). IsPutUnderWay z z.kind) p.1 u) in
            (job, at k p.0, v.0, ap (λ (z : Job). z.subject) p.1 ∙ v.1))
        | inr q ↦ (j, q.1, u, refl)
      ]

  -- another job's append in flight
  append-other : (next : Job) (flight : Option Append) (doubt : Option Doubt) (began : ℕ → ℕ) (a : Append) →
      next.number ≡ job.number → (a.job ≡ job.number → ⊥) → IsSoundAppend old a →
      IsSoundAppend (gone_on old next flight doubt old.bytes began) a
  unfolding setup_in
  append-other next flight doubt began a number apart A = record {
    job = A.job;
    runs = still-with old.jobs next a.job A.job (λ e. apart (e ∙ number)) A.runs;
    begun = A.begun;
    undone = A.undone;
    writes = A.writes;
    drawn = A.drawn;
    bytes = A.bytes;
    follows = A.follows;
  }

  -- the job has made the moves before its action, and what it has left is in order
  pub order-now : (action : Action) (given : List Given) → next_action old job ≡ Some action →
      (action ≡ End → ⊥) →
      (moves_made old.append job.number ≡ moves_before action) ×
      IsInOrder (moves_after action) (actions_left (setup_in old) (onward job job.subject given))
  order-now action given next n = order-onward old job given (moves_made old.append job.number) action next n
      (S.jobs job.number job runs).order

  -- an action that is no fourth move leaves as many appends to finish
  pub count-now : (action : Action) (given : List Given) → next_action old job ≡ Some action →
      (action ≡ End → ⊥) → ends_append action ≡ false →
      appends_left (setup_in old) (onward job job.subject given) ≡ appends_left (setup_in old) job
  count-now action given next n plain =
      (let b : gates action ≡ 0 = cond_false (ends_append action) 1 0 plain in
      omega (arith, count-onward old job given action next n))

  -- an action between appends
  pub plain-sound : (action : Action) (given : List Given) → next_action old job ≡ Some action →
      (action ≡ End → ⊥) → ends_append action ≡ false → moves_before action ≡ 0 → moves_after action ≡ 0 →
      IsSound limit (gone_on old (onward job job.subject given) old.append old.doubt old.bytes old.audits)
  plain-sound action given next n plain before after = (let o = order-now action given next n in
      let count = count-now action given next n plain in
      let none : moves_made old.append job.number ≡ 0 = o.0 ∙ before in
      going-sound (onward job job.subject given) old.append old.doubt old.bytes old.audits refl refl
      (omega arith) (λ id l. refl) (λ k l. refl)
      (went (setup_in old) old.records old.bytes old.bytes (λ id l. refl) old
      (moves_made old.append job.number) (moves_made old.append job.number) job job.subject given action
      next plain (λ l. refl) (λ l. refl) (S.jobs job.number job runs).subject count
      (subst (λ m. IsInOrder m (actions_left (setup_in old) (onward job job.subject given)))
      (after ∙ sym none) o.1) (S.jobs job.number job runs))
      (went-ready (setup_in old) old.journal old.bytes old.bytes
      (λ id l. refl) old job job.subject given action next plain (λ l. refl)
      (λ l. refl) count job.kind refl (S.in_journal job.number job runs))
      (under job.kind refl next plain) count
      (λ a flight. append-other (onward job job.subject given) old.append old.doubt old.audits a refl
      (not-mine old.append job.number a flight (S.append a flight).begun none) (S.append a flight))
      S.barred S.undoubted S.doubt)
    where
      under : (kind : Kind) → job.kind ≡ kind → next_action old job ≡ Some action →
          ends_append action ≡ false → IsPutUnderWay (onward job job.subject given) kind →
          IsPutUnderWay job kind × (job.subject ≡ job.subject)
      under (PutJob name bytes) kind next plain l = (
        elim (cases_eq job.place 3) [
          | inl three ↦ absurd (not-three objects old job action
              (subst (Draws objects) (sym kind) tt) next plain three)
          | inr other ↦ omega (arith, l, other)
        ],
        refl,
      )
      under h kind next plain l = absurd l
