-- Sound states after the fourth move of an append: its record is in effect.
use Rattle.state_laws.proofs.Words.{◌≡◌, ◌-◌, ◌<◌, ◌==◌, Bool, true, false, cond, ◌⊎◌, ◌||◌, ◌&&◌, ◌++◌, length, Option, refl, ap, sym, subst, ◌∙◌, inl, inr, arith, sum_by, is_some, IsTrue, slice_get, cases_Bool, cases_lt, false≢true, eq-eqb, ne_eqb, and_from, sum_by-cons, some-not-none, Setup, Record, PutStart, PutDone, AuditStart, AuditDone, RepairDone, Resume, largest_journal, PutDoneIn, RepairDue, nat_tests, File, version_of, next_id, next_audit, started_as, file_of, running_audit, due_of, is_same_name, refused, is_due, AreAccepted, same-refl, Kind, PutJob, GetJob, DropJob, AuditJob, RepairJob, UpgradeJob, aim_of, Pinned, Job, job_of, with_job, Action, SyncGate, append_actions, actions_of, actions_left, appends_left, State, Append, Packing, setup_in, file_in, journal_end, reserved, puts_name, is_check, is_upgrade, Writes, is_first_append, subject_drawn, bytes_drawn, is_pinned, removable, taken_out, done_append, next_action, cond_true, cond_false, same_value, found_with, found_itself, first_below, setup_same, put_ended, by_version, next_stands, moves_made, IsInOrder, IsPin, IsOlder, HasDrawn, IsReady, IsSoundJob, IsSoundAppend, IsPutUnderWay, starts_left, IsSound, NoRepair}
use Rattle.std.proofs.Common.{ℕ, ◌+◌, ◌^◌, ◌≤◌, List, [], ◌∷◌, Some, None}
use Rattle.machine_defs.proofs.Written.{writes_appended}
use Rattle.state_laws.proofs.Orders.{moves-within, put_rest, audit_rest, put-list, audit-list, put-first, put-later, audit-later, drop-first, repair-first, upgrade-first}
use Rattle.state_laws.proofs.JobLists.{sum-with, length-with, numbered-with, only-with, only-number, mine, other}
use Rattle.state_laws.proofs.NamesTaken.{are_put, put-in, taken-fewer}
use Rattle.state_laws.proofs.Records.{is_some-at, up-more, setup-more, next_id-grows, sound-accepted, grammar-more, held-more, Came, file-came, version-before}
use Rattle.state_laws.proofs.Packs.{journal-brought}
use Rattle.state_laws.proofs.Rooms.{room_of, room-step, put-writes_first, put-writes_later, audit-writes_first, audit-writes_later}
use Rattle.state_laws.proofs.Written.{starts-first, starts-later, starts-on, runs-open, sizes}
use Rattle.state_laws.proofs.Turns.{put-with}
use Rattle.state_laws.proofs.Gates.{decided, GoesOn, put-first_gate, put-later_gate, drop-first_gate, same-list, audit-same, repair-same, upgrade-same}

-- ---- records that are no checks' leave audits and repairs as they are

abbrev IsNoCheck : Record → Type 0
IsNoCheck (AuditStart number) = ⊥
IsNoCheck (AuditDone number undecided counts) = ⊥
IsNoCheck (RepairDone number) = ⊥
IsNoCheck (RepairDue number counts) = ⊥
IsNoCheck (Resume next audit) = ⊥
IsNoCheck r = Unit {0}

quiet-same : (r : Record) (rs : List Record) → IsNoCheck r → (running_audit (r ∷ rs) ≡ running_audit rs) ×
    (due_of (r ∷ rs) ≡ due_of rs) × (next_audit (r ∷ rs) ≡ next_audit rs)
quiet-same (AuditStart number) rs h = absurd h
quiet-same (AuditDone number undecided counts) rs h = absurd h
quiet-same (RepairDone number) rs h = absurd h
quiet-same (RepairDue number counts) rs h = absurd h
quiet-same (Resume next audit) rs h = absurd h
quiet-same r rs h = (refl, refl, refl)

-- what a put writes is its start or, behind its first append, its end in either version
put-written : (P : Record → Type 0) (w : State) (job : Job) (name bytes : List ℕ) (entry : Record) →
    Writes w job (PutJob name bytes) entry → (job.place < 4 → P (PutStart (next_id w.records) name)) →
    (4 ≤ job.place → P (PutDone job.subject (length bytes)) ×
    P (PutDoneIn job.subject (length bytes) job.profile)) → P entry
put-written P w job name bytes entry h first later = elim (cases_lt job.place 4) [
  | inl l ↦ subst P (sym (put-writes_first w job name bytes entry l h)) (first l)
  | inr l ↦ subst P (sym (put-writes_later w job name bytes entry l h))
      (by_version (version_of w.records) job.subject (length bytes) job.profile P (later l).1 (later l).0)
]

-- what an audit writes is its start or, behind its first append, its end
audit-written : (P : Record → Type 0) (w : State) (job : Job) (entry : Record) → Writes w job AuditJob entry →
    P (AuditStart (next_audit w.records)) →
    ((undecided : ℕ) (counts : List ℕ) → P (AuditDone job.subject undecided counts)) → P entry
audit-written P w job entry h first later = elim (cases_lt job.place 4) [
  | inl l ↦ subst P (sym (audit-writes_first w job entry l h)) first
  | inr l ↦ (let wrote = audit-writes_later w job entry l h in
      subst P (sym wrote.2) (later wrote.0.undecided wrote.0.counts))
]

-- a job that is no check writes no such record
no-check : (w : State) (job : Job) (kind : Kind) (entry : Record) → (is_check (aim_of kind) ≡ true → ⊥) →
    Writes w job kind entry → IsNoCheck entry
no-check w job (PutJob name bytes) entry n h =
    put-written IsNoCheck w job name bytes entry h (λ l. tt) (λ l. (tt, tt))
no-check w job (GetJob name) entry n h = absurd h
no-check w job (DropJob name) entry n h = subst IsNoCheck (sym h) tt
no-check w job UpgradeJob entry n h = subst IsNoCheck (sym h) tt
no-check w job kind entry n h = absurd (n refl)

-- only an upgrade changes the version
version-kept : (w : State) (job : Job) (kind : Kind) (entry : Record) (rs : List Record) →
    Writes w job kind entry → (version_of (entry ∷ rs) ≡ version_of rs) ⊎ (kind ≡ UpgradeJob)
version-kept w job (PutJob name bytes) entry rs h = inl (put-written
    (λ r. version_of (r ∷ rs) ≡ version_of rs) w job name bytes entry h (λ l. refl) (λ l. (refl, refl)))
version-kept w job (GetJob name) entry rs h = absurd h
version-kept w job AuditJob entry rs h =
    inl (audit-written (λ r. version_of (r ∷ rs) ≡ version_of rs) w job entry h refl (λ u counts. refl))
version-kept w job UpgradeJob entry rs h = inr refl
version-kept w job _ entry rs h = inl (ap (λ r. version_of (r ∷ rs)) h)

-- the fourth move of a first append stands at place 3
pub gate-within : (rest : List Action) (p : ℕ) → p < 4 →
    slice_get (append_actions ++ rest) p ≡ Some SyncGate → p ≡ 3
gate-within rest p l h = moves-within rest p SyncGate l h

-- the end of a put is written by a put behind its first append
done-by : (w : State) (job : Job) (kind : Kind) (entry : Record) (id : ℕ) → Writes w job kind entry →
    put_ended entry ≡ Some id → IsPutUnderWay job kind × (job.subject ≡ id)
done-by w job (PutJob name bytes) entry id h = put-written
    (λ r. put_ended r ≡ Some id → IsPutUnderWay job (PutJob name bytes) × (job.subject ≡ id))
    w job name bytes entry h (λ l e. cc e) (λ l. (λ e. (l, cc e), λ e. (l, cc e)))
done-by w job (GetJob name) entry id h = absurd h
done-by w job AuditJob entry id h = audit-written
    (λ r. put_ended r ≡ Some id → IsPutUnderWay job AuditJob × (job.subject ≡ id))
    w job entry h (λ e. absurd (cc e)) (λ u counts e. absurd (cc e))
done-by w job kind entry id h = λ e. absurd (cc (sym (ap put_ended h) ∙ e))

-- a started put stays so until its own end
started-stays : (rs : List Record) (r : Record) (id : ℕ) (name : List ℕ) → refused rs r ≡ None →
    id < next_id rs →
    (put_ended r ≡ Some id → ⊥) → started_as rs id ≡ Some name → started_as (r ∷ rs) id ≡ Some name
started-stays rs (PutStart k m) id name a l n h =
    let drawn : k ≡ next_id rs = grind (arith, nat_tests, a) in
    cond_false (k == id) (Some m) (started_as rs id) (ne_eqb k id (λ e. omega (arith, l, drawn, e))) ∙ h
started-stays rs (PutDone k size) id name a l n h =
    cond_false (k == id) None (started_as rs id) (ne_eqb k id (λ e. n (ap Some e))) ∙ h
started-stays rs (PutDoneIn k size profile) id name a l n h =
    cond_false (k == id) None (started_as rs id) (ne_eqb k id (λ e. n (ap Some e))) ∙ h
started-stays rs r id name a l n h = h

module _ (s : Setup) (rs : List Record) (bytes : ℕ → List ℕ) (entry : Record)
    (accepted : AreAccepted (entry ∷ rs)) where
  grows : next_id rs ≤ next_id (entry ∷ rs)
  grows = next_id-grows entry rs accepted

  pin-more : (f : Pinned) → IsPin rs bytes f → IsPin (entry ∷ rs) bytes f
  pin-more f p = record {
    drawn = omega (arith, p.drawn, grows);
    bytes_are = p.bytes_are;
    spelled = p.spelled;
    size = p.size;
  }

  older-more : (older : List ℕ) → IsOlder rs older → IsOlder (entry ∷ rs) older
  older-more older (inl e) = inl e
  older-more older (inr (id, e, l)) = inr (id, e, omega (arith, l, grows))

  -- what stands ready for another job, whose record this is not
  kept-ready_more : (job : Job) (kind : Kind) →
      (IsPutUnderWay job kind → put_ended entry ≡ Some job.subject → ⊥) →
      (IsTrue (is_check (aim_of kind)) → IsNoCheck entry) → (IsTrue (is_upgrade (aim_of kind)) → ⊥) →
      IsReady s rs bytes job kind → IsReady s (entry ∷ rs) bytes job kind
  kept-ready_more job (PutJob name content) apart quiet lone r = λ l. (let d = r l in record {
    drawn = omega (arith, d.drawn, grows);
    bytes_are = d.bytes_are;
    started = λ k. started-stays rs entry job.subject name accepted.0 d.drawn (apart l) (d.started k);
  })
  kept-ready_more job (GetJob name) apart quiet lone r = r
  kept-ready_more job (DropJob name) apart quiet lone r = tt
  kept-ready_more job AuditJob apart quiet lone r = (
    λ l. (quiet-same entry rs (quiet refl)).1 ∙ r.0 l,
    λ l k. (quiet-same entry rs (quiet refl)).0 ∙ r.1 l k,
  )
  kept-ready_more job RepairJob apart quiet lone r =
      λ k. ap (λ d. cond (is_due job.subject d) None (Some NoRepair)) (quiet-same entry rs (quiet refl)).1 ∙
      r k
  kept-ready_more job UpgradeJob apart quiet lone r = absurd (lone refl)

  -- another job
  kept-more : (moves : ℕ) (job : Job) → moves ≡ 0 → IsReady s (entry ∷ rs) bytes job job.kind →
      IsSoundJob s rs bytes moves job → IsSoundJob s (entry ∷ rs) bytes 0 job
  kept-more moves job none ready J = record {
    spelled = J.spelled;
    wish = J.wish;
    pins = J.pins;
    few = J.few;
    ascending = J.ascending;
    pinned = λ f i. pin-more f (J.pinned f i);
    subject = J.subject;
    older = older-more job.older J.older;
    undecided = J.undecided;
    order = subst (λ m. IsInOrder m (actions_left s job)) none J.order;
    ready = ready;
    profile = J.profile;
    plain = λ v. J.plain (version-before entry rs v);
  }

-- ---- the object that a job has decided to take away

removable-older : (w : State) (f : Option File) →
    ((file : File) → f ≡ Some file → file.id < next_id w.records) → IsOlder w.records (removable w f)
removable-older w None h = inl refl
removable-older w (Some f) h = elim (cases_Bool (is_pinned w f.id)) [
  | inl t ↦ inl (cond_true (is_pinned w f.id) [] (f.id ∷ []) t)
  | inr n ↦ inr (f.id, cond_false (is_pinned w f.id) [] (f.id ∷ []) n, h f refl)
]

taken-older : (w : State) (job : Job) (kind : Kind) →
    ((name : List ℕ) (file : File) → file_in w name ≡ Some file → file.id < next_id w.records) →
    IsOlder w.records (taken_out w job kind)
taken-older w job (PutJob name bytes) h = by_first (is_first_append job)
  where
    by_first : (b : Bool) → IsOlder w.records (cond b [] (removable w (file_in w name)))
    by_first true = inl refl
    by_first false = removable-older w (file_in w name) (λ file e. h name file e)
taken-older w job (DropJob name) h = removable-older w (file_in w name) (λ file e. h name file e)
taken-older w job kind h = inl refl

-- ---- the job whose append is done

module _ (limit : ℕ) (old : State) (S : IsSound limit old) (job : Job)
    (runs : job_of old.jobs job.number ≡ Some job) (next : next_action old job ≡ Some SyncGate)
    (a : Append) (flight : old.append ≡ Some a) (own : a.job ≡ job.number) (three : a.moves ≡ 3) where
  -- the setup in effect
  abbrev pub s : Setup
  s = setup_in old

  -- the object that the job takes away from now on, if there is one
  abbrev pub older_now : List ℕ
  older_now = taken_out old job job.kind

  -- the job after its fourth move
  abbrev pub after : Job
  after = decided job older_now

  abbrev rs_now : List Record
  rs_now = a.entry ∷ old.records

  J : IsSoundJob s old.records old.bytes (moves_made old.append job.number) job
  J = S.jobs job.number job runs

  A : IsSoundAppend old a
  A = S.append a flight

  is_job : A.job ≡ job
  is_job = same_value (job_of old.jobs job.number) A.job job
      (subst (λ n. job_of old.jobs n ≡ Some A.job) own A.runs) runs

  -- the record in flight is the one that the job writes
  pub done-writes : Writes old job job.kind a.entry
  done-writes = subst (λ (x : Job). Writes old x x.kind a.entry) is_job A.writes

  done-drawn : subject_drawn old job job.kind ≡ job.subject
  done-drawn = subst (λ (x : Job). subject_drawn old x x.kind ≡ x.subject) is_job A.drawn

  done-bytes : (id : ℕ) → bytes_drawn old job job.kind id ≡ old.bytes id
  done-bytes id = rw is_job at (A.bytes id)

  accepted : AreAccepted rs_now
  accepted = (A.follows.accepted, S.accepted)

  -- three moves of the job's append are made, and the rest is in order
  pub gate-order : IsInOrder 3 (actions_left s job)
  gate-order = rw (ap (λ f. moves_made f job.number) flight ∙ (mine a job.number own ∙ three)) at J.order

  first-older : (name bytes : List ℕ) → job.kind ≡ PutJob name bytes → job.place < 4 → older_now ≡ []
  first-older name bytes kind l = ap (taken_out old job) kind
      ∙ cond_true (is_first_append job) [] (removable old (file_in old name)) (first_below job l)

  -- what the job has left goes on in order, with one append less
  pub goes : GoesOn old job older_now next gate-order
  goes = by_kind job.kind refl done-writes
    where
      by_kind : (kind : Kind) → job.kind ≡ kind → Writes old job kind a.entry →
          GoesOn old job older_now next gate-order
      by_kind (PutJob name bytes) kind h = elim (cases_lt job.place 4) [
        | inl l ↦ put-first_gate old job older_now next gate-order name bytes kind
            (first-older name bytes kind l
            ∙ sym (J.undecided
            (omega (arith, put-first s job name bytes kind l))))
        | inr l ↦ put-later_gate old job older_now next gate-order name bytes kind l
      ]
      by_kind (GetJob name) kind h = absurd h
      by_kind (DropJob name) kind h = drop-first_gate old job older_now next gate-order name kind
      by_kind AuditJob kind h = same-list old job older_now next gate-order (audit-same s job older_now kind)
      by_kind RepairJob kind h = same-list old job older_now next gate-order
          (repair-same s job older_now kind)
      by_kind UpgradeJob kind h = same-list old job older_now next gate-order
          (upgrade-same s job older_now kind)

  -- the job has one append less to finish
  pub one-less : appends_left s job ≡ 1 + appends_left s after
  one-less = goes.1

  drawn-first_put : (name bytes : List ℕ) → job.kind ≡ PutJob name bytes → job.place < 4 →
      job.subject ≡ next_id old.records
  drawn-first_put name bytes kind l = sym (rw kind at done-drawn)
      ∙ cond_true (is_first_append job) (next_id old.records) job.subject (first_below job l)

  drawn-first_audit : job.kind ≡ AuditJob → job.place < 4 → job.subject ≡ next_audit old.records
  drawn-first_audit kind l = sym (subst (λ kd. subject_drawn old job kd ≡ job.subject) kind done-drawn)
      ∙ cond_true (is_first_append job) (next_audit old.records) job.subject (first_below job l)

  drawn-first_bytes : (name bytes : List ℕ) → job.kind ≡ PutJob name bytes → job.place < 4 →
      old.bytes job.subject ≡ bytes
  drawn-first_bytes name bytes kind l = sym (rw kind at (done-bytes job.subject))
      ∙ cond_true (is_first_append job && (job.subject == next_id old.records)) bytes (old.bytes job.subject)
      (and_from (is_first_append job) (job.subject == next_id old.records) (first_below job l)
      (eq-eqb job.subject (next_id old.records) (drawn-first_put name bytes kind l)))

  after-ready : (rs : List Record) → AreAccepted (a.entry ∷ rs) → next_id rs ≡ next_id old.records →
      (kind : Kind) → job.kind ≡ kind → Writes old job kind a.entry →
      IsReady s rs old.bytes job kind → IsReady s (a.entry ∷ rs) old.bytes after kind
  after-ready rs acc same (PutJob name bytes) kind h r = λ l. elim (cases_lt job.place 4) [
    | inl f ↦ (let e = put-writes_first old job name bytes a.entry f h in
        let n = drawn-first_put name bytes kind f in
        subst (λ x. HasDrawn s (x ∷ rs) old.bytes after name bytes) (sym e) (record {
          drawn = omega (arith, n, same);
          bytes_are = drawn-first_bytes name bytes kind f;
          started = λ k. cond_true (next_id old.records == job.subject) (Some name)
              (started_as rs job.subject) (eq-eqb (next_id old.records) job.subject (sym n));
        }))
    | inr f ↦ (let d = r f in record {
      drawn = omega (arith, d.drawn, next_id-grows a.entry rs acc);
      bytes_are = d.bytes_are;
      started = λ k. absurd (omega (arith, k, put-later s job name bytes kind f, one-less));
    })
  ]
  after-ready rs acc same (GetJob name) kind h r = λ k. tt
  after-ready rs acc same (DropJob name) kind h r = tt
  after-ready rs acc same AuditJob kind h r = elim (cases_lt job.place 4) [
    | inl f ↦ (let e = audit-writes_first old job a.entry f h in
        subst (λ x. IsReady s (x ∷ rs) old.bytes after AuditJob) (sym e)
        (λ l. r.0 f, λ l k. ap Some (sym (drawn-first_audit kind f))))
    | inr f ↦ (
      λ l. absurd (omega (arith, l, f)),
      λ l k. absurd (omega (arith, k, audit-later s job kind f, one-less)),
    )
  ]
  after-ready rs acc same RepairJob kind h r =
      λ k. absurd (omega (arith, k, repair-first s job kind, one-less))
  after-ready rs acc same UpgradeJob kind h r =
      λ k. absurd (omega (arith, k, upgrade-first s job kind, one-less))

  after-undecided : (kind : Kind) → job.kind ≡ kind → Writes old job kind a.entry → 0 < appends_left s after →
      older_now ≡ []
  after-undecided (PutJob name bytes) kind h k = elim (cases_lt job.place 4) [
    | inl f ↦ first-older name bytes kind f
    | inr f ↦ absurd (omega (arith, k, put-later s job name bytes kind f, one-less))
  ]
  after-undecided (GetJob name) kind h k = absurd h
  after-undecided (DropJob name) kind h k = absurd (omega (arith, k, drop-first s job name kind, one-less))
  after-undecided g kind h k = ap (taken_out old job) kind

  after-job : IsSoundJob s rs_now old.bytes 0 after
  after-job = record {
    spelled = J.spelled;
    wish = J.wish;
    pins = J.pins;
    few = J.few;
    ascending = J.ascending;
    pinned = λ f i. pin-more s old.records old.bytes a.entry accepted f (J.pinned f i);
    subject = J.subject;
    older = older-more s old.records old.bytes a.entry accepted older_now
        (taken-older old job job.kind
        (λ name file e. ((sound-accepted old.records S.accepted).file name file e).0));
    undecided = after-undecided job.kind refl done-writes;
    order = goes.0;
    ready = after-ready old.records accepted refl job.kind refl done-writes J.ready;
    profile = J.profile;
    plain = λ v. (let p = J.plain (version-before a.entry old.records v) in
        record { own = p.own; pinned = p.pinned });
  }

  -- another job
  other-ready : (k : ℕ) (j : Job) → (k ≡ job.number → ⊥) → job_of old.jobs k ≡ Some j → (rs : List Record) →
      AreAccepted (a.entry ∷ rs) → IsReady s rs old.bytes j j.kind →
      IsReady s (a.entry ∷ rs) old.bytes j j.kind
  other-ready k j n r rs acc ready = kept-ready_more s rs old.bytes a.entry acc j j.kind
      (λ u e. (let d = done-by old job job.kind a.entry j.subject done-writes e in
      n (S.apart k job.number j job r runs u d.0 (sym d.1))))
      (λ c. no-check old job job.kind a.entry (λ d. n (S.one_check k job.number j job r runs c d))
      done-writes)
      (λ u. n (only-number old.jobs j (S.upgrade k j r u) k job.number j job r runs))
      ready

  other-job : (k : ℕ) (j : Job) → (k ≡ job.number → ⊥) → job_of old.jobs k ≡ Some j →
      IsSoundJob s rs_now old.bytes 0 j
  other-job k j n r = kept-more s old.records old.bytes a.entry accepted (moves_made old.append k) j
      (ap (λ f. moves_made f k) flight ∙ other a k (λ e. n (sym e ∙ own)))
      (other-ready k j n r old.records accepted (S.jobs k j r).ready) (S.jobs k j r)

  -- the name of a file that comes in is that of the put
  done-name : (n : List ℕ) (id : ℕ) → put_ended a.entry ≡ Some id → started_as old.records id ≡ Some n →
      are_put n old.jobs ≡ true
  done-name n id e started = by_kind job.kind refl done-writes J.ready
    where
      by_kind : (kind : Kind) → job.kind ≡ kind → Writes old job kind a.entry →
          IsReady s old.records old.bytes job kind → are_put n old.jobs ≡ true
      by_kind (PutJob name bytes) kind h r = (let d = done-by old job (PutJob name bytes) a.entry id h e in
          let left : 0 < appends_left s job = omega (arith, one-less) in
          let is : n ≡ name = same_value (started_as old.records id) n name started
          (ap (started_as old.records) (sym d.1) ∙ ((r d.0).started left)) in
          put-in n old.jobs job.number job runs (ap (λ kd. puts_name n (aim_of kd)) kind
          ∙ (ap (is_same_name n) (sym is) ∙ same-refl n)))
      by_kind (GetJob name) kind h r = absurd h
      by_kind k kind h r = absurd (done-by old job k a.entry id h e).0

  names-were : (n : List ℕ) → (are_put n (with_job old.jobs after) || is_some (file_of rs_now n)) ≡ true →
      (are_put n old.jobs || is_some (file_of old.records n)) ≡ true
  names-were n h = elim (cases_Bool (are_put n old.jobs)) [
    | inl t ↦ ap (λ b. b || is_some (file_of old.records n)) t
    | inr f ↦ (let g : is_some (file_of rs_now n) ≡ true =
        sym (ap (λ b. b || is_some (file_of rs_now n)) (put-with n old.jobs after job runs refl ∙ f)) ∙ h in
        let file = is_some-at (file_of rs_now n) g in
        ap (λ b. b || is_some (file_of old.records n)) f
        ∙ elim (file-came a.entry old.records n file.0 file.1) [
          | inl was ↦ ap is_some was
          | inr new ↦ elim new [
            | Came.done is started profile ↦
                absurd (false≢true (sym f ∙ done-name n file.0.id (ap put_ended is) started))
            | Came.done_in is started ↦
                absurd (false≢true (sym f ∙ done-name n file.0.id (ap put_ended is) started))
            | Came.brought is ↦ absurd (rw is at (writes_appended old job job.kind a.entry done-writes))
          ]
        ])
  ]

  -- a put under way has a number below the next, or the one that its append just drew
  under-after : IsPutUnderWay after job.kind → IsPutUnderWay job job.kind ⊎
      (job.subject ≡ next_id old.records)
  under-after u = by_kind job.kind refl u
    where
      by_kind : (kind : Kind) → job.kind ≡ kind → IsPutUnderWay after kind →
          IsPutUnderWay job kind ⊎ (job.subject ≡ next_id old.records)
      by_kind (PutJob name bytes) kind u = elim (cases_lt job.place 4) [
        | inl f ↦ inr (drawn-first_put name bytes kind f)
        | inr f ↦ inl f
      ]
      by_kind h kind u = absurd u

  under-below : (k : ℕ) (j : Job) → job_of old.jobs k ≡ Some j → IsPutUnderWay j j.kind →
      j.subject < next_id old.records
  under-below k j r u = by_kind j.kind u (S.jobs k j r).ready
    where
      by_kind : (kind : Kind) → IsPutUnderWay j kind → IsReady s old.records old.bytes j kind →
          j.subject < next_id old.records
      by_kind (PutJob name bytes) u r = (r u).drawn
      by_kind kind u r = absurd u

  abbrev new : State
  new = done_append old job a

  setup-stays : setup_in new ≡ s
  setup-stays = setup_same new old (setup-more a.entry old.records
      (S.set_up (runs-open limit old S job.number job runs)) A.follows.accepted)

  done-room : journal_end new + sum_by (reserved (version_of old.records) s)
      (with_job old.jobs after) ≤ largest_journal
  done-room = (let k = appends_left s after in let left : appends_left s job ≡ k + 1 = (let c = one-less in
      omega (arith, c)) in let step = room-step old job job.kind a.entry k refl done-writes left (sizes limit
      old S job.number job runs) in let before : reserved (version_of old.records) s job ≡ room_of
      (version_of old.records) s job.kind (k + 1) = ap (room_of (version_of old.records) s job.kind) left in
      let now : reserved (version_of old.records) s after ≡ room_of (version_of old.records) s job.kind k =
      refl in
      omega (arith, sum-with (reserved (version_of old.records) s) old.jobs after job runs, step, S.room))

  -- an upgrade runs alone, and has no further record to write
  done-reserved : sum_by (reserved (version_of rs_now) s) (with_job old.jobs after) ≤ sum_by
      (reserved (version_of old.records) s) (with_job old.jobs after)
  done-reserved = elim (version-kept old job job.kind a.entry old.records done-writes) [
    | inl same ↦ omega (arith, ap (λ v. sum_by (reserved v s) (with_job old.jobs after)) same)
    | inr kind ↦ (let one = only-with old.jobs after job job runs
        (S.upgrade job.number job runs (subst (λ kd. IsTrue (is_upgrade (aim_of kd))) (sym kind) refl))
        after.number after (found_itself old.jobs after job runs) in
        let none : appends_left s after ≡ 0 =
        omega (arith, upgrade-first s job kind, one-less) in
        let free : reserved (version_of rs_now) s after ≡ 0 =
        ap (λ kd. room_of (version_of rs_now) s kd (appends_left s after)) kind
        ∙ ap (room_of (version_of rs_now) s UpgradeJob) none in
        let all = ap (sum_by (reserved (version_of rs_now) s)) one
        ∙ sum_by-cons (reserved (version_of rs_now) s) after [] in
        omega (arith, all, free))
  ]

  -- ---- the numbers that are left

  gate-three : (rest : List Action) → actions_of s job ≡ append_actions ++ rest → job.place < 4 → job.place
      ≡ 3
  gate-three rest e l = gate-within rest job.place l
      (ap (λ xs. slice_get xs job.place) (sym e) ∙ next_stands old job SyncGate next (λ f. cc))

  starts-less : starts_left after ≤ starts_left job
  starts-less = starts-on job after refl (omega arith)

  ids-after : next_id rs_now + starts_left after ≤ next_id old.records + starts_left job
  ids-after = by_kind job.kind refl done-writes
    where
      same : next_id rs_now ≡ next_id old.records →
          next_id rs_now + starts_left after ≤ next_id old.records + starts_left job
      same e = omega (arith, e, starts-less)

      by_kind : (kind : Kind) → job.kind ≡ kind → Writes old job kind a.entry →
          next_id rs_now + starts_left after ≤ next_id old.records + starts_left job
      by_kind (PutJob name bytes) kind h = put-written
          (λ r. next_id (r ∷ old.records) + starts_left after ≤ next_id old.records + starts_left job) old job
          name bytes a.entry h (λ l. omega (
            arith,
            starts-first job name bytes kind l,
            starts-later after (omega (arith, gate-three (put_rest s job bytes) (put-list s job name bytes kind) l)),
          ))
          (λ l. (omega (arith, starts-less), omega (arith, starts-less)))
      by_kind (GetJob name) kind h = absurd h
      by_kind AuditJob kind h = same (audit-written (λ r. next_id (r ∷ old.records) ≡ next_id old.records) old
          job a.entry h refl (λ u counts. refl))
      by_kind k kind h = same (ap (λ r. next_id (r ∷ old.records)) h)

  audits-after : (k : ℕ) (j : Job) → job_of (with_job old.jobs after) k ≡ Some j → j.kind ≡ AuditJob →
      j.place < 4 → next_audit rs_now ≤ 2 ^ 64 - 32
  audits-after k j h kind l = elim (found_with old.jobs after k j h) [
    | inl p ↦ absurd (let e : j.place ≡ job.place + 1 = ap (λ (z : Job). z.place) p.1 in
        omega (
          arith,
          l,
          gate-three (audit_rest s job)
              (audit-list s job (sym (ap (λ (z : Job). z.kind) p.1) ∙ kind)) (omega (arith, e, l)),
        ))
    | inr q ↦ (let e = (quiet-same a.entry old.records (no-check old job job.kind a.entry (λ d. q.0
        (S.one_check k job.number j job q.1 runs (ap (λ kd. is_check (aim_of kd)) kind) d)) done-writes)).2
        in omega (arith, S.audits k j q.1 kind l, e))
  ]

  back : (k : ℕ) (j : Job) → job_of (with_job old.jobs after) k ≡ Some j →
      (i : Job) × (job_of old.jobs k ≡ Some i) × (j.kind ≡ i.kind)
  back k j h = elim (found_with old.jobs after k j h) [
    | inl p ↦ (job, subst (λ n. job_of old.jobs n ≡ Some job) (sym p.0) runs, ap (λ (z : Job). z.kind) p.1)
    | inr q ↦ (j, q.1, refl)
  ]

  done-apart : (k l : ℕ) (i j : Job) → job_of (with_job old.jobs after) k ≡ Some i →
      job_of (with_job old.jobs after) l ≡ Some j → IsPutUnderWay i i.kind → IsPutUnderWay j j.kind →
      i.subject ≡ j.subject → k ≡ l
  done-apart k l i j hi hj ui uj same = elim (found_with old.jobs after k i hi) [
    | inl p ↦ elim (found_with old.jobs after l j hj) [
      | inl q ↦ p.0 ∙ sym q.0
      | inr q ↦ p.0 ∙ sym (with-own l j q.1 uj (rw p.1 at ui) (ap (λ z. z.subject) (sym p.1) ∙ same))
    ]
    | inr p ↦ elim (found_with old.jobs after l j hj) [
      | inl q ↦ with-own k i p.1 ui (rw q.1 at uj) (ap (λ z. z.subject) (sym q.1) ∙ sym same) ∙ sym q.0
      | inr q ↦ S.apart k l i j p.1 q.1 ui uj same
    ]
  ]
    where
      with-own : (l : ℕ) (j : Job) → job_of old.jobs l ≡ Some j → IsPutUnderWay j j.kind →
          IsPutUnderWay after job.kind → job.subject ≡ j.subject → l ≡ job.number
      with-own l j r u v same = elim (under-after v) [
        | inl w ↦ S.apart l job.number j job r runs u w (sym same)
        | inr e ↦ absurd (let b = under-below l j r u in omega arith)
      ]

  -- the state is sound when the record has come into effect
  pub done-sound : IsSound limit new
  done-sound = record {
    accepted = accepted;
    spelled = grammar-more a.entry old.records A.follows.spelled S.spelled;
    journal = journal-brought old new a.entry refl refl A.follows.spelled A.follows.in_journal S.journal;
    room = (let e = ap (λ t. sum_by (reserved (version_of rs_now) t) (with_job old.jobs after)) setup-stays
        in omega (arith, e, done-room, done-reserved));
    files = (let follows = A.follows in
        held-more old.bytes a.entry old.records follows.held S.files);
    names = omega (arith, taken-fewer old.records rs_now old.jobs (with_job old.jobs after) names-were, S.names);
    ids = λ l. (let total = sum-with starts_left old.jobs after job runs in let less = starts-less in
        omega (arith, total, ids-after, S.ids (omega (arith, l, total, less))));
    audits = audits-after;
    closed = λ closed. absurd (found_some (S.closed closed).0);
    set_up = λ o. up-more a.entry old.records (S.set_up o);
    handed = λ o. (omega (arith, S.handed o, ap (λ (t : Setup). t.n) setup-stays));
    few = omega (arith, length-with old.jobs after, S.few);
    numbered = numbered-with 0 old.jobs old.next_job after S.numbered;
    jobs = λ k j h. subst (λ t. IsSoundJob t rs_now old.bytes 0 j) (sym setup-stays)
        (elim (found_with old.jobs after k j h) [
          | inl p ↦ subst (λ (z : Job). IsSoundJob s rs_now old.bytes 0 z) (sym p.1) after-job
          | inr q ↦ other-job k j q.0 q.1
        ]);
    in_journal = λ k j h. subst (λ t. IsReady t (a.entry ∷ old.journal) old.bytes j j.kind) (sym setup-stays)
        (elim (found_with old.jobs after k j h) [
          | inl p ↦ subst (λ (z : Job). IsReady s (a.entry ∷ old.journal) old.bytes z z.kind) (sym p.1)
              (after-ready old.journal journal_accepted S.journal.alike.id job.kind refl done-writes
              (S.in_journal job.number job runs))
          | inr q ↦ other-ready k j q.0 q.1 old.journal journal_accepted (S.in_journal k j q.1)
        ]);
    lone = λ x e. absurd (found_some (S.lone x e));
    packing = λ p e. absurd (found_some (S.lone (Packing p) e));
    switching = λ e. absurd (found_some (S.switching e).jobs);
    upgrade = λ k j h u. (let b = back k j h in
        only-with old.jobs after job b.0 runs
        (S.upgrade k b.0 b.1 (subst (λ kd. IsTrue (is_upgrade (aim_of kd))) b.2 u)) k j h);
    one_check = λ k l i j hi hj ci cj. (let x = back k i hi in let y = back l j hj in
        S.one_check k l x.0 y.0 x.1 y.1 (subst (λ kd. IsTrue (is_check (aim_of kd))) x.2 ci)
        (subst (λ kd. IsTrue (is_check (aim_of kd))) y.2 cj));
    apart = done-apart;
    append = λ b h. absurd (let e : None ≡ Some b = h in cc);
    barred = λ b. refl;
    undoubted = λ o u. refl;
    doubt = λ d h. absurd (let e : None ≡ Some d = h in cc);
  }
    where
      found_some : old.jobs ≡ [] → ⊥
      found_some e = some-not-none (job_of old.jobs job.number) job runs (ap (λ l. job_of l job.number) e)

      journal_accepted : AreAccepted (a.entry ∷ old.journal)
      journal_accepted = (A.follows.in_journal, S.journal.accepted)
