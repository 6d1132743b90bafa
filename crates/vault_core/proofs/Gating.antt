-- A job whose append is done.
use Rattle.vault_core.proofs.Words.{◌≡◌, ℕ, ◌+◌, ◌-◌, ◌<◌, ◌≤◌, Bool, true, false, List, [], ◌∷◌, Some, None, length, map, set, get_or, inl, inr, refl, ap, sym, subst, ◌∙◌, arith, Global, Result, Ok, Err, is_err, IfErr, OnOk, IsErrOf, IsTrue, sum, sum_by, ◌==◌, slice_get, if◌then◌else◌, cases_Bool, false≢true, eqb-true, ne_eqb, rules, All, length-map, length-take-le, map-set, length-set, All-set, sum_by-set, sum_by-remove, slice_get_within, get_or_from_slice_get, Sums, Aim, ToPut, ToGet, ToDrop, ToAudit, ToRepair, ToUpgrade, Action, SyncGate, room_left, Setup, Record, is_setup, PutStart, PutDone, PutDoneIn, Drop, AuditStart, AuditDone, RepairDone, Version, record_size, done_record, refused, Kept, id_after, IsFoldOf, counted, Wish, Inside, is_upgrade, CoreJob, CoreView, appends_in, is_upgrading, HasLoneUpgrade, AreRising, rest_of, is_move, written_as, written_by, decides_on, listed_older, removals_of, LeavesBehind, setup_kept, sums_kept, core_job, view_of, IsCore, IsSteadyJob, MayFinish, IsJobKept, IsTold, first_action, first_at, taken_as, taken_by, gated_by, gated, HasGated, sizes_of, room_behind, reserved_of, starts_by, starts_of, aim_of_wish, is_opener, is_closer}
use Rattle.std.specs.Prelude.{Option, drop, ◌*◌}
use Rattle.std.specs.declared.vec.Vec.{Vec}
use Rattle.vault_table.specs.Causes.{is_put_start, is_version, IsCause}
use Rattle.vault_table.specs.declared.entry.Refused.{Refused}
use Rattle.vault_table.specs.declared.entry.Refused.TheVariants as fault
use Rattle.vault_core.specs.declared.wish.Wish.TheVariants as wish
use Rattle.vault_core.specs.declared.job.Job.{Job}
use Rattle.vault_core.proofs.Lone.{lone_set, lone_sum, any_here}
use Rattle.vault_core.proofs.Counts.{MayHave, last_appends, one, two}
use Rattle.vault_core.proofs.Gates.{not_over, removals_length}
use Rattle.vault_core.proofs.Goes.{may_have, gate_some, left_some, decides_left, undecided_none, finished_kept}
use Rattle.vault_core.proofs.Moving.{within, kept_at}
use Rattle.vault_core.proofs.Kept.{seen_at, rising_set}

-- ---- room and starts

-- the size of a record that a job writes of which so many appends have not ended
abbrev pub entry_size : ℕ → ℕ → Aim → ℕ → ℕ
entry_size v n (ToPut name size) k = if k == 2 then 10 + length name else (if v == 2 then 14 else 13)
entry_size v n (ToGet name) k = 0
entry_size v n (ToDrop name) k = 2 + length name
entry_size v n ToAudit k = if k == 2 then 9 else 14 + 4 * n
entry_size v n ToRepair k = 9
entry_size v n ToUpgrade k = 2

-- the size of a put's last record, and of its gate too
done_entry : (v id size profile : ℕ) → ◌≡◌ {A = ℕ} (if v == 2 then 14 else 13)
    (record_size (done_record v id size profile))
done_entry v id size profile = by (v == 2)
  where
    by : (b : Bool) → ◌≡◌ {A = ℕ} (if b then 14 else 13)
        (record_size (if b then PutDoneIn id size profile else PutDone id size))
    by true = refl
    by false = refl

done_gate : (v : ℕ) → ◌≡◌ {A = ℕ} (1 + (if v == 2 then 14 else 13)) (if v == 2 then 15 else 14)
done_gate v = by (v == 2)
  where
    by : (b : Bool) → ◌≡◌ {A = ℕ} (1 + (if b then 14 else 13)) (if b then 15 else 14)
    by true = refl
    by false = refl

same_some : (x y : Record) → Some x ≡ Some y → x ≡ y
same_some x y e = cc

-- what holds of each record that a job of an aim may write holds of the one that it writes
pub by_written : (t : Kept) (k profile subject : ℕ) (sums : Sums) (P : Aim → Record → Type 0) →
    ((name : List ℕ) (size : ℕ) → (k == 2) ≡ true → P (ToPut name size) (PutStart (id_after t) name)) →
    ((name : List ℕ) (size : ℕ) → (k == 2) ≡ false →
    P (ToPut name size) (done_record t.version subject size profile)) →
    ((name : List ℕ) → P (ToDrop name) (Drop name)) → ((k == 2) ≡ true → P ToAudit (AuditStart t.next_audit)) →
    ((k == 2) ≡ false → P ToAudit (AuditDone subject sums.undecided sums.counts)) →
    P ToRepair (RepairDone subject) → P ToUpgrade Version → (aim : Aim) (entry : Record) →
    written_as t k profile subject sums aim ≡ Some entry → P aim entry
by_written t k profile subject sums P starts ends drops begins judges repairs raises aim entry = by aim
  where
    is : (a : Aim) (x : Record) → P a x → Some x ≡ Some entry → P a entry
    is a x p e = rw (same_some x entry e) at p

    by : (a : Aim) → written_as t k profile subject sums a ≡ Some entry → P a entry
    by (ToPut name size) h = elim (cases_Bool (k == 2)) [
      | inl b ↦ is (ToPut name size) (PutStart (id_after t) name) (starts name size b)
          (ap (λ o. Some (if o then PutStart (id_after t) name
          else done_record t.version subject size profile)) (sym b) ∙ h)
      | inr b ↦ is (ToPut name size) (done_record t.version subject size profile) (ends name size b)
          (ap (λ o. Some (if o then PutStart (id_after t) name
          else done_record t.version subject size profile)) (sym b) ∙ h)
    ]
    by (ToGet name) h = cc h
    by (ToDrop name) h = is (ToDrop name) (Drop name) (drops name) h
    by ToAudit h = elim (cases_Bool (k == 2)) [
      | inl b ↦ is ToAudit (AuditStart t.next_audit) (begins b) (ap (λ o. Some
          (if o then AuditStart t.next_audit else AuditDone subject sums.undecided sums.counts)) (sym b) ∙ h)
      | inr b ↦ is ToAudit (AuditDone subject sums.undecided sums.counts) (judges b)
          (ap (λ o. Some (if o then AuditStart t.next_audit
          else AuditDone subject sums.undecided sums.counts)) (sym b) ∙ h)
    ]
    by ToRepair h = is ToRepair (RepairDone subject) repairs h
    by ToUpgrade h = is ToUpgrade Version raises h

-- an upgrade's record alone raises the version
raises : (t : Kept) (profile subject : ℕ) (sums : Sums) (aim : Aim) (k : ℕ) (entry : Record) →
    written_as t k profile subject sums aim ≡ Some entry → is_version entry ≡ is_upgrade aim
raises t profile subject sums aim k entry h = by_written t k profile subject sums
    (λ (a : Aim) (x : Record). is_version x ≡ is_upgrade a) (λ name size b. refl)
    (λ name size b. done size (t.version == 2)) (λ name. refl) (λ b. refl) (λ b. refl) refl refl aim entry h
  where
    done : (size : ℕ) (b : Bool) →
        is_version (if b then PutDoneIn subject size profile else PutDone subject size) ≡ false
    done size true = refl
    done size false = refl

-- a kept job counts once for each provider
pub length_counted : (n : ℕ) (job : Job) → IsSteadyJob n job → length (counted job.counts) ≡ n
length_counted n job kept = length-take-le job.counts.n job.counts.by
    (rw (← kept.stays.padded.room) at kept.stays.padded.at_most)
    ∙ kept.stays.counts

-- the record of an append has the size that was reserved for it
size_of_entry : (n : ℕ) (t : Kept) (profile subject : ℕ) (sums : Sums) (aim : Aim) (k : ℕ) (entry : Record) →
    length sums.counts ≡ n → written_as t k profile subject sums aim ≡ Some entry →
    entry_size t.version n aim k ≡ record_size entry
size_of_entry n t profile subject sums aim k entry l h = by_written t k profile subject sums
    (λ (a : Aim) (x : Record). entry_size t.version n a k ≡ record_size x)
    (λ name size b. ap (λ (o : Bool). if o then 10 + length name else (if t.version == 2 then 14 else 13)) b)
    (λ name size b. ap (λ (o : Bool). if o then 10 + length name else (if t.version == 2 then 14 else 13)) b
    ∙ done_entry t.version subject size profile)
    (λ name. refl) (λ b. ap (λ (o : Bool). if o then 9 else 14 + 4 * n) b)
    (λ b. ap (λ (o : Bool). if o then 9 else 14 + 4 * n) b ∙ ap (λ (m : ℕ). 14 + 4 * m) (sym l)) refl refl aim
    entry h

-- with two, it needs the room of all its records
pub room_all : (i n : ℕ) (w : Wish) (k : ℕ) → 2 ≤ k → sum (sizes_of i n w) ≡ room_behind i n w k
room_all i n w k l = ap (λ (m : ℕ). sum (drop m (sizes_of i n w))) (none w)
  where
    none : (v : Wish) → 0 ≡ length (sizes_of i n v) - k
    none (wish.Put name size own) = omega arith
    none w = omega arith

-- the room that a job needs before its append ends is that behind it, and the record that the append writes
room_at : (i : ℕ) (s : Setup) (w : Wish) (k : ℕ) → MayHave w k →
    room_left i s (aim_of_wish w) (k - 1) + (1 + entry_size i s.n (aim_of_wish w) k) ≡ room_left i s (aim_of_wish w) k
room_at i s w k (inl p) = subst (λ m. room_left i s (aim_of_wish w) (m - 1) +
    (1 + entry_size i s.n (aim_of_wish w) m) ≡ room_left i s (aim_of_wish w) m) (sym p.0) (opening w p.1)
  where
    opening : (v : Wish) → is_opener v ≡ true →
        room_left i s (aim_of_wish v) (1 + last_appends v - 1) + (1 + entry_size i s.n (aim_of_wish v) (1 + last_appends v))
        ≡ room_left i s (aim_of_wish v) (1 + last_appends v)
    opening (wish.Put name size own) h = (let a = one (if i == 2 then 15 else 14) in
        let d = two (11 + length name) (if i == 2 then 15 else 14) in omega (arith, a, d))
    opening (wish.Drop name) h = (let a = one (3 + length name) in omega (arith, a))
    opening wish.Audit h = (let a = one (15 + 4 * s.n) in let d = two 10 (15 + 4 * s.n) in
        omega (arith, a, d))
    opening v h = absurd (false≢true h)
room_at i s w k (inr p) = subst (λ m. room_left i s (aim_of_wish w) (m - 1) +
    (1 + entry_size i s.n (aim_of_wish w) m) ≡ room_left i s (aim_of_wish w) m) (sym p.0) (closing w p.1)
  where
    closing : (v : Wish) → is_closer v ≡ true → room_left i s (aim_of_wish v) 0 + (1 + entry_size i s.n (aim_of_wish v) 1)
        ≡ room_left i s (aim_of_wish v) 1
    closing (wish.Put name size own) h =
        (let a = one (if i == 2 then 15 else 14) in let g = done_gate i in omega (arith, a, g))
    closing wish.Audit h = (let a = one (15 + 4 * s.n) in omega (arith, a))
    closing wish.Repair h = (let a = one 10 in omega (arith, a))
    closing wish.Upgrade h = (let a = one 3 in omega (arith, a))
    closing v h = absurd (false≢true h)

-- at a move of an append, a job's room is that behind the append, and its record
pub room_of_entry : {s : Setup} {job : Job} (t : Kept) {a : Action} {entry : Record} → IsJobKept s job →
    slice_get (rest_of s.n job) 0 ≡ Some a → is_move (Some a) ≡ true →
    written_as t job.appends job.profile job.subject (sums_kept job) (aim_of_wish job.wish) ≡ Some entry →
    room_left t.version s (aim_of_wish job.wish) (job.appends - 1) + (1 + record_size entry)
    ≡ reserved_of t.version s (core_job job)
room_of_entry {s} {job} t {a} {entry} kept h m w =
    ap (λ (k : ℕ). room_left t.version s (aim_of_wish job.wish) (job.appends - 1) + (1 + k)) (sym
    (size_of_entry s.n t job.profile job.subject (sums_kept job) (aim_of_wish job.wish) job.appends entry
    (length_counted s.n job kept.steady) w)) ∙ (room_at t.version s job.wish job.appends (may_have kept a h m)
    ∙ ap (room_left t.version s (aim_of_wish job.wish)) kept.appends)

done_start : (v id size profile : ℕ) →
    ◌≡◌ {A = ℕ} 0 (if is_put_start (done_record v id size profile) then 1 else 0)
done_start v id size profile = by (v == 2)
  where
    by : (b : Bool) → ◌≡◌ {A = ℕ} 0
        (if is_put_start (if b then PutDoneIn id size profile else PutDone id size) then 1 else 0)
    by true = refl
    by false = refl

-- whoever wrote a PutStart had to write one, and no longer has
starts_ended : (t : Kept) (profile subject : ℕ) (sums : Sums) (aim : Aim) (k : ℕ) (entry : Record) → k ≤ 2 →
    written_as t k profile subject sums aim ≡ Some entry →
    starts_by aim (k - 1) + (if is_put_start entry then 1 else 0) ≤ starts_by aim k
starts_ended t profile subject sums aim k entry few h = by_written t k profile subject sums
    (λ a x. starts_by a (k - 1) + (if is_put_start x then 1 else 0) ≤ starts_by a k) (λ name size b.
    let is_two = eqb-true k 2 b in
    let p = ap (starts_by (ToPut name size)) is_two in
    let q = ap (λ m. starts_by (ToPut name size) (m - 1)) is_two in omega (arith, p, q))
    (λ name size b.
    let p = done_start t.version subject size profile in
    let q = ap {B = ℕ} (λ o. if o then 1 else 0)
    (ne_eqb (k - 1) 2 (λ e. absurd (omega (arith, e, few)))) in omega (arith, p, q))
    (λ name. omega arith) (λ b. omega arith) (λ b. omega arith) (omega arith) (omega arith) aim entry h

few_have : (w : Wish) (k : ℕ) → MayHave w k → k ≤ 2
few_have w k (inl p) = let e = p.0 in let l = last w in omega (arith, e, l)
  where
    last : (v : Wish) → last_appends v ≤ 1
    last (wish.Put name size own) = omega arith
    last w = omega arith
few_have w k (inr p) = let e = p.0 in omega (arith, e)

-- ---- the job at a place

-- the job at a place, whose next action is the fourth move of an append
pub record GateHere (a : Inside) (place : ℕ) (job : Job) : Type 0 where
  pub within : place < length (view_of a).jobs
  pub here : slice_get (view_of a).jobs place ≡ Some (core_job job)
  pub kept : IsJobKept (setup_kept a) job
  pub gate : slice_get (rest_of a.setup.n job) 0 ≡ Some SyncGate

-- a core's job whose next action is this one is at a place, is kept, and is at it
pub action_here : {a : Inside} {c : CoreView} (place : ℕ) {job : Job} {x : Action} →
    view_of a ≡ c → IsCore a →
    job ≡ get_or a.jobs.items place job → first_at c place ≡ Some x →
    (place < length (view_of a).jobs) × (slice_get (view_of a).jobs place ≡ Some (core_job job))
    × IsJobKept (setup_kept a) job × (slice_get (rest_of a.setup.n job) 0 ≡ Some x)
action_here {a} place {job} {x} v h e f =
    let p =
    rw (← v) at f in
    let l = within (setup_kept a) (view_of a).jobs place x p in
    let here = seen_at a place l e in
    let kept = kept_at a place job h l e in (
      l,
      here,
      kept,
      ap (λ xs. slice_get xs 0) kept.listed
          ∙ (sym (ap (first_action (setup_kept a)) here) ∙ p),
    )

-- so for a gate
pub gate_here : {a : Inside} {c : CoreView} (place : ℕ) {job : Job} → view_of a ≡ c → IsCore a →
    job ≡ get_or a.jobs.items place job → first_at c place ≡ Some SyncGate → GateHere a place job
gate_here {a} {c} place {job} v h e f =
    let r = action_here place v h e f in
    record { within = r.0; here = r.1; kept = r.2; gate = r.3 }

-- it may make this move
pub may_finish : {s : Setup} {job : Job} → IsJobKept s job → slice_get (rest_of s.n job) 0 ≡ Some SyncGate →
    MayFinish s.n job
may_finish {s} {job} kept gate = record {
  steady = kept.steady;
  going = not_over s.n job SyncGate kept.steady gate (λ e. cc);
  appends = gate_some s job kept gate;
  left = left_some kept;
  decided = decides_left s job kept gate;
  fits = kept.fits;
}

-- an object to take away, or none
pub older_none : (o : Option ℕ) → listed_older o ≡ [] → o ≡ None
older_none None h = refl
older_none (Some object) h = cc

-- the job behind it is kept
pub gated_kept : (s : Setup) (job new : Job) (older : Option ℕ) (t : Kept) (jobs : List CoreJob) →
    IsJobKept s job → slice_get (rest_of s.n job) 0 ≡ Some SyncGate → IsSteadyJob s.n new →
    LeavesBehind s.n older (decides_on job) job new → new ≡ record job {
      older = older;
      cursor = new.cursor;
      appends = job.appends - 1;
      place = job.place + 1;
      left = new.left;
    } → listed_older older ≡ taken_as t jobs job.appends (aim_of_wish job.wish) → IsJobKept s new
gated_kept s job new older t jobs kept gate steady behind same takes = subst (IsJobKept s) (sym same)
    (finished_kept s job kept gate older new.cursor new.left (rw same at steady) (rw same at behind)
    (λ d. older_none older (takes ∙ undecided_none s job kept gate t jobs d)))

-- two jobs that are seen alike take the same away
taken_alike : (s : Setup) (t : Kept) (jobs : List CoreJob) (i j : Job) → IsJobKept s i → IsJobKept s j →
    core_job i ≡ core_job j →
    taken_as t jobs i.appends (aim_of_wish i.wish) ≡ taken_as t jobs j.appends (aim_of_wish j.wish)
taken_alike s t jobs i j a b e = ap (λ n. taken_as t jobs n (aim_of_wish i.wish)) a.appends
    ∙ (ap (taken_by s t jobs) e ∙ ap (λ n. taken_as t jobs n (aim_of_wish j.wish)) (sym b.appends))

-- the job at a place behind the last move of its append is kept
pub finished_here : {a : Inside} {c : CoreView} (place : ℕ) {old index new : Job} (older : Option ℕ) →
    view_of a ≡ c → IsCore a → old ≡ get_or a.jobs.items place old → index ≡ get_or a.jobs.items place index →
    first_at c place ≡ Some SyncGate → IsSteadyJob a.setup.n new →
    LeavesBehind a.setup.n older (decides_on old) old new → new ≡ record old {
      older = older;
      cursor = new.cursor;
      appends = old.appends - 1;
      place = old.place + 1;
      left = new.left;
    } → listed_older older ≡ taken_as c.table c.jobs index.appends (aim_of_wish index.wish) →
    IsJobKept (setup_kept a) new
finished_here {a} {c} place {old} {index} {new} older v h e f first steady behind same takes =
    let here = gate_here place v h e first in
    let other = gate_here place v h f first in
    let g = sym other.here ∙ here.here in
    gated_kept (setup_kept a) old new older c.table c.jobs here.kept here.gate steady behind same
    (takes ∙ taken_alike (setup_kept a) c.table c.jobs index old other.kept here.kept cc)

-- it may make fewer steps than before
pub finished_left : {s : Setup} {old : Job} (new : Job) (older : Option ℕ) → IsJobKept s old →
    slice_get (rest_of s.n old) 0 ≡ Some SyncGate → LeavesBehind s.n older (decides_on old) old new →
    new.left < old.left
finished_left {s} {old} new older kept gate behind = elim (cases_Bool (decides_on old)) [
  | inl d ↦ (let h = rw d at behind in
      omega (arith, decides_left s old kept gate d, h.1, few older))
  | inr d ↦ (let h = rw d at behind in
      omega (arith, left_some kept, h.1))
]
  where
    few : (o : Option ℕ) → length (removals_of s.n o) ≤ 1 + s.n
    few None = omega arith
    few (Some object) = omega (arith, removals_length s.n object)

gated_jobs : (a : Inside) (v : Vec Job Global) (place : ℕ) (new : Job) {k : CoreJob} →
    v.items ≡ set a.jobs.items place new → core_job new ≡ k →
    map (core_job) v.items ≡ set (view_of a).jobs place k
gated_jobs a v place new e s = ap (map (core_job)) e ∙ (map-set (core_job) a.jobs.items place new ∙ ap (set
    (map (core_job) a.jobs.items) place) s)

-- the record that a core writes for a job is the one that a contract sees
pub same_entry : (a : Inside) {c : CoreView} (place : ℕ) {job : Job} {wrote : Record} → view_of a ≡ c →
    slice_get (view_of a).jobs place ≡ Some (core_job job) → IsJobKept (setup_kept a) job →
    Some wrote ≡ written_as a.table job.appends job.profile job.subject (sums_kept job)
    (aim_of_wish job.wish) →
    (j : CoreJob) (entry : Record) →
    slice_get c.jobs place ≡ Some j → written_by c.setup c.table j ≡ Some entry → wrote ≡ entry
same_entry a place {job} {wrote} view here kept w j entry g k =
    let f1 : Some (core_job job) ≡ Some j = sym here
    ∙ (ap (λ x. slice_get x.jobs place) view ∙ g) in
    let e1 : core_job job ≡ j = cc in
    let same : Some wrote ≡ Some entry = w
    ∙ (ap (λ n. written_as a.table n job.profile job.subject (sums_kept job) (aim_of_wish job.wish))
    kept.appends
    ∙ (ap (written_by (setup_kept a) a.table) e1
    ∙ (ap (λ x. written_by x.setup x.table j) view ∙ k))) in
    let r : wrote ≡ entry = cc in r

-- a core whose job made its gate looks as the contract of that step says: the record is in effect
pub has_gated : (a : Inside) {c : CoreView} {t : Kept} (v : Vec Job Global) (place : ℕ) {z : ℕ}
    (old new : Job) {one_ two_ : Job} (older : Option ℕ) {wrote : Record} (rs : List Record) →
    view_of a ≡ c → v.items ≡ set a.jobs.items place new →
    slice_get (view_of a).jobs place ≡ Some (core_job old) →
    slice_get (view_of a).jobs place ≡ Some (core_job one_) →
    slice_get (view_of a).jobs place ≡ Some (core_job two_) → IsJobKept (setup_kept a) one_ →
    IsJobKept (setup_kept a) two_ →
    core_job new ≡ gated_by (listed_older older) (core_job old) →
    listed_older older ≡ taken_as c.table c.jobs two_.appends (aim_of_wish two_.wish) →
    z ≡ record_size wrote →
    Some wrote ≡ written_as a.table one_.appends one_.profile one_.subject (sums_kept one_)
    (aim_of_wish one_.wish) →
    IsFoldOf (wrote ∷ rs) t →
    (j : CoreJob) (entry : Record) → slice_get c.jobs place ≡ Some j →
    written_by c.setup c.table j ≡ Some entry →
    HasGated c place j entry rs
    (view_of (record a { table = t; end = a.end + (1 + z); jobs = v; append = None }))
has_gated a {c} {t} v place {z} old new {one_} {two_} older {wrote} rs view items here here1 here2 kept1
    kept2 s o size w fold j entry g k =
    let at : slice_get (view_of a).jobs place ≡ Some j = ap (λ (x : CoreView). slice_get x.jobs place) view
    ∙ g in
    let f0 : Some (core_job old) ≡ Some j = sym here ∙ at in
    let f2 : Some (core_job two_) ≡ Some j = sym here2 ∙ at in
    let e0 : core_job old ≡ j = cc in
    let e2 : core_job two_ ≡ j = cc in
    let is_entry = same_entry a place view here1 kept1 w j entry g k in
    let is_older : listed_older older ≡ taken_by c.setup c.table c.jobs j = o
    ∙ (ap (λ (n : ℕ). taken_as c.table c.jobs n (aim_of_wish two_.wish)) kept2.appends
    ∙ (ap (λ (x : CoreView). taken_by x.setup c.table c.jobs (core_job two_)) view
    ∙ ap (taken_by c.setup c.table c.jobs) e2)) in
    let job : core_job new ≡ gated c.setup c.table c.jobs j =
    s ∙ (λ i. gated_by (is_older i) (e0 i)) in
    record {
      table = subst (λ (x : Record). IsFoldOf (x ∷ rs) t) is_entry fold;
      others = ap (λ (js : List CoreJob). record (view_of a)
          { table = t; end = a.end + (1 + z); jobs = js; append = None }) (gated_jobs a v place new items job)
          ∙ (ap (λ (x : CoreView). record x {
            table = t;
            end = x.end + (1 + z);
            jobs = set x.jobs place (gated c.setup c.table c.jobs j);
            append = None;
          }) view
          ∙ ap (λ (m : ℕ). record c {
            table = t;
            end = c.end + (1 + m);
            jobs = set c.jobs place (gated c.setup c.table c.jobs j);
            append = None;
          })
          (size ∙ ap record_size is_entry));
    }

-- what two jobs that are seen alike write is the same
written_alike : (s : Setup) (t : Kept) (i j : Job) → IsJobKept s i → IsJobKept s j → core_job i ≡ core_job j →
    written_as t i.appends i.profile i.subject (sums_kept i) (aim_of_wish i.wish)
    ≡ written_as t j.appends j.profile j.subject (sums_kept j) (aim_of_wish j.wish)
written_alike s t i j a b e =
    ap (λ k. written_as t k i.profile i.subject (sums_kept i) (aim_of_wish i.wish)) a.appends
    ∙ (ap (written_by s t) e
    ∙ ap (λ k. written_as t k j.profile j.subject (sums_kept j) (aim_of_wish j.wish)) (sym b.appends))

-- where an upgrade's append ends no room is reserved in the version that it raised the journal to
raised_room : (i : ℕ) (s : Setup) (js : List CoreJob) (place : ℕ) (old new : Job) →
    MayHave old.wish old.appends →
    slice_get js place ≡ Some (core_job old) → new.wish ≡ old.wish →
    appends_in s (core_job new) ≡ old.appends - 1 → HasLoneUpgrade js →
    sum_by (reserved_of (if is_upgrade (aim_of_wish old.wish) then 2 else i) s) (set js place (core_job new))
    ≤ sum_by (reserved_of i s) (set js place (core_job new))
raised_room i s js place old new have here same count lone = by old.wish refl
  where
    none : old.wish ≡ wish.Upgrade → reserved_of 2 s (core_job new) ≡ 0
    none e = ap (λ w. room_left 2 s (aim_of_wish w) (appends_in s (core_job new))) (same ∙ e)
        ∙ ap (room_left 2 s ToUpgrade) (count ∙ last have)
      where
        last : MayHave old.wish old.appends → old.appends - 1 ≡ 0
        last (inl p) = cc (sym (ap is_opener e) ∙ p.1)
        last (inr p) = omega (arith, p.0)

    by : (w : Wish) → old.wish ≡ w →
        sum_by (reserved_of (if is_upgrade (aim_of_wish old.wish) then 2 else i) s)
        (set js place (core_job new))
        ≤ sum_by (reserved_of i s) (set js place (core_job new))
    by wish.Upgrade e = (omega (
      arith,
      lone_sum (reserved_of 2 s) js place (core_job old) (core_job new) here
          (lone (any_here is_upgrading js place (core_job old) here
          (ap (λ (w : Wish). is_upgrade (aim_of_wish w)) e))) (none e),
      ap (λ (w : Wish). sum_by
          (reserved_of (if is_upgrade (aim_of_wish w) then 2 else i) s) (set js place (core_job new))) e,
    ))
    by w e = (omega (
      arith,
      ap (λ (v : Wish). sum_by (reserved_of (if is_upgrade (aim_of_wish v) then 2 else i) s)
          (set js place (core_job new))) e,
    ))

-- a core stays one as it is kept as the append of a job ends
pub gated_core : {a : Inside} (t : Kept) (v : Vec Job Global) (place : ℕ) {z : ℕ} {old new one_ : Job}
    {wrote : Record} → v.items ≡ set a.jobs.items place new →
    slice_get (view_of a).jobs place ≡ Some (core_job old) →
    slice_get (view_of a).jobs place ≡ Some (core_job one_) → IsJobKept (setup_kept a) old →
    IsJobKept (setup_kept a) one_ →
    slice_get (rest_of a.setup.n old) 0 ≡ Some SyncGate →
    new.number ≡ old.number → new.wish ≡ old.wish → new.appends ≡ old.appends - 1 →
    IsJobKept (setup_kept a) new → IsTold (setup_kept a) (core_job new) → z ≡ record_size wrote →
    Some wrote ≡ written_as a.table one_.appends one_.profile one_.subject (sums_kept one_)
    (aim_of_wish one_.wish) →
    t.spare ≡ (if is_put_start wrote then a.table.spare - 1 else a.table.spare) →
    t.version ≡ (if is_version wrote then 2 else a.table.version) → IsCore a →
    IsCore (record a { table = t; end = a.end + (1 + z); jobs = v; append = None })
gated_core {a} t v place {old} {new} {one_} {wrote} items here here1 kept kept1 gate number same_wish fewer
    next told size w spare version h =
    let s = setup_kept a in
    let f0 : Some (core_job one_) ≡ Some (core_job old) = sym here1 ∙ here in
    let e0 : core_job one_ ≡ core_job old = cc in
    let wr : written_as a.table old.appends old.profile old.subject (sums_kept old)
    (aim_of_wish old.wish) ≡ Some wrote =
    sym (w ∙ written_alike s a.table one_ old kept1 kept e0) in
    let js : map core_job v.items ≡ set (view_of a).jobs place (core_job new) =
    gated_jobs a v place new items refl in
    let l = slice_get_within (view_of a).jobs place (core_job old) here in
    let g : get_or (view_of a).jobs place (core_job old) ≡ core_job old =
    get_or_from_slice_get (view_of a).jobs place (core_job old) (core_job old) here in
    let count : appends_in s (core_job new) ≡ old.appends - 1 = sym next.appends ∙ fewer in
    let versions : t.version ≡ (if is_upgrade (aim_of_wish old.wish) then 2 else a.table.version) = version
    ∙ ap (λ (b : Bool). if b then 2 else a.table.version)
    (raises a.table old.profile old.subject (sums_kept old) (aim_of_wish old.wish) old.appends wrote wr) in
    let have = may_have kept SyncGate gate refl in
    let room_new : reserved_of a.table.version s (core_job new)
    ≡ room_left a.table.version s (aim_of_wish old.wish) (old.appends - 1) =
    ap (room_left a.table.version s (aim_of_wish new.wish)) count
    ∙ ap (λ (x : Wish). room_left a.table.version s (aim_of_wish x) (old.appends - 1)) same_wish in
    let starts_new : starts_of s (core_job new) ≡ starts_by (aim_of_wish old.wish) (old.appends - 1) =
    ap (starts_by (aim_of_wish new.wish)) count
    ∙ ap (λ (x : Wish). starts_by (aim_of_wish x) (old.appends - 1)) same_wish in
    let starts_old : starts_of s (core_job old) ≡ starts_by (aim_of_wish old.wish) old.appends =
    ap (starts_by (aim_of_wish old.wish)) (sym kept.appends) in
    record {
      set_up = h.set_up;
      kept = subst (All (IsJobKept s)) (sym items) (All-set (IsJobKept s) a.jobs.items place new next h.kept);
      told = subst (All (IsTold s)) (sym js)
          (All-set (IsTold s) (view_of a).jobs place (core_job new) told h.told);
      few = (let r = length-set a.jobs.items place new in let q = ap length items in let f = h.few in
          omega (arith, r, q, f));
      begun = (let b = h.begun in omega (arith, b));
      numbered = subst (λ (x : List CoreJob). AreRising 0 x a.next_job) (sym js)
          (rising_set 0 (view_of a).jobs a.next_job place (core_job old) (core_job new) here
          number h.numbered);
      lone = subst HasLoneUpgrade (sym js) (lone_set (view_of a).jobs place (core_job old) (core_job new) here
          (ap (λ (w : Wish). is_upgrade (aim_of_wish w)) same_wish) h.lone);
      reserves = record {
        room = (let p = ap (λ (i : ℕ). sum_by (reserved_of i s) (map core_job v.items)) versions
            ∙ ap (sum_by (reserved_of (if is_upgrade (aim_of_wish old.wish) then 2 else a.table.version) s))
            js in
            let y = raised_room a.table.version s (view_of a).jobs place old new have here same_wish
            count h.lone in
            let q = sum_by-set (reserved_of a.table.version s) (view_of a).jobs place (core_job new)
            (core_job old) l in
            let r = ap (reserved_of a.table.version s) g in
            let u = room_of_entry a.table kept gate refl wr in
            let x = h.reserves.room in
            omega (arith, p, y, q, r, u, x, size, room_new));
        spare = (let p = ap (sum_by (starts_of s)) js in
            let q = sum_by-set (starts_of s) (view_of a).jobs place (core_job new) (core_job old) l in
            let r = ap (starts_of s) g in
            let u = starts_ended a.table old.profile old.subject (sums_kept old) (aim_of_wish old.wish)
            old.appends wrote
            (few_have old.wish old.appends have) wr in
            let x = h.reserves.spare in
            spares (sum_by (starts_of s) (map core_job v.items)) (sum_by (starts_of s) (view_of a).jobs)
            (starts_of s (core_job new)) (starts_of s (core_job old)) a.table.spare t.spare
            (is_put_start wrote)
            (omega (arith, p, q, r)) (omega (arith, u, starts_new, starts_old)) x spare);
      };
    }
  where
    spares : (new_sum old_sum k j spare_ left : ℕ) (b : Bool) → new_sum + j ≡ old_sum + k →
        k + (if b then 1 else 0) ≤ j → old_sum ≤ spare_ → left ≡ (if b then spare_ - 1 else spare_) →
        new_sum ≤ left
    spares new_sum old_sum k j spare_ left true p q r e = omega arith
    spares new_sum old_sum k j spare_ left false p q r e = omega arith

-- a record that the table refuses for want of memory alone is a PutStart with no room reserved
pub not_refused : (r : Result Unit Refused) (entry : Record) (rs : List Record) (spare : ℕ) →
    true ≡ is_err r → IfErr r (λ why. IsCause why (refused rs entry)) → refused rs entry ≡ None →
    (IsErrOf r fault.Memory → IsTrue (is_put_start entry)) → (IsErrOf r fault.Memory → spare ≡ 0) →
    (IsTrue (is_put_start entry) → 0 < spare) → ⊥
not_refused (Ok x) entry rs spare e c a m s p = false≢true (sym e)
not_refused (Err fault.Memory) entry rs spare e c a m s p = (omega (arith, p (m refl), s refl))
not_refused (Err why) entry rs spare e c a m s p = cc (subst (IsCause why) a c)

-- a setup within its limits has four to sixteen providers
pub providers : (s : Setup) → IsTrue (is_setup s) → (4 ≤ s.n) × (s.n ≤ 16)
providers s h = search rules

-- a PutStart that is in flight has its room
pub start_spare : {a : Inside} (place : ℕ) {job : Job} {wrote : Record} → IsCore a →
    slice_get (view_of a).jobs place ≡ Some (core_job job) → IsJobKept (setup_kept a) job →
    slice_get (rest_of a.setup.n job) 0 ≡ Some SyncGate →
    written_as a.table job.appends job.profile job.subject (sums_kept job)
    (aim_of_wish job.wish) ≡ Some wrote →
    IsTrue (is_put_start wrote) → 0 < a.table.spare
start_spare {a} place {job} {wrote} h here kept gate w p =
    let s = setup_kept a in
    let l = slice_get_within (view_of a).jobs place (core_job job) here in
    let g =
    get_or_from_slice_get (view_of a).jobs place (core_job job) (core_job job) here in
    let q = sum_by-remove (starts_of s) (view_of a).jobs place (core_job job) l in
    let r = ap (starts_of s) g in
    let u = starts_ended a.table job.profile job.subject (sums_kept job) (aim_of_wish job.wish) job.appends
    wrote (few_have job.wish job.appends (may_have kept SyncGate gate refl)) w in
    let v =
    ap (starts_by (aim_of_wish job.wish)) (sym kept.appends) in
    let x = h.reserves.spare in
    let y = ap {B = ℕ} (λ (b : Bool). if b then 1 else 0) p in
    omega (arith, q, r, u, v, x, y)

-- what holds on an Ok holds of an answer that is no error
pub on_ok : {X Y : Type 0} (r : Result X Y) (P : Type 0) → is_err r ≡ false → OnOk r P → P
on_ok (Ok x) P e h = h
on_ok (Err y) P e h = absurd (false≢true (sym e))

-- a place among the jobs that a contract sees is one among the jobs as they are kept
pub place_len : (a : Inside) (place : ℕ) → place < length (view_of a).jobs → place < length a.jobs.items
place_len a place l = let m : length (map (core_job) a.jobs.items) ≡ length a.jobs.items =
    simp length-map in omega (arith, l, m)
