-- A core with one more job: it is kept, and stands for the state after the begin.
use Rattle.vault_core.proofs.Words.{rules, ◌≡◌, ◌≢◌, ℕ, zero, suc, ◌+◌, ◌^◌, ◌<◌, ◌≤◌, Bool, true, false, List, [], ◌∷◌, ◌++◌, Some, None, Global, length, map, inl, inr, refl, ap, sym, subst, ◌∙◌, arith, IsTrue, nat_lt, ◌==◌, sum, sum_by, if◌then◌else◌, nat_le, All, Result, Ok, Err, OnOk, OnErr, IfOk, IfErr, cases_Bool, leb-false, lt-ltb, nat_tests, All-push, sum_by_push, length-map, Each, Setup, Record, is_setup, largest_journal, all_profiles, Kind, PutJob, GetJob, DropJob, AuditJob, RepairJob, UpgradeJob, Aim, ToPut, ToAudit, aim_of, room_left, Begin, BeginAt, Begun, IsSpelledKind, State, Append, setup_in, refusal_of_begin, beginning, chosen, IsSound, events-sound, Kept, Wish, Inside, CoreJob, CoreView, appends_in, HasLoneUpgrade, AreRising, job_in, told_by, told_in, HasNoStream, sizes_of, reserved_of, starts_by, starts_of, Reserves, written_as, written_of, IsKindOf, IsAimOf, IsShortAim, IsShortKindOf, IsPutUnder, IsJobOf, IsCoreFlight, CoreIs, job_begun, refusal_of, setup_kept, core_job, view_of, MayBegin, IsJobKept, IsCore, stripe_size, IsLongest, IsToldAs, IsTold, profile_of, Cause, is_upgrade, is_shut, are_numbers_used_up, are_jobs_in_the_way, causes, aim_of_wish, profile_named, IsShort, aims_in, sight_in, refusal_in, starts_for, appends_for, admitted, AreMore, IsMade}
use Rattle.std.proofs.Common.{◌*◌, Option, Vec, length-append}
use Rattle.std.specs.Prelude.{◌||◌}
use Rattle.state_laws.proofs.Begun.{none-applies}
use Rattle.vault_core.specs.declared.wish.Wish.TheVariants as wish
use Rattle.vault_core.specs.declared.wish.BeginFault.{BeginFault}
use Rattle.vault_core.specs.declared.wish.BeginFault.TheVariants as fault
use Rattle.vault_core.specs.Changes.{BeginsAs}
use Rattle.vault_core.specs.declared.job.Job.{Job}
use Rattle.vault_core.proofs.Lone.{lone_more}
use Rattle.vault_core.proofs.Places.{any-map}
use Rattle.vault_core.proofs.Told.{streamless_push, told_push, in_push, in_push_other}
use Rattle.code_defs.proofs.Profiles.{some_kept}
use Rattle.machine_defs.proofs.Refused.{left_false, right_false}
use Rattle.vault_core.proofs.Alike.{table-like}
use Rattle.vault_core.proofs.Joins.{made-is}
use Rattle.vault_core.proofs.Refusals.{way}
use Rattle.vault_core.proofs.Kept.{rising_push, zip_push}

-- ---- lists

seen-push : (js : List Job) (j : Job) → map core_job (js ++ j ∷ []) ≡ map core_job js ++ core_job j ∷ []
seen-push [] j = refl
seen-push (i ∷ js) j = ap (λ xs. core_job i ∷ xs) (seen-push js j)

-- ---- the room of a new job

whole-room : (i : ℕ) (s : Setup) (v : Wish) →
    room_left i s (aim_of_wish v) (appends_for v) ≡ sum (sizes_of i s.n v)
whole-room i s (wish.Put name size own) = refl
whole-room i s v = refl

-- a job as it is made needs room for all records of its wish
pub made-room : {t : Kept} {s : Setup} {k : ℕ} {v : Wish} {job : Job} → IsMade t s k v job → IsJobKept s job →
    reserved_of t.version s (core_job job) ≡ sum (sizes_of t.version s.n v)
made-room {t} {s} {v} {job} made kept =
    ap (room_left t.version s (aim_of_wish job.wish)) (sym kept.appends ∙ made.appends)
    ∙ (ap (λ (x : Wish). room_left t.version s (aim_of_wish x) (appends_for v)) made.wish
    ∙ whole-room t.version s v)

-- where no refusal applies, no cause does
none-of : (c : CoreView) (v : Wish) → refusal_in c v ≡ None →
    Each (λ (x : Cause). x.applies ≡ false) (causes 8 (sight_in c) (aim_of_wish v) (profile_named v))
none-of c v h = none-applies (causes 8 (sight_in c) (aim_of_wish v) (profile_named v)) h

-- a begin that is not refused finds a place and room
pub room-left : (c : CoreView) (v : Wish) → Reserves c → refusal_in c v ≡ None →
    c.end + sum_by (reserved_of c.table.version c.setup) c.jobs + sum (sizes_of c.table.version c.setup.n v) ≤
    largest_journal
room-left c v res = by v
  where
    within : (k : ℕ) (u : Bool) → (nat_lt largest_journal k || u) ≡ false → k ≤ largest_journal
    within k u e = grind (arith, nat_tests, e)

    by : (x : Wish) → refusal_in c x ≡ None →
        c.end + sum_by (reserved_of c.table.version c.setup) c.jobs +
        sum (sizes_of c.table.version c.setup.n x) ≤ largest_journal
    by (wish.Put name size None) h = within _ (are_numbers_used_up (sight_in c) (ToPut name size))
        (none-of c (wish.Put name size None) h).1.1.1.1.1.0
    by (wish.Put name size (Some own)) h = within _ (are_numbers_used_up (sight_in c) (ToPut name size))
        (none-of c (wish.Put name size (Some own)) h).1.1.1.1.1.1.1.0
    by (wish.Get name) h =
        let r = res.room in let z : sum (sizes_of c.table.version c.setup.n (wish.Get name)) ≡ 0 = refl in
        omega (arith, r, z)
    by (wish.Drop name) h = within _ false (none-of c (wish.Drop name) h).1.1.1.1.0
    by wish.Audit h = within _ (are_numbers_used_up (sight_in c) ToAudit) (none-of c wish.Audit h).1.1.1.0
    by wish.Repair h = within _ false (none-of c wish.Repair h).1.1.1.0
    by wish.Upgrade h = within _ false (none-of c wish.Upgrade h).1.1.1.0

setup_known : (s : Setup) → IsTrue (is_setup s) → IsTrue (nat_lt s.profile all_profiles)
setup_known s h = search rules

-- a begin that is not refused names no profile but one that there is
pub own-left : (c : CoreView) (v : Wish) → refusal_in c v ≡ None → (p : ℕ) → profile_named v ≡ Some p → p < 5
own-left c (wish.Put name size (Some own)) h p e =
    let g : own ≡ p = cc in omega (
      arith,
      leb-false 5 own (none-of c (wish.Put name size (Some own)) h).1.1.1.0,
      g,
    )
own-left c _ h p e = (let g : None ≡ Some p = e in cc)

-- so the profile of its job is one that there is
pub own-known : (c : CoreView) (s : Setup) (v : Wish) → refusal_in c v ≡ None → IsTrue (is_setup s) →
    IsTrue (nat_lt (chosen s (profile_named v)) all_profiles)
own-known c s v h ok = by (profile_named v) refl
  where
    by : (o : Option ℕ) → profile_named v ≡ o → IsTrue (nat_lt (chosen s o) all_profiles)
    by None e = setup_known s ok
    by (Some p) e = lt-ltb p 5 (own-left c v h p e)

-- where no refusal applies, fewer than eight jobs run
pub few-left : (c : CoreView) (v : Wish) → refusal_in c v ≡ None → length c.jobs < 8
few-left c v h =
    let w = left_false (nat_le 8 (length (aims_in c.jobs))) _
    (sym (way (aims_in c.jobs) v)
    ∙ right_false (is_shut (sight_in c)) (are_jobs_in_the_way 8 (aims_in c.jobs) (aim_of_wish v))
    (none-of c v h).1.0) in
    omega (arith, leb-false 8 (length (aims_in c.jobs)) w, length-map c.jobs (λ (j : CoreJob). j.plan.aim))

-- where no refusal applies, an upgrade begins alone, and nothing begins beside it
pub lone-left : (c : CoreView) (v : Wish) (y : CoreJob) → y.plan.aim ≡ aim_of_wish v → refusal_in c v ≡ None →
    HasLoneUpgrade (c.jobs ++ y ∷ [])
lone-left c v y aim h =
    let b = (none-of c v h).1.0 in
    lone_more c.jobs y (any-map (λ j. j.plan.aim) is_upgrade c.jobs ∙
    (left_false (is_shut (sight_in c)) (are_jobs_in_the_way 8 (aims_in c.jobs) (aim_of_wish v)) b))
    (ap (are_jobs_in_the_way 8 (aims_in c.jobs)) aim ∙ (right_false (is_shut (sight_in c))
    (are_jobs_in_the_way 8 (aims_in c.jobs) (aim_of_wish v)) b))

-- ---- the core is kept

starts-le : (v : Wish) (k : ℕ) → starts_by (aim_of_wish v) k ≤ starts_for v
starts-le (wish.Put name size own) k = one (k == 2)
  where
    one : (b : Bool) → ◌≤◌ (if b then 1 else 0) 1
    one true = omega arith
    one false = omega arith
starts-le v k = omega arith

module _ (a : Inside) (job : Job) {t : Kept} (js : Vec Job Global) (k : ℕ)
    (table : t ≡ record a.table { spare = a.table.spare + starts_for job.wish })
    (jobs : js.items ≡ a.jobs.items ++ job ∷ []) where
  jobs-seen : map (core_job) js.items ≡ map (core_job) a.jobs.items ++ core_job job ∷ []
  jobs-seen = ap (map (core_job)) jobs ∙ seen-push a.jobs.items job

  -- what a contract sees of a core with one more job is what a begin promises
  pub admitted-view : (v : CoreView) → view_of a ≡ v →
      view_of (record a { table = t; jobs = js; next_job = a.next_job + 1 }) ≡ admitted v job.wish job
  admitted-view v e = subst (λ c. view_of (record a { table = t; jobs = js; next_job = a.next_job + 1 }) ≡
      admitted c job.wish job) e (ap (λ x. record (view_of a) {
        table = x;
        jobs = map (core_job) js.items;
        next_job = a.next_job + 1;
      }) table
      ∙ ap (λ xs. record (view_of a) {
        table = record a.table { spare = a.table.spare + starts_for job.wish };
        jobs = xs;
        next_job = a.next_job + 1;
      }) jobs-seen)

  -- a core that has room for the records of one more job stays one as it is kept with that job
  pub admitted-core : IsCore a → job.number ≡ a.next_job → IsJobKept (setup_kept a) job →
      length a.jobs.items < 8 →
      a.end + sum_by (reserved_of a.table.version (setup_kept a)) (map (core_job) a.jobs.items) + reserved_of
      a.table.version (setup_kept a)
      (core_job job) ≤ largest_journal → HasLoneUpgrade ((view_of a).jobs ++ core_job job ∷ []) →
      IsTold (setup_kept a) (core_job job) →
      IsCore (record a { table = t; jobs = js; next_job = a.next_job + 1 })
  admitted-core core number kept few room lone told = record {
    set_up = core.set_up;
    kept = subst (All (IsJobKept (setup_kept a))) (sym jobs)
        (All-push (IsJobKept (setup_kept a)) a.jobs.items job core.kept kept);
    told = subst (All (IsTold (setup_kept a))) (sym jobs-seen)
        (All-push (IsTold (setup_kept a)) (map core_job a.jobs.items) (core_job job) core.told told);
    few = (let e = ap (λ xs. length xs) jobs in let l = length-append a.jobs.items (job ∷ []) in
        let o : length (job ∷ []) ≡ 1 = refl in omega (arith, e, l, o, few));
    begun = core.begun;
    numbered = subst (λ xs. AreRising 0 xs (a.next_job + 1)) (sym jobs-seen)
        (rising_push 0 (map (core_job) a.jobs.items) a.next_job (core_job job) number core.numbered);
    lone = subst HasLoneUpgrade (sym jobs-seen) lone;
    reserves = record {
      room = let e = ap (λ xs. sum_by (reserved_of a.table.version (setup_kept a)) xs) jobs-seen in
          let p = sum_by_push (reserved_of a.table.version (setup_kept a)) (map (core_job) a.jobs.items)
          (core_job job) in
          let v = ap (λ x. sum_by (reserved_of x.version (setup_kept a)) (map core_job js.items))
          table in
          omega (arith, e, p, v, room);
      spare = let e = ap (λ xs. sum_by (starts_of (setup_kept a)) xs) jobs-seen in
          let p = sum_by_push (starts_of (setup_kept a)) (map (core_job) a.jobs.items) (core_job job) in
          let q = starts-le job.wish (appends_in (setup_kept a) (core_job job)) in let
          r = core.reserves.spare in
          let z = ap (λ x. x.spare) table in omega (arith, e, p, q, r, z);
    };
  }

-- ---- the core stands for the state after the begin

same-entry : (s : Setup) (t : Kept) (m : ℕ) (o : Option CoreJob) →
    written_of s (record t { spare = m }) o ≡ written_of s t o
same-entry s t m None = refl
same-entry s t m (Some j) = by j.plan.aim
  where
    by : (aim : Aim) → written_as (record t { spare = m }) (appends_in s j) j.plan.profile j.plan.subject
        j.sums aim ≡ written_as t (appends_in s j) j.plan.profile j.plan.subject j.sums aim
    by _ = refl

found-more : (s : Setup) (js : List CoreJob) (x : CoreJob) (k : ℕ) (t : Kept) (e : Record) →
    written_of s t (job_in js k) ≡ Some e → job_in (js ++ x ∷ []) k ≡ job_in js k
found-more s [] x k t e h = let f = h in cc
found-more s (j ∷ js) x k t e h = elim (cases_Bool (j.number == k)) [
  | inl y ↦ rw y refl
  | inr n ↦ rw n (found-more s js x k t e (rw n at h))
]

flight-more : (c : CoreView) (v : Wish) (job : Job) (o : Option Append) → IsCoreFlight c o →
    IsCoreFlight (admitted c v job) o
flight-more c v job None h = h
flight-more c v job (Some a) h = (
  h.0,
  same-entry c.setup c.table (c.table.spare + starts_for v) (job_in (c.jobs ++ core_job job ∷ []) a.job)
      ∙ (ap (written_of c.setup c.table)
      (found-more c.setup c.jobs (core_job job) a.job c.table a.entry h.1) ∙ h.1),
)

-- a wish of a put, and a stream's, is for a put of the machine
put_kind : (o : Option ℕ) (name : List ℕ) (size : ℕ) (own : Option ℕ) (k : Kind) →
    IsAimOf o (wish.Put name size own) k → (word : List ℕ) × ((bytes : List ℕ) × (k ≡ PutJob word bytes))
put_kind o name size own (PutJob word bytes) e = (word, (bytes, refl))
put_kind None name size own (GetJob word) e = (let f = e in cc)
put_kind None name size own (DropJob word) e = (let f = e in cc)
put_kind None name size own AuditJob e = (let f = e in cc)
put_kind None name size own RepairJob e = (let f = e in cc)
put_kind None name size own UpgradeJob e = (let f = e in cc)
put_kind (Some n) name size own (GetJob word) e = (let f = e in cc)
put_kind (Some n) name size own (DropJob word) e = (let f = e in cc)
put_kind (Some n) name size own AuditJob e = (let f = e in cc)
put_kind (Some n) name size own RepairJob e = (let f = e in cc)
put_kind (Some n) name size own UpgradeJob e = (let f = e in cc)

-- a begin leaves a sound state, of a put also with a profile of its own
begin-sound : (w : State) (kind : Kind) (moment : ℕ) (told : Option ℕ) (v : Wish) → IsSound 8 w →
    w.is_open ≡ true → IsAimOf told v kind → IsSpelledKind kind →
    ((p : ℕ) → profile_named v ≡ Some p → p < 256) →
    refusal_of_begin 8 w kind (profile_named v) ≡ None → IsSound 8 (job_begun w moment kind (profile_named v))
begin-sound w kind moment told (wish.Put name size (Some own)) sound opened of spelled few allowed =
    let p = put_kind told name size (Some own) kind of in
    subst (λ k. IsSpelledKind k → refusal_of_begin 8 w k (Some own) ≡ None →
    IsSound 8 (job_begun w moment k (Some own))) (sym p.1.1)
    (λ spelt entered. events-sound 8 moment w sound (omega arith, omega arith)
    (BeginAt own p.0 p.1.0) (Begun w.next_job) (job_begun w moment (PutJob p.0 p.1.0) (Some own))
    (few own refl, spelt) (opened, entered, refl, refl)) spelled allowed
begin-sound w kind moment told _ sound opened of spelled few allowed = events-sound 8 moment w sound
    (omega arith, omega arith) (Begin kind) (Begun w.next_job)
    (job_begun w moment kind None) spelled (opened, allowed, refl, refl)

-- with a new job, a core stands for the machine's state after the begin
pub core-begun : {c : CoreView} {w : State} (kind : Kind) (moment : ℕ) {v : Wish} {job : Job} → CoreIs c w →
    IsAimOf job.told v kind → MayBegin job.told v → IsTold c.setup (core_job job) → IsSpelledKind kind →
    ((p : ℕ) → profile_named v ≡ Some p → p < 256) → refusal_of_begin 8 w kind (profile_named v) ≡ None →
    c.setup.n ≤ 16 → IsMade c.table c.setup c.next_job v job →
    CoreIs (admitted c v job) (job_begun w moment kind (profile_named v))
unfolding setup_in
core-begun {c} {w} kind moment {v} {job} is of begins within spelled own allowed most made = record {
  sound = begin-sound w kind moment job.told v is.sound is.is_open of spelled own allowed;
  is_open = is.is_open;
  none_alone = is.none_alone;
  table = record {
    setup = is.table.setup;
    version = is.table.version;
    files = is.table.files;
    started = is.table.started;
    id = is.table.id;
    audit = is.table.audit;
    running = is.table.running;
    due = is.table.due;
  };
  setup = is.setup;
  end = is.end;
  jobs = zip_push (IsJobOf c.setup) c.jobs w.jobs (core_job job) (beginning w moment kind (profile_named v))
      is.jobs (made-is w moment kind (rw is.next_job at made) most (table-like c w is)
      is.setup is.sound.files of begins within);
  next_job = ap (λ k. k + 1) is.next_job;
  append = flight-more c v job w.append is.append;
  barred = is.barred;
}

-- ---- streams

-- the machine's kind of a wish that is not too long is not too long
pub short-aim : (v : Wish) (k : Kind) → IsKindOf v k → IsShort v → IsShortAim (aim_of k)
short-aim (wish.Put name size own) k e l = subst IsShortAim e l
short-aim w k e l = subst IsShortAim e tt

-- a setup within its limits has a primary provider
pub primary : (s : Setup) → IsTrue (is_setup s) → 1 ≤ s.l
primary s h = search rules

-- a stripe has some bytes
pub some-stripe : (s : Setup) (p : ℕ) → IsTrue (is_setup s) → 0 < stripe_size s p
some-stripe s p h = let l = primary s h in let k = some_kept p in
    let m : 1 ≤ s.l * (profile_of p).keep = times s.l (profile_of p).keep l k in omega (arith, m)
  where
    times : (a b : ℕ) → 1 ≤ a → 1 ≤ b → 1 ≤ a * b
    times zero b x y = absurd (omega (arith, x))
    times (suc a) b x y = (let e : suc a * b ≡ b + a * b = omega arith in omega (arith, e, y))

-- a new job is told as it should be
pub told-start : {t : Kept} {s : Setup} {k : ℕ} {v : Wish} {job : Job} → IsTrue (is_setup s) →
    IsMade t s k v job → MayBegin job.told v → IsTold s (core_job job)
told-start {s} {v} {job} ok made = by job.told
  where
    by : (o : Option ℕ) → MayBegin o v → IsToldAs s (core_job job) o
    by None m = tt
    by (Some n) m = (
      (let p = made.place in omega (arith, p)),
      some-stripe s job.profile ok,
      subst (λ x. x * stripe_size s job.profile ≤ 2 ^ 22) (sym m.0) (omega arith),
      subst (λ w. IsLongest (aim_of_wish w)) (sym made.wish) m.1,
    )

-- a core in which one more job runs
pub more-jobs : {a : Inside} {c new : CoreView} (w : Wish) (job : Job) → view_of a ≡ c → IsCore a →
    new ≡ admitted c w job → job.number ≡ c.next_job → AreMore job.told c new
more-jobs {c} w job v h e n = record {
  job = core_job job;
  jobs = ap (λ x. x.jobs) e;
  number = n;
  told = refl;
  here = ap (λ x. job_in x.jobs c.next_job) e
      ∙ in_push 0 c.jobs c.next_job (core_job job)
      (subst (λ x. AreRising 0 x.jobs x.next_job) v h.numbered) n;
}

-- a stream that begins is open, with no stripe given
pub stream-open : (r : Result ℕ BeginFault) (c new : CoreView) → OnOk r (AreMore (Some 0) c new) →
    IfOk r (λ job. job ≡ c.next_job) → IfOk r (λ job. told_in new.jobs job ≡ Some 0)
stream-open (Ok job) c new h n = ap (told_in new.jobs) n ∙ (ap told_by h.here ∙ h.told)
stream-open (Err why) c new h n = tt

-- and no other job changes
pub stream-others : (r : Result ℕ BeginFault) (c new : CoreView) → OnOk r (AreMore (Some 0) c new) →
    OnErr r (new ≡ c) → (other : ℕ) → other ≢ c.next_job → told_in new.jobs other ≡ told_in c.jobs other
stream-others (Ok job) c new h e other o = ap (λ js. told_in js other) h.jobs
    ∙ ap told_by (in_push_other c.jobs other h.job (λ m. o (sym m ∙ h.number)))
stream-others (Err why) c new h e other o = ap (λ x. told_in x.jobs other) e

-- what a begin says of all jobs of some kinds it says of fewer
pub begins_among : {c new : CoreView} {kinds : Kind → Type 0} (fewer : Kind → Type 0) {own : Option ℕ}
    {r : Result ℕ BeginFault} → ((kind : Kind) → fewer kind → kinds kind) → BeginsAs c kinds own r new →
    BeginsAs c fewer own r new
begins_among fewer among h = record {
  begun = λ w kind moment is of. h.begun w kind moment is (among kind of);
  accepted = λ w kind is of. h.accepted w kind is (among kind of);
  number = h.number;
  refused = λ w kind is of. h.refused w kind is (among kind of);
  unchanged = h.unchanged;
  setup = h.setup;
}

-- a begin that told why not
pub begins_not : (c : CoreView) (kinds : Kind → Type 0) (own : Option ℕ) (why : BeginFault) →
    ((w : State) (kind : Kind) → CoreIs c w → kinds kind → why ≢ fault.Memory →
    refusal_of_begin 8 w kind own ≡ Some (refusal_of why)) → BeginsAs c kinds own (Err why) c
begins_not c kinds own why refused = record {
  begun = λ w kind moment is of spelled. tt;
  accepted = λ w kind is of. tt;
  number = tt;
  refused = refused;
  unchanged = refl;
  setup = refl;
}

-- where an Err tells of memory alone, it tells of no other cause
pub memory_alone : (r : Result ℕ BeginFault) (P : BeginFault → Type 0) → IfErr r (λ why. why ≡ fault.Memory) →
    IfErr r (λ why. why ≢ fault.Memory → P why)
memory_alone (Ok job) P h = tt
memory_alone (Err why) P h = λ other. absurd (other h)

-- a put of a name, of at most 2^22 bytes, is one that a stream of the name stands for
pub put_under : (name : List ℕ) (own : Option ℕ) (kind : Kind) → IsPutUnder name kind →
    IsShortKindOf (Some 0) (wish.Put name (2 ^ 22) own) kind
put_under name own (PutJob n bytes) h = (ap (λ x. ToPut x (2 ^ 22)) (sym h.0), h.1)
put_under name own kind h = absurd h

-- what a begin leaves of open streams, of a job that is none
pub begun-told : (r : Result ℕ BeginFault) (c new : CoreView) → OnOk r (AreMore None c new) →
    OnErr r (new ≡ c) →
    (HasNoStream c → HasNoStream new) × ((number : ℕ) → told_in new.jobs number ≡ told_in c.jobs number)
begun-told (Ok number) c new h e = (
  (λ none. (rw (← h.jobs) at (streamless_push c.jobs h.job h.told none))),
  (λ n. ap (λ js. told_in js n) h.jobs ∙ told_push c.jobs h.job n h.told),
)
begun-told (Err why) c new h e = ((λ none. (rw (← e) at none)), (λ n. ap (λ x. told_in x.jobs n) e))

-- ---- what a call gave

-- what follows from a statement about an Ok is a statement about the same Ok
pub on_ok_then : {A E : Type 0} (r : Result A E) (P Q : Type 0) → (P → Q) → OnOk r P → OnOk r Q
on_ok_then (Ok x) P Q f h = f h
on_ok_then (Err x) P Q f h = h

-- fewer than eight jobs as a contract sees them are fewer than eight as they are kept
pub fewer-than : (js : List Job) → length (map core_job js) < 8 → length js < 8
fewer-than js h = omega (arith, length-map js core_job, h)
