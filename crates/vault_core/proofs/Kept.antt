-- A core stays one as it is kept while its jobs change.
use Rattle.vault_core.proofs.Words.{◌≡◌, ℕ, zero, suc, ◌+◌, ◌<◌, ◌≤◌, Bool, List, [], ◌∷◌, ◌++◌, Some, None, length, map, take, set, get_or, refl, ap, sym, subst, ◌∙◌, arith, Global, option_map, option_eq, if◌then◌else◌, eqb, slice_get, remove, All, AllZip, ne_eqb, slice_get_within, slice_get-map, slice_get_read, get_or_from_slice_get, map-set, length-map, length-set, All-take, All-drop, All-append, All-set, sum_by-set, sum_by-remove, Setup, Aim, room_left, Inside, setup_kept, core_job, view_of, IsJobKept, IsCore, IsTold, AreTold, is_upgrading, HasLoneUpgrade, CoreJob, CoreView, appends_in, AreRising, job_in, reserved_of, starts_by, starts_of, Reserves, is_own, freed}
use Rattle.std.proofs.Common.{drop}
use Rattle.std.specs.Prelude.{Option}
use Rattle.std.proofs.lemmas.List.Edits.{length-remove}
use Rattle.vault_core.specs.declared.job.Job.{Job}
use Rattle.std.specs.declared.vec.Vec.{Vec}
use Rattle.vault_core.proofs.Lone.{lone_less, lone_set}

-- to map a list without an element is to leave out that element of the mapped list
pub map-remove : {X Y : Type 0} (f : X → Y) (xs : List X) (i : ℕ) → map f (remove xs i) ≡ remove (map f xs) i
map-remove f [] zero = refl
map-remove f [] (suc i) = refl
map-remove f (x ∷ xs) zero = refl
map-remove f (x ∷ xs) (suc i) = ap (λ (ys : List _). f x ∷ ys) (map-remove f xs i)

-- what each element has, each has of a list without one
pub All-remove : {X : Type 0} (P : X → Type 0) (xs : List X) (i : ℕ) → All P xs → All P (remove xs i)
All-remove P xs i h = All-append P (take i xs) (drop (suc i) xs) (All-take P i xs h) (All-drop P (suc i) xs h)

-- ---- what is reserved, with one job less

reserves_less : (c : CoreView) (place : ℕ) (d : CoreJob) (o : Option ℕ) (b : Bool) → place < length c.jobs →
    Reserves c → Reserves (record c { jobs = remove c.jobs place; append = o; barred = b })
reserves_less c place d o b l h = record {
  room = omega (arith, sum_by-remove (reserved_of c.table.version c.setup) c.jobs place d l, h.room);
  spare = omega (arith, sum_by-remove (starts_of c.setup) c.jobs place d l, h.spare);
}

-- ---- and with another job

reserves_other : (c : CoreView) (place : ℕ) (j k : CoreJob) (o : Option ℕ) → slice_get c.jobs place ≡ Some j →
    reserved_of c.table.version c.setup k ≤ reserved_of c.table.version c.setup j →
    starts_of c.setup k ≤ starts_of c.setup j → Reserves c → Reserves
    (record c { jobs = set c.jobs place k; append = o })
reserves_other c place j k o e r s h =
    let l = slice_get_within c.jobs place j e in
    let g = get_or_from_slice_get c.jobs place j j e in
    record {
      room = omega (
        arith,
        sum_by-set (reserved_of c.table.version c.setup) c.jobs place k j l,
        ap (reserved_of c.table.version c.setup) g,
        r,
        h.room,
      );
      spare = omega (
        arith,
        sum_by-set (starts_of c.setup) c.jobs place k j l,
        ap (starts_of c.setup) g,
        s,
        h.spare,
      );
    }

-- ---- a job that has made an action needs no more than before

-- a job of the same aim with as many appends needs the same room and as many PutStarts
pub same_needs : (s : Setup) (j k : CoreJob) → k.plan.aim ≡ j.plan.aim → appends_in s k ≡ appends_in s j →
    ((v : ℕ) → reserved_of v s k ≤ reserved_of v s j) × (starts_of s k ≤ starts_of s j)
same_needs s j k w g = (
  (λ v. (omega (
    arith,
    ap (λ (x : Aim). room_left v s x (appends_in s k)) w ∙
        ap (room_left v s j.plan.aim) g,
  ))),
  omega (arith, ap (λ (x : Aim). starts_by x (appends_in s k)) w ∙ ap (starts_by j.plan.aim) g),
)

-- ---- the numbers of jobs

rising_lower : (low lower : ℕ) (js : List CoreJob) (next : ℕ) → lower ≤ low → AreRising low js next →
    AreRising lower js next
rising_lower low lower [] next l h = omega arith
rising_lower low lower (j ∷ js) next l h = ((omega (arith, h.0)), h.1)

rising_remove : (low : ℕ) (js : List CoreJob) (next i : ℕ) → AreRising low js next →
    AreRising low (remove js i) next
rising_remove low [] next zero h = h
rising_remove low [] next (suc i) h = h
rising_remove low (j ∷ js) next zero h =
    rising_lower (j.number + 1) low js next (let a = h.0 in omega arith) h.1
rising_remove low (j ∷ js) next (suc i) h = (h.0, rising_remove (j.number + 1) js next i h.1)

-- numbers ascend still where a job gives way to one of its own number
pub rising_set : (low : ℕ) (js : List CoreJob) (next i : ℕ) (j k : CoreJob) → slice_get js i ≡ Some j →
    k.number ≡ j.number → AreRising low js next → AreRising low (set js i k) next
rising_set low [] next i j k e n h = let f : None ≡ Some j = e in cc
rising_set low (x ∷ js) next zero j k e n h =
    let f : Some x ≡ Some j = e in let g : x ≡ j = cc in
    let m : x.number ≡ k.number = ap (λ y. y.number) g ∙ sym n in
    ((let a = h.0 in omega (arith, m)), subst (λ y. AreRising (y + 1) js next) m h.1)
rising_set low (x ∷ js) next (suc i) j k e n h = (h.0, rising_set (x.number + 1) js next i j k e n h.1)

-- two lists in step stay so with one more of each
pub zip_push : {X Y : Type 0} (R : X → Y → Type 0) (xs : List X) (ys : List Y) (x : X) (y : Y) →
    AllZip R xs ys → R x y → AllZip R (xs ++ x ∷ []) (ys ++ y ∷ [])
zip_push R [] [] x y are is = (is, tt)
zip_push R (a ∷ xs) (b ∷ ys) x y are is = (are.0, zip_push R xs ys x y are.1 is)
zip_push R _ _ x y are is = absurd are

-- numbers ascend still with a job behind that has the next number
pub rising_push : (low : ℕ) (js : List CoreJob) (next : ℕ) (k : CoreJob) → k.number ≡ next →
    AreRising low js next → AreRising low (js ++ k ∷ []) (next + 1)
rising_push low [] next k n h = ((omega (arith, h)), (omega (arith, h)))
rising_push low (j ∷ js) next k n h = (h.0, rising_push (j.number + 1) js next k n h.1)

above : (low : ℕ) (js : List CoreJob) (next k : ℕ) → AreRising low js next → k < low → job_in js k ≡ None
above low [] next k h l = refl
above low (j ∷ js) next k h l = rw (ne_eqb j.number k (λ e. absurd (omega (arith, h.0))))
    (above (j.number + 1) js next k h.1 (omega (arith, h.0)))

-- where numbers ascend from one on, each job has that number or a higher one
pub behind : (low : ℕ) (js : List CoreJob) (next i : ℕ) (j : CoreJob) → AreRising low js next →
    slice_get js i ≡ Some j → low ≤ j.number
behind low [] next i j h e = let r : None ≡ Some j = e in cc
behind low (x ∷ js) next zero j h e = let r : Some x ≡ Some j =
    e in let s : x ≡ j = cc in let m = ap (λ v. v.number) s in let a = h.0 in omega arith
behind low (x ∷ js) next (suc i) j h e =
    let a = h.0 in let b = behind (x.number + 1) js next i j h.1 e in omega arith

-- a job that is taken out no longer runs
pub gone : (low : ℕ) (js : List CoreJob) (next i : ℕ) (j : CoreJob) → AreRising low js next →
    slice_get js i ≡ Some j → job_in (remove js i) j.number ≡ None
gone low [] next i j h e = let f : None ≡ Some j = e in cc
gone low (x ∷ js) next zero j h e = let f : Some x ≡ Some j = e in let g : x ≡ j = cc in
    above (x.number + 1) js next j.number h.1 (let m = ap (λ y. y.number) g in omega arith)
gone low (x ∷ js) next (suc i) j h e = rw (ne_eqb x.number j.number
    (λ m. absurd (let b = behind (x.number + 1) js next i j h.1 e in omega arith)))
    (gone (x.number + 1) js next i j h.1 e)

-- ---- a core with a job less

-- a contract sees a core without the job of a place where that job was taken out
pub less_view : (a : Inside) (v : Vec Job Global) (place : ℕ) (o : Option ℕ) (b : Bool) →
    v.items ≡ remove a.jobs.items place →
    view_of (record a { jobs = v; append = o; barred = b })
    ≡ record (view_of a) { jobs = remove (view_of a).jobs place; append = o; barred = b }
less_view a v place o b e =
    ap (λ (js : List CoreJob). record (view_of a) { jobs = js; append = o; barred = b })
    (ap (map (core_job)) e ∙ map-remove (core_job) a.jobs.items place)

-- a core stays one as it is kept without one of its jobs
pub less_core : {a : Inside} (v : Vec Job Global) (place : ℕ) (d : Job) (o : Option ℕ) (b : Bool) →
    place < length (view_of a).jobs → v.items ≡ remove a.jobs.items place → IsCore a →
    IsCore (record a { jobs = v; append = o; barred = b })
less_core {a} v place d o b l e h = record {
  set_up = h.set_up;
  kept = subst (All (IsJobKept (setup_kept a))) (sym e)
      (All-remove (IsJobKept (setup_kept a)) a.jobs.items place h.kept);
  told = subst AreTold (sym (less_view a v place o b e))
      (All-remove (IsTold (setup_kept a)) (view_of a).jobs place h.told);
  few = (let m : length (map (core_job) a.jobs.items) ≡ length a.jobs.items = simp length-map in
      let r = length-remove a.jobs.items place (omega (arith, l, m)) in let s = ap length e in
      let f = h.few in omega (arith, r, s, f));
  begun = h.begun;
  reserves = subst Reserves (sym (less_view a v place o b e))
      (reserves_less (view_of a) place (core_job d) o b l h.reserves);
  numbered = subst (λ x. AreRising 0 x.jobs a.next_job) (sym (less_view a v place o b e))
      (rising_remove 0 (view_of a).jobs a.next_job place h.numbered);
  lone = subst (λ x. HasLoneUpgrade x.jobs) (sym (less_view a v place o b e))
      (lone_less (view_of a).jobs place h.lone);
}

-- ---- a core with another job

-- a contract sees another job at a place where one was put there
pub other_view : (a : Inside) (v : Vec Job Global) (place : ℕ) (job : Job) {k : CoreJob} (o : Option ℕ) →
    v.items ≡ set a.jobs.items place job → core_job job ≡ k →
    view_of (record a { jobs = v; append = o }) ≡ record (view_of a)
    { jobs = set (view_of a).jobs place k; append = o }
other_view a v place job o e s = ap (λ js. record (view_of a) { jobs = js; append = o }) (ap (map (core_job))
    e ∙ (map-set (core_job) a.jobs.items place job ∙ ap (set (map (core_job) a.jobs.items) place) s))

-- a core stays one as it is kept with another job at a place that has its number and needs no more
pub other_core : {a : Inside} (v : Vec Job Global) (place : ℕ) {job : Job} {j k : CoreJob} (o : Option ℕ) →
    v.items ≡ set a.jobs.items place job → core_job job ≡ k → slice_get (view_of a).jobs place ≡ Some j →
    k.number ≡ j.number → is_upgrading k ≡ is_upgrading j → IsJobKept (setup_kept a) job →
    IsTold (setup_kept a) k → ((n : ℕ) → reserved_of n (setup_kept a) k ≤ reserved_of n (setup_kept a) j) →
    starts_of (setup_kept a) k ≤ starts_of (setup_kept a) j → IsCore a →
    IsCore (record a { jobs = v; append = o })
other_core {a} v place {job} {j} {k} o e s g num aim kept told r t h = record {
  set_up = h.set_up;
  kept = subst (All (IsJobKept (setup_kept a))) (sym e)
      (All-set (IsJobKept (setup_kept a)) a.jobs.items place job kept h.kept);
  told = subst AreTold (sym (other_view a v place job o e s))
      (All-set (IsTold (setup_kept a)) (view_of a).jobs place k told h.told);
  few = (let r = length-set a.jobs.items place job in let s = ap length e in let f = h.few in
      omega (arith, r, s, f));
  begun = h.begun;
  reserves = subst Reserves (sym (other_view a v place job o e s))
      (reserves_other (view_of a) place j k o g (r a.table.version) t h.reserves);
  numbered = subst (λ (x : CoreView). AreRising 0 x.jobs a.next_job) (sym (other_view a v place job o e s))
      (rising_set 0 (view_of a).jobs a.next_job place j k g num h.numbered);
  lone = subst (λ (x : CoreView). HasLoneUpgrade x.jobs) (sym (other_view a v place job o e s))
      (lone_set (view_of a).jobs place j k g aim h.lone);
}

-- ---- the job at a place

-- the job at a place is seen at that place
pub seen_at : (a : Inside) (place : ℕ) {job : Job} → place < length (view_of a).jobs →
    job ≡ get_or a.jobs.items place job → slice_get (view_of a).jobs place ≡ Some (core_job job)
seen_at a place {job} l e =
    let m : length (map (core_job) a.jobs.items) ≡ length a.jobs.items = simp length-map in
    slice_get-map (core_job) a.jobs.items place
    ∙ ap (option_map (core_job))
    (slice_get_read a.jobs.items (length a.jobs.items) place job refl (omega (arith, l, m)) e)

own_is : (o : Option ℕ) (j : CoreJob) → option_eq eqb o (Some j.number) ≡ is_own o (Some j)
own_is None j = refl
own_is (Some k) j = refl

-- the append in flight goes with the job whose own it is
pub freed_is : (c : CoreView) (place : ℕ) {j : CoreJob} {b : Bool} → slice_get c.jobs place ≡ Some j →
    option_eq eqb c.append (Some j.number) ≡ b → (if b then None else c.append) ≡ freed c place
freed_is c place {j} e f = ap (λ (x : Bool). if x then None else c.append)
    (sym f ∙ (own_is c.append j ∙ ap (is_own c.append) (sym e)))

-- the jobs of a core in which one gives way to another
pub jobs_set : (a : Inside) (c : CoreView) (v : Vec Job Global) (place : ℕ) (job : Job) → view_of a ≡ c →
    v.items ≡ set a.jobs.items place job → map core_job v.items ≡ set c.jobs place (core_job job)
jobs_set a c v place job view e = ap (map core_job) e
    ∙ (map-set core_job a.jobs.items place job
    ∙ ap (λ x. set x.jobs place (core_job job)) view)
