-- A stream that waits for a stripe: it is given one, or ended.
use Rattle.vault_core.proofs.Words.{◌≡◌, ◌≢◌, ℕ, zero, suc, ◌+◌, ◌-◌, ◌^◌, ◌<◌, ◌≤◌, Bool, true, false, List, [], ◌∷◌, Some, None, length, set, get_or, inl, inr, refl, ap, sym, subst, ◌∙◌, arith, if◌then◌else◌, ◌==◌, is_some, position, slice_get, remove, AllZip, cases_Bool, false≢true, eqb-true, eq-eqb, ne_eqb, slice_get_within, none-some, Setup, Kind, PutJob, Aim, ToPut, aim_of, job_of, without_job, State, Append, ended, moves_made, other, number_of, Wish, Inside, CoreJob, CoreView, AreRising, job_in, wanted_at, wanted_by, wants_in, told_by, told_in, option_map, plan_in, stripe_size, IsToldAs, IsTold, AreTold, IsNextLength, IsGivenLength, FitsAim, FitsGiven, cut_aim, closed, given_more, IsStreamAt, MayClose, seen_plan, longest, shown, IsPutFrom, IsJobOf, IsCoreFlight, CoreIs, written_of, core_left, most_of, with_at, of_length, cut_tasks, cursor_behind, steps_behind, stripes_in, is_upgrade, rest_of, core_job, plan_kept, setup_kept, view_of, IsJobKept, IsCore, aim_of_wish}
use Rattle.std.proofs.Common.{◌*◌}
use Rattle.std.specs.Prelude.{Option}
use Rattle.machine_defs.specs.Jobs.{Job}
use Rattle.state_laws.proofs.Ends.{plain-ended}
use Rattle.vault_core.specs.declared.wish.Wish.TheVariants as wish
use Rattle.vault_core.specs.declared.job.Job.{Job as JobKept}
use Rattle.vault_core.proofs.Gating.{providers}
use Rattle.vault_core.proofs.Moving.{kept_at, WentOn}
use Rattle.vault_core.proofs.Cut.{ended-kept, ended-left, ended-room, ended-starts, ended-aim}
use Rattle.vault_core.proofs.Pairs.{IsFirst, pair_some, in_set_same, in_set_other, in_remove_other}
use Rattle.vault_core.proofs.Places.{found_at, found_none, first_of_position}
use Rattle.vault_core.proofs.Kept.{gone, seen_at}
use Rattle.vault_core.proofs.Gates.{set_with}
use Rattle.vault_core.proofs.Told.{all_at, told_get}
use Rattle.vault_core.proofs.Links.{profile-is}
use Rattle.vault_core.proofs.Fronts.{shared, shared-waits}
use Rattle.vault_core.proofs.Standing.{same_job}
use Rattle.vault_core.specs.Changes.{IsMoreOf}
use Rattle.vault_core.proofs.Steps.{flight-stands, stays_as, jobs_stand, remove_stands, flight_beside}
use Rattle.vault_core.proofs.Falls.{in_number, left_job}

-- ---- the stream

-- a job of a core that waits for a stripe
pub record Waits (c : CoreView) (k : ℕ) : Type 0 where
  pub job : CoreJob
  pub runs : job_in c.jobs k ≡ Some job
  pub stripes : ℕ
  pub told : job.told ≡ Some stripes
  pub at : job.place ≡ 4 + stripes * c.setup.n

-- a number that wants a stripe is that of a stream which waits for it
pub waits : (c : CoreView) (k : ℕ) → is_some (wants_in c k) ≡ true → Waits c k
waits c k h = by (job_in c.jobs k) refl
  where
    of_told : (j : CoreJob) → job_in c.jobs k ≡ Some j → (o : Option ℕ) → j.told ≡ o →
        is_some (wanted_at c.setup j.place o) ≡ true → Waits c k
    of_told j e None t g = absurd (false≢true g)
    of_told j e (Some n) t g = elim (cases_Bool (j.place == 4 + n * c.setup.n)) [
      | inl b ↦ record {
        job = j;
        runs = e;
        stripes = n;
        told = t;
        at = eqb-true j.place (4 + n * c.setup.n) b;
      }
      | inr b ↦ absurd (false≢true (sym (ap (λ x. is_some (if x then Some n else None)) b) ∙ g))
    ]

    by : (o : Option CoreJob) → job_in c.jobs k ≡ o → Waits c k
    by None e = absurd (false≢true (sym (ap (λ o. is_some (wanted_by c.setup o)) e) ∙ h))
    by (Some j) e = of_told j e j.told refl (sym (ap (λ o. is_some (wanted_by c.setup o)) e) ∙ h)

-- so there is a place of that number
pub waits_somewhere : (c : CoreView) (k : ℕ) → is_some (wants_in c k) ≡ true →
    None ≡ position (λ (j : CoreJob). j.number == k) c.jobs → ⊥
waits_somewhere c k h e = let w = waits c k h in
    none-some w.job (sym (found_none c.jobs k (sym e)) ∙ w.runs)

-- the place of that number is one among the jobs
pub waits_within : (a : Inside) {c : CoreView} (k : ℕ) {place : ℕ} → view_of a ≡ c →
    is_some (wants_in c k) ≡ true → Some place ≡ position (λ (j : CoreJob). j.number == k) c.jobs →
    place < length (view_of a).jobs
waits_within a {c} k {place} v h e =
    let w = waits c k h in
    (rw (← v) at (slice_get_within c.jobs place w.job (sym (found_at c.jobs k (sym e)) ∙ w.runs)))

-- and the job there, as it is kept, is the stream
pub waits_kept : (a : Inside) (c : CoreView) (k place : ℕ) (index : JobKept) (v : view_of a ≡ c)
    (h : is_some (wants_in c k) ≡ true) (e : Some place ≡ position (λ (j : CoreJob). j.number == k) c.jobs) →
    index ≡ get_or a.jobs.items place index → core_job index ≡ (waits c k h).job
waits_kept a c k place index v h e i =
    let w = waits c k h in
    cc (sym (seen_at a place (waits_within a k v h e) i)
    ∙ (ap (λ (x : CoreView). slice_get x.jobs place) v ∙ (sym (found_at c.jobs k (sym e)) ∙ w.runs)))

-- it was given some stripes
pub waits_told : (a : Inside) {c : CoreView} (k : ℕ) {place : ℕ} {index : JobKept} → view_of a ≡ c →
    is_some (wants_in c k) ≡ true → Some place ≡ position (λ (j : CoreJob). j.number == k) c.jobs →
    index ≡ get_or a.jobs.items place index → None ≡ index.told → ⊥
waits_told a {c} k {place} {index} v h e i t =
    let w = waits c k h in
    none-some w.stripes (t ∙ (ap (λ j. j.told) (waits_kept a c k place index v h e i) ∙ w.told))

-- a stream at a place
pub stream_at : {a : Inside} {c : CoreView} (k : ℕ) {place stripes : ℕ} {index : JobKept} → view_of a ≡ c →
    IsCore a → is_some (wants_in c k) ≡ true → Some place ≡ position (λ (j : CoreJob). j.number == k) c.jobs →
    index ≡ get_or a.jobs.items place index → Some stripes ≡ index.told → IsStreamAt c k place stripes
stream_at {a} {c} k {place} {stripes} {index} v core h e i t =
    let w = waits c k h in
    let told : w.job.told ≡ Some stripes =
    sym (t ∙ ap (λ j. j.told) (waits_kept a c k place index v h e i)) in
    let f : Some w.stripes ≡ Some stripes = sym w.told ∙ told in
    let same : w.stripes ≡ stripes = cc in
    record {
      job = w.job;
      here = sym (found_at c.jobs k (sym e)) ∙ w.runs;
      runs = w.runs;
      found = e;
      told = told;
      at = w.at ∙ ap (λ n. 4 + n * c.setup.n) same;
      within = subst (IsToldAs c.setup w.job) told (told_get c.setup c.jobs k w.job
          (subst AreTold v core.told) w.runs);
      some = subst (λ x. 0 < x.setup.n) v
          (let p = (providers (setup_kept a) core.set_up).0 in omega (arith, p));
    }

-- ---- a core whose stream changes

module _ {c : CoreView} {k place stripes : ℕ} (s : IsStreamAt c k place stripes) where
  first : IsFirst c.jobs k place
  first = first_of_position c.jobs k place (sym s.found)

  -- it has the number
  pub stream-number : s.job.number ≡ k
  stream-number = in_number c.jobs k s.job s.runs

  -- it wants this stripe
  pub wants-is : wants_in c k ≡ Some stripes
  wants-is = ap (wanted_by c.setup) s.runs
      ∙ (ap (wanted_at c.setup s.job.place) s.told
      ∙ ap (λ b. if b then Some stripes else None)
      (eq-eqb s.job.place (4 + stripes * c.setup.n) s.at))

  -- the append in flight is not its own
  pub not-flying : (w : State) → CoreIs c w → (a : Append) → w.append ≡ Some a → a.job ≡ k → ⊥
  not-flying w is a e own =
      let p = pair_some c.setup c.jobs w.jobs k s.job is.jobs s.runs in
      let f = flight-stands is (ap (job_of w.jobs) own ∙ p.runs) e in
      let q = same_job is.setup p.is in
      let kept = rw s.told at q.within in
      omega (
        arith,
        shared-waits q.place (shared q s.told kept) f.0
            (s.at ∙ ap (λ (t : Setup). 4 + stripes * t.n) is.setup) f.1.1,
        f.1.2,
      )

  flight-set : (w : State) → CoreIs c w → (x : CoreJob) → x.number ≡ k →
      IsCoreFlight (with_at c place x) w.append
  flight-set w is x n = flight_beside c k place first x n w.append (not-flying w is) is.append

  -- with another job in its place a core stands for the same states, where this job does for theirs
  pub set-stands : (w : State) → CoreIs c w → (x : CoreJob) → x.number ≡ k →
      ((m : Job) → job_of w.jobs k ≡ Some m → IsJobOf c.setup s.job m → IsJobOf c.setup x m) →
      CoreIs (with_at c place x) w
  set-stands w is x n to = jobs_stand (set c.jobs place x) c.append is is.sound
      (stays_as w refl refl refl refl refl refl refl)
      (zip c.jobs w.jobs place is.jobs first s.here (λ m r. to m r)) is.barred (flight-set w is x n)
    where
      zip : (cs : List CoreJob) (js : List Job) (i : ℕ) → AllZip (IsJobOf c.setup) cs js → IsFirst cs k i →
          slice_get cs i ≡ Some s.job →
          ((m : Job) → job_of js k ≡ Some m → IsJobOf c.setup s.job m → IsJobOf c.setup x m) →
          AllZip (IsJobOf c.setup) (set cs i x) js
      zip [] js i h f e g = absurd f
      zip (y ∷ cs) [] i h f e g = absurd h
      zip (y ∷ cs) (m ∷ js) zero h f e g = (let r : Some y ≡ Some s.job = e in let same : y ≡ s.job = cc in (
        g m (ap (λ b. if b then Some m else job_of js k) (eq-eqb m.number k (sym h.0.number ∙ f)))
            (rw same at h.0),
        h.1,
      ))
      zip (y ∷ cs) (m ∷ js) (suc i) h f e g = (
        h.0,
        zip cs js i h.1 f.1 e (λ n r. g n (ap (λ b. if b then Some m else job_of js k)
            (ne_eqb m.number k (λ q. f.0 (h.0.number ∙ q))) ∙ r)),
      )

  -- the job of the number is then this one
  pub set-here : (x : CoreJob) → x.number ≡ k → job_in (set c.jobs place x) k ≡ Some x
  set-here x n = in_set_same c.jobs k place x first n

  -- and no other changes
  pub set-other : (x : CoreJob) → x.number ≡ k → (other : ℕ) → other ≢ k →
      job_in (set c.jobs place x) other ≡ job_in c.jobs other
  set-other x n other o = in_set_other c.jobs k place other x first n o

  -- ---- with one more stripe

  -- a put that has the stripe is one that the stream stands for
  pub more-of : (length : ℕ) → (stripes + 1) * stripe_size c.setup s.job.plan.profile ≡ length →
      IsToldAs c.setup s.job (Some (stripes + 1)) → (m : Job) → FitsAim false length (aim_of m.kind) →
      IsJobOf c.setup s.job m → IsJobOf c.setup (given_more (stripes + 1) s.job) m
  more-of length e within m fits is = record {
    number = is.number;
    plan = is.plan ∙ ap (λ o. shown o (seen_plan m)) s.told;
    told = by m.kind fits;
    within = within;
    place = is.place;
    unjudged = is.unjudged;
    judged = is.judged;
  }
    where
      size : (stripes + 1) * stripe_size c.setup m.profile ≡ length
      size = ap (λ p. (stripes + 1) * stripe_size c.setup p) (sym (profile-is is)) ∙ e

      by : (kind : Kind) → FitsAim false length (aim_of kind) →
          IsPutFrom ((stripes + 1) * stripe_size c.setup m.profile) (aim_of kind)
      by (PutJob name bytes) l = omega (arith, size, l)
      by kind l = absurd l

  -- ---- with its last piece

  -- a put of that length is the one that the stream has become
  pub closed-of : (length : ℕ) (m : Job) → FitsAim true length (aim_of m.kind) → IsJobOf c.setup s.job m →
      IsJobOf c.setup (closed length s.job) m
  closed-of length m fits is = record {
    number = is.number;
    plan = (λ i. record (plan i) { aim = aim i }) ∙ back (aim_of m.kind) fits;
    told = tt;
    within = tt;
    place = is.place;
    unjudged = is.unjudged;
    judged = is.judged;
  }
    where
      plan : plan_in s.job.plan ≡ shown (Some stripes) (seen_plan m)
      plan = is.plan ∙ ap (λ o. shown o (seen_plan m)) s.told

      aim : cut_aim length s.job.plan.aim ≡ cut_aim length (longest (aim_of m.kind))
      aim = ap (λ p. cut_aim length p.aim) plan

      back : (x : Aim) → FitsAim true length x →
          record (seen_plan m) { aim = cut_aim length (longest x) } ≡ record (seen_plan m) { aim = x }
      back (ToPut name size) e = ap (λ n. record (seen_plan m) { aim = ToPut name n }) e
      back x e = absurd e

module _ {c : CoreView} {k place stripes : ℕ} (s : IsStreamAt c k place stripes) (x : CoreJob)
    (called : x.number ≡ k) where
  -- so many steps of it may remain as the other may make
  pub set-left : most_of c.setup x ≤ most_of c.setup s.job → core_left (with_at c place x) k ≤ core_left c k
  set-left l = omega (
    arith,
    left_job (with_at c place x) k x (set-here s x called),
    left_job c k s.job s.runs,
    l,
  )

  -- it waits for no stripe where the other does not
  pub set-wants : wanted_at c.setup x.place x.told ≡ None → wants_in (with_at c place x) k ≡ None
  set-wants e = ap (wanted_by c.setup) (set-here s x called) ∙ e

  -- it was given what the other was
  pub set-told : told_in (set c.jobs place x) k ≡ x.told
  set-told = ap told_by (set-here s x called)

module _ {c : CoreView} {k place stripes : ℕ} (s : IsStreamAt c k place stripes) where
  -- a stream that has one more stripe does not wait for one
  pub more-goes : 0 < c.setup.n → wanted_at c.setup s.job.place (Some (stripes + 1)) ≡ None
  more-goes some = ap (λ b. if b then Some (stripes + 1) else None)
      (ne_eqb s.job.place (4 + (stripes + 1) * c.setup.n) (λ e. absurd (let a = s.at in
      let m : (stripes + 1) * c.setup.n ≡ stripes * c.setup.n + c.setup.n = omega arith in
      omega (arith, a, e, m, some))))

  unmoved : (w : State) → CoreIs c w → (n : ℕ) → n ≡ k → moves_made w.append n ≡ 0
  unmoved w is n e = by w.append refl
    where
      by : (o : Option Append) → w.append ≡ o → moves_made o n ≡ 0
      by None f = refl
      by (Some a) f = other a n (λ own. not-flying s w is a f (own ∙ e))

  -- without it a core stands for the states in which it has ended
  pub ended-stands : (w : State) → CoreIs c w → (m : Job) → job_of w.jobs k ≡ Some m →
      CoreIs (record c { jobs = remove c.jobs place }) (ended w m)
  ended-stands w is m r =
      let n = number_of w.jobs k m r in
      remove_stands k place c.append is (plain-ended 8 w is.sound m (rw (← n) at r) (unmoved w is m.number n))
      (first s) (stays_as w refl refl refl refl refl refl refl) is.barred (ap (without_job w.jobs) n) (flight
      w.append refl is.append)
    where
      flight : (o : Option Append) → w.append ≡ o → IsCoreFlight c o →
          IsCoreFlight (record c { jobs = remove c.jobs place }) o
      flight None e f = f
      flight (Some a) e f = (
        f.0,
        ap (written_of c.setup c.table) (in_remove_other c.jobs k place a.job (first s)
            (not-flying s w is a e)) ∙ f.1,
      )

  -- no other number's job changes
  pub ended-others : (m : ℕ) → m ≢ k → job_in (remove c.jobs place) m ≡ job_in c.jobs m
  ended-others m o = in_remove_other c.jobs k place m (first s) o

  -- and it runs no longer
  pub ended-gone : (a : Inside) → view_of a ≡ c → IsCore a → job_in (remove c.jobs place) k ≡ None
  ended-gone a v h = rw (stream-number s) at (gone 0 c.jobs a.next_job place s.job
      (subst (λ (x : CoreView). AreRising 0 x.jobs a.next_job) v h.numbered) s.here)

-- the machine's put, if it runs, has the length that was told
pub fits-job : (last : Bool) (length : ℕ) (o : Option Job) (m : Job) → o ≡ Some m → FitsGiven last length o →
    FitsAim last length (aim_of m.kind)
fits-job last length o m e f = rw e at f

-- what is said of the stream is said of the job at its place
of-stream : {c : CoreView} {k place stripes : ℕ} (s : IsStreamAt c k place stripes) (P : CoreJob → Type 0) →
    P s.job → (j : CoreJob) → slice_get c.jobs place ≡ Some j → P j
of-stream s P p j e = let f : Some s.job ≡ Some j = sym s.here ∙ e in
    let same : s.job ≡ j = cc in subst P same p

-- with one more stripe a stream is told as it should be
more-within : {c : CoreView} {k place stripes : ℕ} (length : ℕ) (s : IsStreamAt c k place stripes) →
    IsNextLength (stripe_size c.setup s.job.plan.profile) stripes length false →
    IsToldAs c.setup s.job (Some (stripes + 1))
more-within {c} {stripes} length s h = (
  (let a = s.at in let m : (stripes + 1) * c.setup.n ≡ stripes * c.setup.n + c.setup.n = omega arith in
      omega (arith, a, m)),
  s.within.1,
  (let a = h.0 in let b = h.1 in omega (arith, a, b)),
  s.within.3,
)

-- so many stripes are few
more-fits : (c : CoreView) (k place stripes size : ℕ) (s : IsStreamAt c k place stripes) →
    IsNextLength (stripe_size c.setup s.job.plan.profile) stripes size false → stripes + 1 < 2 ^ 32
more-fits c k place stripes size s h =
    let each = stripe_size c.setup s.job.plan.profile in
    let a = h.0 in
    let b = h.1 in
    let d = s.within.1 in
    let e : (stripes + 1) * each ≡ (stripes + 1) + (stripes + 1) * (each - 1) = spread (stripes + 1) each d in
    omega (arith, a, b, e)
  where
    spread : (n size : ℕ) → 0 < size → n * size ≡ n + n * (size - 1)
    spread n size l = ap (λ x. n * x) (let f : size ≡ 1 + (size - 1) = omega (arith, l) in f)
        ∙ (let g : n * (1 + (size - 1)) ≡ n + n * (size - 1) = omega arith in g)

takes : (c new : CoreView) (k place stripes length : ℕ) (last : Bool) (s : IsStreamAt c k place stripes)
    (x : CoreJob) → x.number ≡ k → new ≡ with_at c place x → wanted_at c.setup x.place x.told ≡ None →
    most_of c.setup x ≤ most_of c.setup s.job →
    ((m : Job) → FitsAim last length (aim_of m.kind) → IsJobOf c.setup s.job m → IsJobOf c.setup x m) →
    (last ≡ false → x.told ≡ Some (stripes + 1)) → (last ≡ true → x.told ≡ None) →
    IsMoreOf c k length last new
takes c new k place stripes length last s x n e free l to more closes =
    let given : told_in new.jobs k ≡ x.told =
    ap (λ y. told_in y.jobs k) e ∙ set-told s x n in
    record {
      stands = λ w is fit. subst (λ y. CoreIs y w) (sym e) (set-stands s w is x n
          (λ m r. to m (fits-job last length (job_of w.jobs k) m r fit)));
      more = λ i waits goes. given ∙ (more goes ∙ ap (λ o. option_map (λ n. n + 1) o)
          (sym (wants-is s) ∙ waits));
      closed = λ done. given ∙ closes done;
      wants = ap (λ y. wants_in y k) e ∙ set-wants s x n free;
      left = subst (λ y. core_left y k ≤ core_left c k) (sym e) (set-left s x n l);
      others = λ other o. ap (λ y. job_in y.jobs other) e ∙ set-other s x n other o;
      kept = e ∙ ap (λ js. record c { jobs = js }) (sym (ap (λ y. y.jobs) e));
    }

module _ {c : CoreView} {k place stripes : ℕ} (length : ℕ) (last : Bool) (s : IsStreamAt c k place stripes)
    (told : (j : CoreJob) → job_in c.jobs k ≡ Some j →
    IsGivenLength (stripe_size c.setup j.plan.profile) (wants_in c k) length last) where
  -- what may be told to the number is what may be told to its stream
  next-is : (b : Bool) → last ≡ b → IsNextLength (stripe_size c.setup s.job.plan.profile) stripes length b
  next-is b e = subst (IsNextLength (stripe_size c.setup s.job.plan.profile) stripes length) e
      (rw (wants-is s) at (told s.job s.runs))

  -- it may be told that its file ends
  pub may-close : last ≡ true → (j : CoreJob) → slice_get c.jobs place ≡ Some j →
      MayClose c.setup j stripes length
  may-close e = let h = next-is true e in
      of-stream s (λ (j : CoreJob). MayClose c.setup j stripes length)
      (record { told = s.told; at = s.at; least = h.0; most = h.2 })

  -- or be given a stripe
  pub may-tell : last ≡ false → (j : CoreJob) → slice_get c.jobs place ≡ Some j →
      IsToldAs c.setup j (Some (stripes + 1))
  may-tell e = of-stream s (λ j. IsToldAs c.setup j (Some (stripes + 1)))
      (more-within length s (next-is false e))

  -- so many stripes are few
  pub few-stripes : last ≡ false → stripes + 1 < 2 ^ 32
  few-stripes e = more-fits c k place stripes length s (next-is false e)

  -- it was given one more stripe
  pub takes-more : (new : CoreView) → last ≡ false →
      ((j : CoreJob) → slice_get c.jobs place ≡ Some j →
      new ≡ with_at c place (given_more (stripes + 1) j)) → IsMoreOf c k length last new
  takes-more new e f =
      let h = next-is false e in
      subst (λ (b : Bool). IsMoreOf c k length b new) (sym e) (takes c new k place stripes length false s
      (given_more (stripes + 1) s.job) (stream-number s) (f s.job s.here) (more-goes s s.some) (omega arith)
      (more-of s length (sym h.0) (more-within length s h)) (λ goes. refl) (λ done. absurd (false≢true done)))

  -- its file is at its end
  pub takes-last : (new : CoreView) → last ≡ true →
      ((j : CoreJob) → slice_get c.jobs place ≡ Some j → new ≡ with_at c place (closed length j)) →
      ((j : CoreJob) → slice_get c.jobs place ≡ Some j →
      most_of c.setup (closed length j) ≤ most_of c.setup j) → IsMoreOf c k length last new
  takes-last new e f l = rw (← e) at (takes c new k place stripes length true s (closed length s.job)
      (stream-number s) (f s.job s.here) refl (l s.job s.here) (closed-of s length)
      (λ goes. absurd (false≢true (sym goes))) (λ done. refl))

-- ---- as it is kept

-- a job as it is kept stays one with another number of stripes given
pub retold-kept : {s : Setup} {job : JobKept} (o : Option ℕ) → IsJobKept s job →
    IsJobKept s (record job { told = o })
unfolding rest_of
retold-kept {s} {job} o kept = record {
  steady = record {
    stays = set_with (record job { told = o }) refl refl refl kept.steady.stays.tasks
        kept.steady.stays.idle kept.steady.stays.counts kept.steady.stays.padded kept.steady.stays;
    comes = kept.steady.comes;
    within = kept.steady.within;
  };
  tasks = kept.tasks;
  listed = kept.listed;
  appends = kept.appends;
  left = kept.left;
  fits = kept.fits;
  undecided = kept.undecided;
}

-- the job at a place, which is seen there and kept
pub record JobHere (a : Inside) (place : ℕ) (job : JobKept) : Type 0 where
  pub here : slice_get (view_of a).jobs place ≡ Some (core_job job)
  pub kept : IsJobKept (setup_kept a) job

pub job_here : {a : Inside} {c : CoreView} (place : ℕ) {job : JobKept} → view_of a ≡ c → IsCore a →
    place < length c.jobs → job ≡ get_or a.jobs.items place job → JobHere a place job
job_here {a} place {job} v h l e =
    let m = rw (← v) at l in
    record { here = seen_at a place m e; kept = kept_at a place job h m e }

-- what a statement of the job at a place says of the job that is kept there
pub of_kept : {a : Inside} {c : CoreView} {place : ℕ} {job : JobKept} (P : Setup → CoreJob → Type 0) →
    view_of a ≡ c → JobHere a place job → ((j : CoreJob) → slice_get c.jobs place ≡ Some j → P c.setup j) →
    P (setup_kept a) (core_job job)
of_kept {job} P v here f = (rw (← v) at f) (core_job job) here.here

-- a stream that was told the length of its file
pub record ClosedHere (s : Setup) (old new : JobKept) (length : ℕ) : Type 0 where
  pub went : WentOn s old new
  pub seen : core_job new ≡ closed length (core_job old)
  pub upgrade : is_upgrade (aim_of_wish new.wish) ≡ is_upgrade (aim_of_wish old.wish)
  pub left : most_of s (closed length (core_job old)) ≤ most_of s (core_job old)

aim_cut : (size : ℕ) (w : Wish) → aim_of_wish (of_length size w) ≡ cut_aim size (aim_of_wish w)
aim_cut size (wish.Put name length own) = refl
aim_cut size w = refl

-- it is kept, and needs no more than before
pub closed_here : {a : Inside} {c : CoreView} {place : ℕ} {old new : JobKept} (given size : ℕ) {stripes : ℕ} →
    view_of a ≡ c → IsCore a → JobHere a place old →
    ((j : CoreJob) → slice_get c.jobs place ≡ Some j → MayClose c.setup j given size) →
    stripes ≡ stripes_in (setup_kept a) (record { id = old.subject; length = size; profile = old.profile }) →
    new.tasks.items ≡ cut_tasks stripes old.tasks.items → new ≡ record old {
      wish = of_length size old.wish;
      tasks = new.tasks;
      cursor = cursor_behind old.subject given stripes;
      left = steps_behind a.setup.n given stripes;
      told = None;
    } → ClosedHere (setup_kept a) old new size
closed_here {a} {c} {place} {old} {new} given size {stripes} v h here may all cut same =
    let s = setup_kept a in
    let m = of_kept (λ (t : Setup) (j : CoreJob). MayClose t j given size) v here may in
    let within : IsToldAs s (core_job old) (Some given) = subst (IsToldAs s (core_job old)) m.told
    (all_at (IsTold s) (view_of a).jobs place (core_job old) h.told here.here) in
    let some : 0 < s.n = (let p = (providers s h.set_up).0 in omega (arith, p)) in
    let kept = ended-kept here.kept given size new.tasks some within m.at m.least m.most all cut in
    let fewer = ended-left here.kept given size new.tasks some within m.at m.least m.most all cut in
    let seen : core_job new ≡ closed size (core_job old) = ap core_job same
    ∙ (λ i. record (core_job old)
    { plan = record (plan_kept old) { aim = aim_cut size old.wish i }; told = None }) in
    let room = ended-room here.kept given size new.tasks some within m.at m.least m.most all cut in
    let starts = ended-starts here.kept given size new.tasks some within m.at m.least m.most all cut in
    let upgrade = ended-aim here.kept given size new.tasks some within m.at m.least m.most all cut in
    record {
      went = subst (WentOn s old) (sym same) (record { kept = kept; room = room; starts = starts });
      seen = seen;
      upgrade = subst (λ (j : JobKept). is_upgrade (aim_of_wish j.wish) ≡ is_upgrade (aim_of_wish old.wish))
          (sym same) upgrade;
      left = subst (λ (j : CoreJob). most_of s j ≤ most_of s (core_job old)) (ap core_job (sym same) ∙ seen)
          (let x = kept.left in let y = here.kept.left in omega (arith, x, y, fewer));
    }
