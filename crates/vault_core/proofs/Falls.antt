-- How many steps a job may still make falls with each of its steps.
use Rattle.vault_core.proofs.Words.{◌≡◌, ℕ, zero, suc, ◌+◌, ◌<◌, true, List, [], ◌∷◌, Some, None, length, map, set, get_or, inl, inr, refl, ap, sym, subst, ◌∙◌, arith, ◌==◌, position, slice_get, remove, unwrap_or, if◌then◌else◌, All, option_map, cases_Bool, false≢true, ne_eqb, eqb-true, eq-eqb, slice_get_within, Setup, Action, SyncGate, End, Kept, Wish, Cursor, Inside, ActionValue, Reply, Counts, CoreJob, CoreView, planned, rest_in, AreRising, job_in, rest_of, sums_kept, core_job, view_of, setup_kept, comes_to, IsSteadyJob, IsJobKept, IsCore, Coming, seen_action, action_next, next_in, is_idle, most_of, core_left, written_as, HasReply, TakesReply, first_action, first_at, goes_plainly, aim_of_wish}
use Rattle.vault_core.specs.declared.wish.Wish.TheVariants as wish
use Rattle.vault_core.specs.declared.cursor.Cursor.TheVariants as at
use Rattle.vault_core.specs.declared.job.Job.{Job}
use Rattle.vault_core.specs.declared.action.Action.TheVariants as act
use Rattle.vault_core.specs.declared.reply.Reply.TheVariants as reply
use Rattle.vault_core.specs.Coming.{Acts}
use Rattle.vault_core.proofs.Kept.{rising_set, gone, seen_at, behind}
use Rattle.vault_core.proofs.Moving.{kept_at}
use Rattle.vault_core.proofs.Places.{found_at, found_none, first_of_position}
use Rattle.vault_core.proofs.Pairs.{IsFirst}
use Rattle.vault_core.proofs.Standing.{acts_comes, get-first}
use Rattle.vault_core.proofs.Gates.{action_at, cursor_at}
use Rattle.vault_core.proofs.Goes.{left_some as steps_left}

-- ---- a job goes on

-- a job that is kept with one step fewer
most_one : (s : Setup) (old new : Job) → IsJobKept s old → IsJobKept s new → new.left < old.left →
    most_of s (core_job new) < most_of s (core_job old)
most_one s old new a b l = omega (arith, a.left, b.left, l)

get_gate : (name : List ℕ) (c : Cursor) → comes_to (wish.Get name) c ≡ true →
    action_at (wish.Get name) c ≡ SyncGate → ⊥
get_gate name (at.Opening m) h e = false≢true h
get_gate name (at.Closing m) h e = false≢true h
get_gate name c h e = cc

-- who is at the last move of an append writes a record
pub gate_writes : (t : Kept) {n : ℕ} {job : Job} → IsSteadyJob n job →
    slice_get (rest_of n job) 0 ≡ Some SyncGate →
    None ≡ written_as t job.appends job.profile job.subject (sums_kept job) (aim_of_wish job.wish) → ⊥
gate_writes t {job} kept h e = by job.wish refl e
  where
    by : (w : Wish) → job.wish ≡ w →
        None ≡ written_as t job.appends job.profile job.subject (sums_kept job) (aim_of_wish w) → ⊥
    by (wish.Get name) v f = get_gate name job.cursor (subst (λ x. comes_to x job.cursor ≡ true) v kept.comes)
        (subst (λ x. action_at x job.cursor ≡ SyncGate) v (cursor_at kept h))
    by w v f = cc

-- ---- the job of a number, among jobs whose numbers ascend

-- a job at a place is the one that is found by its number, where the numbers ascend
pub at_number : (low : ℕ) (js : List CoreJob) (next i : ℕ) (j : CoreJob) → AreRising low js next →
    slice_get js i ≡ Some j → job_in js j.number ≡ Some j
at_number low [] next i j h e = let r : None ≡ Some j = e in cc
at_number low (x ∷ js) next zero j h e = let r : Some x ≡ Some j = e in let s : x ≡ j = cc in
    ap (λ b. if b then Some x else job_in js j.number)
    (eq-eqb x.number j.number (ap (λ v. v.number) s)) ∙ r
at_number low (x ∷ js) next (suc i) j h e = ap (λ b. if b then Some x else job_in js j.number)
    (ne_eqb x.number j.number (λ m. absurd (let b = behind (x.number + 1) js next i j h.1 e in omega arith)))
    ∙ at_number (x.number + 1) js next i j h.1 e

set_here : (js : List CoreJob) (i : ℕ) (j k : CoreJob) → slice_get js i ≡ Some j →
    slice_get (set js i k) i ≡ Some k
set_here [] i j k e = let r = e in cc
set_here (x ∷ js) zero j k e = refl
set_here (x ∷ js) (suc i) j k e = set_here js i j k e

kept_of : (s : Setup) (xs : List Job) (i : ℕ) (j : CoreJob) → All (IsJobKept s) xs →
    slice_get (map core_job xs) i ≡ Some j → 0 < most_of s j
kept_of s [] i j h e = let r : None ≡ Some j = e in cc
kept_of s (x ∷ xs) zero j h e = let r : Some (core_job x) ≡ Some j = e in let is : core_job x ≡ j =
    cc in subst (λ y. 0 < most_of s y) is
    (let k = h zero x (omega arith) in let l = steps_left k in let m = k.left in omega (arith, l, m))
kept_of s (x ∷ xs) (suc i) j h e = kept_of s xs i j (λ k d l. h (suc k) d (omega (arith, l))) e

-- a job that runs has a step left
some_rest : (a : Inside) (c : CoreView) (place : ℕ) (j : CoreJob) → view_of a ≡ c → IsCore a →
    slice_get c.jobs place ≡ Some j → 0 < most_of c.setup j
some_rest a c place j v h e = subst (λ (x : CoreView). 0 < most_of x.setup j) v
    (kept_of (setup_kept a) a.jobs.items place j h.kept (ap (λ (x : CoreView). slice_get x.jobs place) v ∙ e))

-- ---- what is left of it

-- so many steps may remain of the job of a number
pub left_job : (c : CoreView) (k : ℕ) (j : CoreJob) → job_in c.jobs k ≡ Some j →
    core_left c k ≡ most_of c.setup j
left_job c k j e = ap (λ o. unwrap_or (option_map (most_of c.setup) o) 0) e

left_none : (c : CoreView) (k : ℕ) → job_in c.jobs k ≡ None → core_left c k ≡ 0
left_none c k e = ap (λ o. unwrap_or (option_map (most_of c.setup) o) 0) e

rising_at : (a : Inside) (c : CoreView) → view_of a ≡ c → IsCore a → AreRising 0 c.jobs a.next_job
rising_at a c v h = subst (λ x. AreRising 0 x.jobs a.next_job) v h.numbered

-- a job that has ended has nothing left
pub removed_falls : {a : Inside} {c : CoreView} (new : CoreView) (place : ℕ) → view_of a ≡ c → IsCore a →
    new.jobs ≡ remove c.jobs place →
    (j : CoreJob) → slice_get c.jobs place ≡ Some j → core_left new j.number < core_left c j.number
removed_falls {a} {c} new place v h r j e =
    let up = rising_at a c v h in
    let x = left_job c j.number j (at_number 0 c.jobs a.next_job place j up e) in
    let y = left_none new j.number (ap (λ (js : List CoreJob). job_in js j.number) r
    ∙ gone 0 c.jobs a.next_job place j up e) in
    let l = some_rest a c place j v h e in
    omega (arith, x, y, l)

-- one that has fewer steps left in its place
pub set_falls : (a : Inside) (c new : CoreView) (place : ℕ) (j k : CoreJob) → view_of a ≡ c → IsCore a →
    slice_get c.jobs place ≡ Some j → new.setup ≡ c.setup → new.jobs ≡ set c.jobs place k →
    k.number ≡ j.number → most_of c.setup k < most_of c.setup j →
    core_left new j.number < core_left c j.number
set_falls a c new place j k v h e s r m l =
    let up = rising_at a c v h in
    let y = left_job new j.number k (ap (λ js. job_in js j.number) r ∙ (ap (job_in (set c.jobs place k)) (sym m)
    ∙ at_number 0 (set c.jobs place k) a.next_job place k (rising_set 0 c.jobs a.next_job place j k e m up)
    (set_here c.jobs place j k e))) in
    omega (
      arith,
      left_job c j.number j (at_number 0 c.jobs a.next_job place j up e),
      y,
      ap (λ (t : Setup). most_of t k) s,
      l,
    )

-- a job in whose place a kept one with fewer steps stands
pub placed_falls : (a : Inside) (c new : CoreView) (place : ℕ) (old job : Job) → view_of a ≡ c → IsCore a →
    slice_get (view_of a).jobs place ≡ Some (core_job old) → IsJobKept (setup_kept a) old →
    IsJobKept (setup_kept a) job → job.left < old.left → new.setup ≡ c.setup →
    new.jobs ≡ set c.jobs place (core_job job) → job.number ≡ old.number →
    (j : CoreJob) → slice_get c.jobs place ≡ Some j → core_left new j.number < core_left c j.number
placed_falls a c new place old job v h here kept next l s js m j g =
    let f : Some (core_job old) ≡ Some j = sym here ∙ (ap (λ x. slice_get x.jobs place) v ∙ g) in
    let is : core_job old ≡ j = cc in
    set_falls a c new place j (core_job job) v h g s js (m ∙ ap (λ x. x.number) is)
    (subst (λ x. most_of x.setup (core_job job) < most_of x.setup j) v
    (subst (λ x. most_of (setup_kept a) (core_job job) < most_of (setup_kept a) x) is
    (most_one (setup_kept a) old job kept next l)))

-- ---- the step of a job

-- the job of a number has the number
pub in_number : (js : List CoreJob) (k : ℕ) (j : CoreJob) → job_in js k ≡ Some j → j.number ≡ k
in_number [] k j e = let r : None ≡ Some j = e in cc
in_number (x ∷ js) k j e = elim (cases_Bool (x.number == k)) [
  | inl t ↦ (let g : Some x ≡ Some j = sym (ap (λ b. if b then Some x else job_in js k) t) ∙ e in
      let s : x ≡ j = cc in sym (ap (λ y. y.number) s) ∙ eqb-true x.number k t)
  | inr f ↦ in_number js k j (sym (ap (λ b. if b then Some x else job_in js k) f) ∙ e)
]

takes_next : (c : CoreView) (k : ℕ) (r : Reply) → TakesReply c k r →
    (a : Action) × ((next_in c k ≡ Acts a) × HasReply c k (Acts a) r)
takes_next c k r h = by (next_in c k) refl
  where
    by : (x : Coming) → next_in c k ≡ x → (a : Action) × ((next_in c k ≡ Acts a) × HasReply c k (Acts a) r)
    by (Acts a) e = (a, (e, (rw e at h)))
    by x e = absurd (rw e at h)

-- the job at a place, whose next action is this one
pub record StepHere (c : CoreView) (k place : ℕ) (r : Reply) (action : Action) : Type 0 where
  pub job : CoreJob
  pub here : slice_get c.jobs place ≡ Some job
  pub runs : job_in c.jobs k ≡ Some job
  pub first : IsFirst c.jobs k place
  pub coming : next_in c k ≡ Acts action
  pub number : job.number ≡ k
  pub next : action_next c.setup c.table job ≡ Some action
  pub replies : HasReply c k (Acts action) r

-- a reply that fits comes to a job that runs, is found by its number, and has this next action
pub step_here : {a : Inside} {c : CoreView} (k : ℕ) {place : ℕ} {job : Job} (r : Reply) (action :
    ActionValue) →
    view_of a ≡ c → IsCore a → TakesReply c k r →
    Some place ≡ position (λ (j : CoreJob). j.number == k) c.jobs → job ≡ get_or a.jobs.items place job →
    ((s : Setup) → IsJobKept s job → action_next s a.table (core_job job) ≡ Some (seen_action action)) →
    StepHere c k place r (seen_action action)
step_here {a} {c} k {place} {job} r action v h takes found at acts =
    let t = takes_next c k r takes in
    let s = acts_comes c k t.0 t.1.0 in
    let here : slice_get c.jobs place ≡ Some s.job = sym (found_at c.jobs k (sym found)) ∙ s.runs in
    let l : place < length (view_of a).jobs = subst (λ x. place < length x.jobs) (sym v)
    (slice_get_within c.jobs place s.job here) in
    let kept = kept_at a place job h l at in
    let f : Some (core_job job) ≡ Some s.job = sym (seen_at a place l at)
    ∙ (ap (λ x. slice_get x.jobs place) v ∙ here) in
    let is : core_job job ≡ s.job = cc in
    let next : action_next c.setup c.table s.job ≡ Some (seen_action action) =
    sym (ap (λ x. action_next x.setup x.table (core_job job)) v
    ∙ ap (action_next c.setup c.table) is) ∙ acts (setup_kept a) kept in
    let g : Some t.0 ≡ Some (seen_action action) = sym s.comes ∙ next in
    let same : t.0 ≡ seen_action action = cc in
    record {
      job = s.job;
      here = here;
      runs = s.runs;
      first = first_of_position c.jobs k place (sym found);
      coming = subst (λ x. next_in c k ≡ Acts x) same t.1.0;
      number = in_number c.jobs k s.job s.runs;
      next = next;
      replies = subst (λ x. HasReply c k (Acts x) r) same t.1.1;
    }

-- an action other than an idle drop's end is the head of those that are left
head_is : (s : Setup) (t : Kept) (j : CoreJob) (a : Action) → action_next s t j ≡ Some a → (a ≡ End → ⊥) →
    slice_get (rest_in s j) 0 ≡ Some a
head_is s t j a e on = elim (cases_Bool (is_idle t j)) [
  | inl b ↦ (let f = sym (ap (λ x. if x then Some End else slice_get (planned s j.plan) j.place) b)
      ∙ e in absurd (on cc))
  | inr b ↦ get-first (planned s j.plan) j.place
      ∙ (sym (ap (λ x. if x then Some End else slice_get (planned s j.plan) j.place) b) ∙ e)
]

-- a job whose next action is not its end has this action as the first that it has not yet made
pub step_first : {c : CoreView} {k place : ℕ} {r : Reply} {a : Action} → StepHere c k place r a →
    (a ≡ End → ⊥) → first_at c place ≡ Some a
step_first {c} {a} s on = ap (first_action c.setup) s.here ∙ head_is c.setup c.table s.job a s.next on

-- where the next action goes plainly, so does the first that the job has not yet made
pub step_plain : {c : CoreView} {k place : ℕ} {r : Reply} {a : Action} → StepHere c k place r a →
    goes_plainly (Some a) ≡ true → goes_plainly (first_at c place) ≡ true
step_plain {c} {k} {place} {r} {a} s p =
    ap goes_plainly (step_first s (λ e. false≢true (ap (λ x. goes_plainly (Some x)) (sym e) ∙ p))) ∙ p

-- a job whose step is told of runs
pub step_runs : (c : CoreView) (k : ℕ) (r : Reply) → TakesReply c k r →
    None ≡ position (λ (j : CoreJob). j.number == k) c.jobs → ⊥
step_runs c k r takes none =
    let t = takes_next c k r takes in
    let s = acts_comes c k t.0 t.1.0 in
    cc (sym (found_none c.jobs k (sym none)) ∙ s.runs)

-- an action that is no first or last move of an append and no end goes plainly
pub plain_by : (a : ActionValue) → (a ≡ act.WriteBody → ⊥) → (a ≡ act.SyncGate → ⊥) → (a ≡ act.End → ⊥) →
    goes_plainly (Some (seen_action a)) ≡ true
plain_by act.WriteBody b g e = absurd (b refl)
plain_by act.SyncGate b g e = absurd (g refl)
plain_by act.End b g e = absurd (e refl)
plain_by a b g e = refl

-- only an ask has a verdict
pub verdict_plain : (c : CoreView) (k : ℕ) (a : ActionValue) (u : ℕ) (counts : Counts) →
    HasReply c k (Acts (seen_action a)) (reply.Verdict u counts) → goes_plainly (Some (seen_action a)) ≡ true
verdict_plain c k act.WriteBody u counts h = absurd h
verdict_plain c k act.SyncGate u counts h = absurd h
verdict_plain c k act.End u counts h = absurd h
verdict_plain c k a u counts h = refl
