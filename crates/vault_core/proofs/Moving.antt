-- A job as it is kept and a job as a contract sees it go on alike.
use Rattle.vault_core.proofs.Words.{◌≡◌, ℕ, ◌+◌, ◌-◌, ◌<◌, ◌≤◌, true, false, List, Some, None, length, map, set, get_or, refl, ap, sym, subst, ◌∙◌, arith, Global, slice_get, false≢true, slice_get_within, length-map, All-get_or, Setup, Action, WriteBody, SyncGate, End, ends_append, Counts, IsPadded, Inside, CoreJob, CoreView, rest_of, setup_kept, core_job, view_of, is_over, IsSteadyJob, IsJobKept, IsCore, reserved_of, starts_of, aim_of_wish, first_action, first_at, goes_plainly}
use Rattle.std.proofs.Common.{drop}
use Rattle.std.specs.Prelude.{Option}
use Rattle.std.specs.declared.vec.Vec.{Vec}
use Rattle.vault_core.specs.declared.job.Job.{Job}
use Rattle.vault_core.proofs.Goes.{moved_kept, judged_kept, judged_rest}
use Rattle.vault_core.proofs.Gates.{not_over}
use Rattle.vault_core.proofs.Kept.{seen_at, other_view, same_needs}

-- ---- the job at a place

-- where a job has a next action, its place is one among the jobs
pub within : (s : Setup) (js : List CoreJob) (place : ℕ) (a : Action) →
    first_action s (slice_get js place) ≡ Some a → place < length js
within s js place a h = by (slice_get js place) refl h
  where
    by : (o : Option CoreJob) → slice_get js place ≡ o → first_action s o ≡ Some a → place < length js
    by None e f = let g = f in cc
    by (Some j) e f = slice_get_within js place j e

plain_some : (o : Option Action) → goes_plainly o ≡ true → (a : Action) × (o ≡ Some a)
plain_some None h = absurd (false≢true h)
plain_some (Some a) h = (a, refl)

-- the job at a place of a core is a job as it is kept
pub kept_at : (a : Inside) (place : ℕ) (job : Job) → IsCore a → place < length (view_of a).jobs →
    job ≡ get_or a.jobs.items place job → IsJobKept (setup_kept a) job
kept_at a place job h l e =
    let m : length (map (core_job) a.jobs.items) ≡ length a.jobs.items = simp length-map in
    subst (IsJobKept (setup_kept a)) (sym e)
    (All-get_or (IsJobKept (setup_kept a)) a.jobs.items place job (omega (arith, l, m)) h.kept)

-- ---- an action that is no first or fourth move of an append, and no end

plain_some_kind : (a : Action) → goes_plainly (Some a) ≡ true → ((a ≡ End → ⊥) × (ends_append a ≡ false))
plain_some_kind WriteBody h = absurd (false≢true h)
plain_some_kind SyncGate h = absurd (false≢true h)
plain_some_kind End h = absurd (false≢true h)
plain_some_kind a h = ((λ e. cc), refl)

-- the job at a place, whose next action is a plain one
pub record PlainHere (a : Inside) (place : ℕ) (job : Job) : Type 0 where
  pub here : slice_get (view_of a).jobs place ≡ Some (core_job job)
  pub kept : IsJobKept (setup_kept a) job
  pub going : is_over job.cursor ≡ false
  pub action : Action
  pub head : slice_get (rest_of a.setup.n job) 0 ≡ Some action
  pub gateless : ends_append action ≡ false

-- a core's job whose next action goes plainly is kept, not over, and at no gate
pub plain_here : {a : Inside} {c : CoreView} (place : ℕ) {job : Job} → view_of a ≡ c → IsCore a →
    job ≡ get_or a.jobs.items place job → goes_plainly (first_at c place) ≡ true → PlainHere a place job
plain_here {a} place {job} v h e plain =
    let p =
    rw (← v) at plain in
    let some = plain_some (first_at (view_of a) place) p in
    let l = within (setup_kept a) (view_of a).jobs place some.0 some.1 in
    let here = seen_at a place l e in
    let kept = kept_at a place job h l e in
    let head =
    ap (λ xs. slice_get xs 0) kept.listed
    ∙ (sym (ap (first_action (setup_kept a)) here) ∙ some.1) in
    let r = plain_some_kind some.0 (sym (ap goes_plainly some.1) ∙ p) in
    record {
      here = here;
      kept = kept;
      going = not_over a.setup.n job some.0 kept.steady head r.0;
      action = some.0;
      head = head;
      gateless = r.1;
    }

set_view : (a : Inside) (c : CoreView) (v : Vec Job Global) (place : ℕ) (job before : Job) (o : Option ℕ)
    (f : CoreJob → CoreJob) → view_of a ≡ c →
    v.items ≡ set a.jobs.items place job → slice_get (view_of a).jobs place
    ≡ Some (core_job before) → core_job job ≡ f (core_job before) →
    (j : CoreJob) → slice_get c.jobs place ≡ Some j →
    view_of (record a { jobs = v; append = o }) ≡ record c { jobs = set c.jobs place (f j); append = o }
set_view a c v place job before o f view e here s j g =
    let same : Some (core_job before) ≡ Some j = sym here
    ∙ (ap (λ (x : CoreView). slice_get x.jobs place) view ∙ g) in
    let is : core_job before ≡ j = cc in
    other_view a v place job o e s
    ∙ (ap (λ (x : CoreView). record x { jobs = set x.jobs place (f (core_job before)); append = o })
    view
    ∙ ap (λ (k : CoreJob). record c { jobs = set c.jobs place (f k); append = o }) is)

-- the same where the append in flight stays
pub set_view_same : (a : Inside) {c : CoreView} (v : Vec Job Global) (place : ℕ) (job before : Job)
    (f : CoreJob → CoreJob) → view_of a ≡ c →
    v.items ≡ set a.jobs.items place job → slice_get (view_of a).jobs place
    ≡ Some (core_job before) → core_job job ≡ f (core_job before) →
    (j : CoreJob) → slice_get c.jobs place ≡ Some j →
    view_of (record a { jobs = v }) ≡ record c { jobs = set c.jobs place (f j) }
set_view_same a {c} v place job before f view e here s j g =
    set_view a c v place job before a.append f view e here s j g
    ∙ ap (λ (o : Option ℕ). record c { jobs = set c.jobs place (f j); append = o })
    (ap (λ (x : CoreView). x.append) view)

-- ---- a job that went on

-- a job that went on is kept, and needs no more than before
pub record WentOn (s : Setup) (old new : Job) : Type 0 where
  pub kept : IsJobKept s new
  pub room : (v : ℕ) → reserved_of v s (core_job new) ≤ reserved_of v s (core_job old)
  pub starts : starts_of s (core_job new) ≤ starts_of s (core_job old)

-- with as many appends as before, it does
pub went_needs : {s : Setup} {old new : Job} → IsJobKept s old → IsJobKept s new → new.wish ≡ old.wish →
    new.appends ≡ old.appends → WentOn s old new
went_needs {s} {old} {new} before after w e =
    let n = same_needs s (core_job old) (core_job new) (ap aim_of_wish w)
    (sym after.appends ∙ (e ∙ before.appends)) in
    record { kept = after; room = n.0; starts = n.1 }

-- a job that made an action which ends no append
pub went_on : {s : Setup} {old new : Job} {x : Action} → IsJobKept s old →
    slice_get (rest_of s.n old) 0 ≡ Some x → ends_append x ≡ false → IsSteadyJob s.n new →
    rest_of s.n new ≡ drop 1 (rest_of s.n old) →
    new ≡ record old { cursor = new.cursor; place = old.place + 1; left = old.left - 1 } → WentOn s old new
went_on {s} {old} {new} {x} kept head plain steady rest same =
    went_needs kept (subst (IsJobKept s) (sym same) (moved_kept s old new.cursor x kept (rw same at steady)
    (ap (rest_of s.n) (sym same) ∙ rest) head plain)) (ap (λ j. j.wish) same) (ap (λ j. j.appends) same)

-- the job at a place that takes its sums is kept
pub judged_here : {a : Inside} {c : CoreView} (place : ℕ) {job : Job} (u : ℕ) {cs : Counts} → view_of a ≡ c →
    IsCore a → job ≡ get_or a.jobs.items place job → goes_plainly (first_at c place) ≡ true →
    cs.n ≡ c.setup.n → IsPadded cs → IsJobKept (setup_kept a) (record job { undecided = u; counts = cs })
judged_here {a} {c} place {job} u {cs} v h e plain n padded = judged_kept (setup_kept a) job u cs
    (plain_here place v h e plain).kept (n ∙ sym (ap (λ x. x.setup.n) v)) padded

-- an audit that took its sums and made its last ask
pub went_judged : {s : Setup} {old new : Job} {x : Action} (u : ℕ) (cs : Counts) → IsJobKept s old →
    slice_get (rest_of s.n old) 0 ≡ Some x → ends_append x ≡ false →
    IsJobKept s (record old { undecided = u; counts = cs }) → IsSteadyJob s.n new →
    rest_of s.n new ≡ drop 1 (rest_of s.n (record old { undecided = u; counts = cs })) → new ≡ record old {
      undecided = u;
      counts = cs;
      cursor = new.cursor;
      place = old.place + 1;
      left = old.left - 1;
    } → WentOn s old new
went_judged {s} {old} {new} {x} u cs kept head plain mid steady rest same =
    went_needs kept (went_on mid (ap (λ xs. slice_get xs 0) (judged_rest s.n old u cs) ∙ head) plain steady
    rest same).kept (ap (λ j. j.wish) same) (ap (λ j. j.appends) same)
