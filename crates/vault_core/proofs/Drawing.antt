-- A job that begins an append takes its number.
use Rattle.vault_core.proofs.Words.{◌≡◌, ℕ, ◌+◌, ◌-◌, false, Some, set, get_or, refl, ap, sym, ◌∙◌, Global, slice_get, Setup, WriteBody, Kept, Inside, CoreJob, CoreView, rest_of, drawn_tasks, setup_kept, core_job, view_of, is_over, IsSteadyJob, IsJobKept, IsCore, first_at, stepped_job, number_as, number_drawn, drawn, aim_of_wish}
use Rattle.std.proofs.Common.{drop}
use Rattle.std.specs.declared.vec.Vec.{Vec}
use Rattle.vault_core.specs.declared.job.Job.{Job}
use Rattle.vault_core.proofs.Gates.{action_at, first_is, cursor_at, not_over}
use Rattle.vault_core.proofs.Goes.{drawn_kept}
use Rattle.vault_core.proofs.Moving.{WentOn, went_on, went_needs}
use Rattle.vault_core.proofs.Gating.{action_here}
use Rattle.vault_core.proofs.Kept.{other_view}

-- the job at a place, whose next action is the first move of an append
pub record StartHere (a : Inside) (place : ℕ) (job : Job) : Type 0 where
  pub here : slice_get (view_of a).jobs place ≡ Some (core_job job)
  pub kept : IsJobKept (setup_kept a) job
  pub starts : slice_get (rest_of a.setup.n job) 0 ≡ Some WriteBody

-- a core's job whose next action writes a body is at a place, is kept, and is at such a write
pub start_here : {a : Inside} {c : CoreView} (place : ℕ) {job : Job} → view_of a ≡ c → IsCore a →
    job ≡ get_or a.jobs.items place job → first_at c place ≡ Some WriteBody → StartHere a place job
start_here {a} {c} place {job} v h e f =
    let r = action_here place v h e f in
    record { here = r.1; kept = r.2; starts = r.3 }

-- a job that has taken its number: it is kept, and about to make the same move
pub record DrawnHere (s : Setup) (mid : Job) : Type 0 where
  pub kept : IsJobKept s mid
  pub starts : slice_get (rest_of s.n mid) 0 ≡ Some WriteBody
  pub going : is_over mid.cursor ≡ false

drawn_mid : (s : Setup) (old mid : Job) (k : ℕ) (t : Kept) → IsJobKept s old →
    slice_get (rest_of s.n old) 0 ≡ Some WriteBody → mid.subject ≡ k →
    mid.tasks.items ≡ drawn_tasks k old.wish old.tasks.items →
    mid ≡ record old { subject = mid.subject; tasks = mid.tasks } →
    k ≡ number_as t old.appends old.subject (aim_of_wish old.wish) → DrawnHere s mid
drawn_mid s old mid k t kept starts subject tasks same number =
    let now = rw (← same) at (drawn_kept s old mid.subject mid.tasks kept
    (tasks ∙ ap (λ (i : ℕ). drawn_tasks i old.wish old.tasks.items) (sym subject)) t starts
    (subject ∙ number)) in
    let begins = first_is s.n mid now.steady ∙ ap (λ a. Some a) (ap (λ x. action_at x.wish x.cursor) same ∙
    cursor_at kept.steady starts) in
    record { kept = now; starts = begins; going = not_over s.n mid WriteBody now.steady begins (λ e. cc) }

-- two jobs that are seen alike draw the same number
number_alike : (s : Setup) (t : Kept) (i j : Job) → IsJobKept s i → IsJobKept s j → core_job i ≡ core_job j →
    number_as t i.appends i.subject (aim_of_wish i.wish) ≡ number_as t j.appends j.subject
    (aim_of_wish j.wish)
number_alike s t i j a b e = ap (λ n. number_as t n i.subject (aim_of_wish i.wish)) a.appends
    ∙ (ap (number_drawn s t) e
    ∙ ap (λ n. number_as t n j.subject (aim_of_wish j.wish)) (sym b.appends))

-- so is the job at a place that has taken the number that a core told
pub drawn_here : {a : Inside} {c : CoreView} (place : ℕ) {old index mid : Job} {k : ℕ} → view_of a ≡ c →
    IsCore a → old ≡ get_or a.jobs.items place old → index ≡ get_or a.jobs.items place index →
    first_at c place ≡ Some WriteBody → mid.subject ≡ k →
    mid.tasks.items ≡ drawn_tasks k old.wish old.tasks.items →
    mid ≡ record old { subject = mid.subject; tasks = mid.tasks } →
    k ≡ number_as c.table index.appends index.subject (aim_of_wish index.wish) → DrawnHere (setup_kept a) mid
drawn_here {a} {c} place {old} {index} {mid} {k} v h e f first subject tasks same number =
    let here = start_here place v h e first in
    let other = start_here place v h f first in
    let g = sym other.here ∙ here.here in
    drawn_mid (setup_kept a) old mid k c.table here.kept here.starts subject tasks same
    (number ∙ number_alike (setup_kept a) c.table index old other.kept here.kept cc)

-- one action later it needs no more than before
pub drawn_needs : {s : Setup} {old mid : Job} → IsJobKept s old → DrawnHere s mid →
    mid ≡ record old { subject = mid.subject; tasks = mid.tasks } → (new : Job) → IsSteadyJob s.n new →
    rest_of s.n new ≡ drop 1 (rest_of s.n mid) →
    new ≡ record mid { cursor = new.cursor; place = mid.place + 1; left = mid.left - 1 } → WentOn s old new
drawn_needs {s} {old} {mid} kept drawn_ same new steady rest moved =
    went_needs kept (went_on drawn_.kept drawn_.starts refl steady rest moved).kept (ap (λ x. x.wish) moved ∙
    ap (λ x. x.wish) same) (ap (λ x. x.appends) moved ∙ ap (λ x. x.appends) same)

-- a contract sees of it a job that has begun its append with this number
pub seen_drawn : (old : Job) {mid : Job} {k : ℕ} → mid.subject ≡ k →
    mid ≡ record old { subject = mid.subject; tasks = mid.tasks } → (new : Job) →
    new ≡ record mid { cursor = new.cursor; place = mid.place + 1; left = mid.left - 1 } →
    core_job new ≡ drawn (core_job old) k
seen_drawn old subject same new moved =
    ap core_job moved ∙ (ap (λ x. stepped_job (core_job x)) same ∙ ap (drawn (core_job old)) subject)

-- a core whose job began its append looks as the contract of that step says
pub begun_view : (a : Inside) {c : CoreView} (v : Vec Job Global) (place : ℕ) {k : ℕ} (old new : Job) {index
    : Job} →
    view_of a ≡ c → v.items ≡ set a.jobs.items place new →
    slice_get (view_of a).jobs place ≡ Some (core_job old) →
    slice_get (view_of a).jobs place ≡ Some (core_job index) → IsJobKept (setup_kept a) index →
    core_job new ≡ drawn (core_job old) k →
    k ≡ number_as c.table index.appends index.subject (aim_of_wish index.wish) → (j : CoreJob) →
    slice_get c.jobs place ≡ Some j →
    view_of (record a { jobs = v; append = Some new.number })
    ≡ record c {
      jobs = set c.jobs place (drawn j (number_drawn c.setup c.table j));
      append = Some j.number;
    }
begun_view a {c} v place {k} old new {index} view e here here2 kept s num j g =
    let at : slice_get (view_of a).jobs place ≡ Some j = ap (λ (x : CoreView). slice_get x.jobs place) view
    ∙ g in
    let one : Some (core_job old) ≡ Some j = sym here ∙ at in
    let two : Some (core_job index) ≡ Some j = sym here2 ∙ at in
    let is_old : core_job old ≡ j = cc in
    let is_index : core_job index ≡ j = cc in
    let is_number : k ≡ number_drawn c.setup c.table j = num
    ∙ (ap (λ (n : ℕ). number_as c.table n index.subject (aim_of_wish index.wish)) kept.appends
    ∙ (ap (λ (x : CoreView). number_drawn x.setup c.table (core_job index)) view
    ∙ ap (number_drawn c.setup c.table) is_index)) in
    let is_new : core_job new ≡ drawn j (number_drawn c.setup c.table j) =
    s ∙ (λ i. drawn (is_old i) (is_number i)) in
    other_view a v place new (Some new.number) e is_new
    ∙ (ap (λ (x : CoreView). record x {
      jobs = set x.jobs place (drawn j (number_drawn c.setup c.table j));
      append = Some new.number;
    }) view
    ∙ ap (λ (m : ℕ). record c {
      jobs = set c.jobs place (drawn j (number_drawn c.setup c.table j));
      append = Some m;
    }) (ap (λ (x : CoreJob). x.number) is_new))
