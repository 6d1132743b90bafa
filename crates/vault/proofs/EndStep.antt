-- The end of a job is a step of the machine.
use Rattle.vault.proofs.Words.{◌≡◌, ℕ, zero, suc, false, List, [], ◌∷◌, take, drop, Option, Some, None, refl, sym, ap, subst, ◌∙◌, arith, slice_get, nat_lt, not, flat_map, option_map, le-ltb, upto, bytes_of_symbols, Setup, End, Plan, actions_of, actions_by, actions_left, Ended, is_first_append, HasSums, symbols_given, Kind, GetJob, AuditJob, Job, without_job, pinned_stripes, State, setup_in, ended, Ends, GotBytes, next_action, is_idle_drop, number_of, cond_false, Counts, counted, PinnedFile, ComesNext, IsJobOf, is_audit_kind, asks_next, CoreJob, job_in, Tells, Running, Task, Turn, Desk, Devices, OpensFrom, machine_answer, place_in, IsStopped, DeskStands, Comes, DeskMakesStep, IsTask, handed_same}
use Rattle.std.specs.Prelude.{◌&&◌}
use Rattle.machine_defs.specs.Actions.{Action}
use Rattle.machine_defs.specs.Answers as answers
use Rattle.vault_core.specs.declared.reply.Reply.TheVariants as reply
use Rattle.vault.specs.declared.tasks.Task.TheVariants as task
use Rattle.vault.specs.Ending.{answer_at_end}
use Rattle.vault.proofs.CoreJobs.{CoreOf, core_of, shown_subject}
use Rattle.vault.proofs.Ways.{set_same}
use Rattle.vault.proofs.Stops.{ends_by}
use Rattle.vault.proofs.Ways.{at_place}

-- ---- what is left at an end

-- an action that is left is the first of those that are left
first_left : {X : Type 0} (xs : List X) (place : ℕ) (x : X) → slice_get xs place ≡ Some x →
    slice_get (drop place xs) 0 ≡ Some x
first_left [] place x is = (let e : None ≡ Some x = is in cc)
first_left (y ∷ ys) zero x is = is
first_left (y ∷ ys) (suc place) x is = first_left ys place x is

-- at the end of a get all stripes are opened
all_opened : (id total k : ℕ) (rest : List Action) → slice_get rest 0 ≡ Some End → OpensFrom id total k rest →
    k ≡ total
all_opened id total k [] first opens = (let e : None ≡ Some End = first in cc)
all_opened id total k (a ∷ rest) first opens =
    (let same : a ≡ End = (let e : Some a ≡ Some End = first in cc) in
    (subst (λ (b : Action). OpensFrom id total k (b ∷ rest)) same opens).0)

-- an audit that comes to its end is past its first append
past_first : (s : Setup) (j : Job) (place : ℕ) → slice_get (actions_by s j AuditJob) place ≡ Some End →
    nat_lt place 4 ≡ false
past_first s j (suc (suc (suc (suc place)))) is = le-ltb (suc (suc (suc (suc place)))) 4 (omega arith)
past_first s j _ is = absurd (let f : ⊥ = cc in f)

module _ (w : State) (job : Job) (next : next_action w job ≡ Some End) where
  listed : (kind : Kind) → job.kind ≡ kind → is_idle_drop w job kind ≡ false →
      slice_get (actions_of (setup_in w) job) job.place ≡ Some End
  listed kind is busy = sym (cond_false (is_idle_drop w job job.kind) (Some End)
      (slice_get (actions_of (setup_in w) job) job.place) (ap (is_idle_drop w job) is ∙ busy)) ∙ next

  past : job.kind ≡ AuditJob → is_first_append job ≡ false
  unfolding actions_of
  past is = past_first (setup_in w) job job.place
      (ap (λ (k : Kind). slice_get (actions_by (setup_in w) job k) job.place) (sym is)
      ∙ listed AuditJob is refl)

  -- the sums of an audit that comes to its end are those of all that it heard
  sums_are : (c : CoreJob) → IsJobOf (setup_in w) c job → job.kind ≡ AuditJob →
      HasSums (setup_in w) job c.sums
  sums_are c of is = of.judged
      (λ i. is_audit_kind (is i) && (not (past is i) && not (asks_next (listed AuditJob is refl i))))

  -- the number that it answers is the job's
  drawn_is : (c : CoreJob) → IsJobOf (setup_in w) c job → (subject : ℕ) → c.plan.subject ≡ subject →
      subject ≡ job.subject
  drawn_is c of subject drawn = sym drawn ∙ ap (λ (p : Plan PinnedFile). p.subject) of.plan
      ∙ shown_subject c.told job

  -- what a job answers at its end is what the machine says
  ends : (c : CoreJob) → IsJobOf (setup_in w) c job → (subject undecided : ℕ) (counts : Counts) →
      c.plan.subject ≡ subject → c.sums ≡ record { counts = counted counts; undecided = undecided }
      → (t : Task) → IsTask (setup_in w) job (actions_left (setup_in w) job) t →
      Ends w job job.kind (machine_answer (answer_at_end t subject undecided counts))
  ends c of subject undecided counts drawn sums (task.Get t) is =
      let whole : is.opened ≡ pinned_stripes (setup_in w) is.file =
      all_opened is.file.id (pinned_stripes (setup_in w) is.file) is.opened (actions_left (setup_in w) job)
      (first_left (actions_of (setup_in w) job) job.place End (listed (GetJob is.name) is.kind refl))
      is.opens in
      let bytes = is.bytes ∙ ap
      (λ k. flat_map (λ stripe. bytes_of_symbols (symbols_given job.given is.file.id stripe)) (upto k))
      whole in
      subst (λ k. Ends w job k (answers.Got (take t.length t.bytes.items))) (sym is.kind)
      (subst (λ ps. GotBytes w job ps (take t.length t.bytes.items)) (sym is.pinned)
      (λ i. take (is.length_is i) (bytes i)))
  ends c of subject undecided counts drawn sums task.Drop is =
      subst (λ k. Ends w job k answers.Dropped) (sym is.kind) tt
  ends c of subject undecided counts drawn sums (task.Audit t) is =
      subst (λ k. Ends w job k (answers.Audited subject undecided (counted counts))) (sym is.kind) (
        drawn_is c of subject drawn,
        subst (λ x. HasSums (setup_in w) job x) sums (sums_are c of is.kind),
      )
  ends c of subject undecided counts drawn sums (task.Repair t) is =
      subst (λ k. Ends w job k (answers.Repaired subject)) (sym is.kind) (drawn_is c of subject drawn)
  ends c of subject undecided counts drawn sums task.Upgrade is =
      subst (λ k. Ends w job k answers.Upgraded) (sym is) tt
  ends c of subject undecided counts drawn sums _ is = subst (λ (k : Kind). Ends w job k answers.Put)
      (sym is.kind) tt

-- such an answer is that of a job that came to its end
well : (number subject undecided : ℕ) (counts : Counts) (new : State) (t : Task) →
    Tells number reply.Done (Ended (machine_answer (answer_at_end t subject undecided counts))) new
well number subject undecided counts new (task.Put t) = tt
well number subject undecided counts new _ = tt

-- nor is it a fault of the disk
no_fault : (t : Task) (subject undecided : ℕ) (counts : Counts) →
    machine_answer (answer_at_end t subject undecided counts) ≡ answers.DiskFault → ⊥
no_fault (task.Put t) subject undecided counts e = cc
no_fault _ subject undecided counts e = cc

some_of : {X Y : Type 0} (f : X → Y) (o : Option X) (x : X) (y : Y) → o ≡ Some x → option_map f o ≡ Some y →
    f x ≡ y
some_of f o x y is e = (let h : Some (f x) ≡ Some y = ap (option_map f) (sym is) ∙ e in cc)

module _ (v : Desk) (d : Devices) (w : State) (moment number : ℕ) (stands : DeskStands v d w)
    (comes : Comes v.core number End) where
  coming : ComesNext w number End None
  coming = comes.machine w stands.core

  of_core : CoreOf (setup_in w) v.core.jobs number coming.job
  of_core = core_of (setup_in w) v.core.jobs w.jobs number coming.job
      (rw stands.core.setup at stands.core.jobs) coming.runs

  -- the end is a step of the machine
  pub end_step : (v2 : Desk) (t : Turn) (place subject undecided : ℕ) (counts : Counts) (r : Running)
      → option_map (λ (j : CoreJob). j.plan.subject) (job_in v.core.jobs number) ≡ Some subject
      → option_map (λ (j : CoreJob). j.sums) (job_in v.core.jobs number)
      ≡ Some (record { counts = counted counts; undecided = undecided })
      → place_in v.jobs.items number ≡ Some place → slice_get v.jobs.items place ≡ Some r
      → IsStopped v number reply.Done (answer_at_end r.task subject undecided counts) t v2 →
      DeskMakesStep w moment number t v2 d d
  end_step v2 t place subject undecided counts r subject_is sums_is at there stopped =
      let new = ended w coming.job in
      ends_by v v v2 w new d.holds d.faults moment number place d.providers d.providers End r r reply.Done
      (answer_at_end r.task subject undecided counts) t stands coming (
        ends w coming.job coming.comes of_core.job of_core.is subject undecided counts
            (some_of (λ (j : CoreJob). j.plan.subject) _ of_core.job subject of_core.runs subject_is)
            (some_of (λ (j : CoreJob). j.sums) _ of_core.job _ of_core.runs sums_is) r.task
            (at_place v d w number place End r stands coming at there).task,
        refl,
      )
      (record { records = refl; journal = refl; area = refl; switching = refl; doubt = refl; append = refl; faults = refl; barred = refl })
      (ap (without_job w.jobs) (number_of w.jobs number coming.job coming.runs))
      at there
      (record {
        core = refl;
        jobs = set_same v.jobs.items place r there;
        number = refl;
        heard = refl;
        keeps = record { setup = refl; master = refl; shape = refl; base = refl };
      })
      refl stopped
      (well number subject undecided counts new r.task)
      (handed_same d.providers w new stands.devices.providers refl (λ j. refl))
      (no_fault r.task subject undecided counts)
