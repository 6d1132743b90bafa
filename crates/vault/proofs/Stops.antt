-- A job ends by its step.
use Rattle.vault.proofs.Words.{entry_in, IsSameBeyond, IsSamePast, ◌≡◌, ℕ, suc, List, ◌∷◌, Option, Some, None, refl, sym, ap, subst, ◌∙◌, slice_get, slice_set, remove, get-set_there, Cells, Provider, Setup, actions_left, Ended, heard_by, heard_by_kind, Job, job_of, without_job, State, setup_in, CoreView, ComesNext, Tells, Reply, Running, Task, Answer, Turn, Desk, AreHanded, Devices, devices, machine_answer, place_in, heard_of, KeepsAll, IsFed, IsStopped, DeskStands, DeskMakesStep, IsTask, IsRunning, AreRunning}
use Rattle.std.specs.Prelude.{◌≢◌}
use Rattle.machine_defs.specs.Actions.{Action}
use Rattle.machine_defs.specs.States.{Append}
use Rattle.machine_defs.specs.Answers as answers
use Rattle.machine_defs.specs.Heard.{Entry}
use Rattle.machine_defs.specs.Steps.{Acts}
use Rattle.vault.specs.declared.tasks.Task.TheVariants as task
use Rattle.vault.specs.declared.turn.Turn.TheVariants as turn
use Rattle.vault.proofs.JobPlaces.{at_number, at_set, place_is, taken_out}
use Rattle.vault.proofs.Ways.{happens_by, IsLeft, IsQuiet, stands_left, left_quiet, at_place, entry_kept, same_beyond}
use Rattle.vault.proofs.Hands.{hands_without}

-- ---- the job in its list

-- it has the same place
pub place_set : (rs : List Running) (k p : ℕ) (r r' : Running) → place_in rs k ≡ Some p
    → slice_get rs p ≡ Some r → r'.number ≡ r.number → place_in (slice_set rs p r') k ≡ Some p
place_set rs k p r r' at there same =
    place_is (slice_set rs p r') k ∙ at_set rs k p r r' there same ∙ sym (place_is rs k) ∙ at

removed_same : {X : Type 0} (xs : List X) (p : ℕ) (x : X) → remove (slice_set xs p x) p ≡ remove xs p
removed_same (y ∷ ys) (suc p) x = ap (λ l. y ∷ l) (removed_same ys p x)
removed_same _ _ x = refl

-- what a job heard is what the machine says of it
pub heard_is : (s : Setup) (r : Running) (j : Job) → IsRunning s r j → heard_of r.task ≡ heard_by (Some j)
heard_is s r j running = by_task r.task running.task
  where
    by_task : (t : Task) → IsTask s j (actions_left s j) t → heard_of t ≡ heard_by (Some j)
    by_task (task.Get t) is = is.heard ∙ ap (heard_by_kind j) (sym is.kind)
    by_task (task.Audit t) is = is.heard ∙ ap (heard_by_kind j) (sym is.kind)
    by_task task.Upgrade is = ap (heard_by_kind j) (sym is)
    by_task _ is = ap (heard_by_kind j) (sym is.kind)

-- ---- the step

-- a vault but for what one of its jobs works with
pub record IsAside (v v' : Desk) (place : ℕ) (r r' : Running) : Type 0 where
  pub core : v'.core ≡ v.core
  pub jobs : v'.jobs.items ≡ slice_set v.jobs.items place r'
  pub number : r'.number ≡ r.number
  pub heard : heard_of r'.task ≡ heard_of r.task
  pub keeps : KeepsAll v v'

-- what is left of the jobs, and what the turn tells
pub record Leaves (v2 : Desk) (w : State) (number : ℕ) (reply : Reply) (answer : Answer) (t : Turn)
    (core : CoreView) (before : List Running) (place : ℕ) : Type 0 where
  pub heard : List Entry
  pub turn_is : t ≡ turn.Done (record { answer = answer; heard = heard })
  pub heard_is : heard ≡ heard_by (job_of w.jobs number)
  pub removed : v2.jobs.items ≡ remove before place
  pub jobs : AreRunning (setup_in w) v2.jobs.items (without_job w.jobs number)
  pub fed : IsFed core number reply v2.core

module _ (v v1 : Desk) (d : Devices) (w : State) (number place : ℕ) (action : Action) (r r' : Running)
    (stands : DeskStands v d w) (next : ComesNext w number action None)
    (at : place_in v.jobs.items number ≡ Some place) (there : slice_get v.jobs.items place ≡ Some r)
    (aside : IsAside v v1 place r r') where
  at_first : at_number v.jobs.items number ≡ Some place
  at_first = sym (place_is v.jobs.items number) ∙ at

  at_aside : place_in v1.jobs.items number ≡ Some place
  at_aside = ap (λ (l : List Running). place_in l number) aside.jobs
      ∙ place_set v.jobs.items number place r r' at there aside.number

  -- a job that was stopped leaves the vault with what it heard, and the machine's other jobs
  pub is_left : (v2 : Desk) (reply : Reply) (answer : Answer) (t : Turn) →
      IsStopped v1 number reply answer t v2 → Leaves v2 w number reply answer t v.core v.jobs.items place
  is_left v2 reply answer t stopped =
      let same : stopped.place ≡ place = cc (sym stopped.found ∙ at_aside) in
      let one : stopped.running ≡ r' = cc (sym stopped.there ∙ ap (slice_get v1.jobs.items) same
      ∙ (ap (λ (l : List Running). slice_get l place) aside.jobs ∙ get-set_there v.jobs.items place r r' there)) in
      let removed : v2.jobs.items ≡ remove v.jobs.items place =
      stopped.jobs ∙ (λ i. remove (aside.jobs i) (same i)) ∙ removed_same v.jobs.items place r' in
      record {
        heard = heard_of stopped.running.task;
        turn_is = stopped.turn_is;
        heard_is = ap (λ x. heard_of x.task) one ∙ aside.heard
            ∙ heard_is (setup_in w) r next.job (at_place v d w number place action r stands next at there) ∙
            ap heard_by (sym next.runs);
        removed = removed;
        jobs = rw (← removed) at (taken_out (setup_in w) v.jobs.items w.jobs 0 w.next_job number place
            stands.core.sound.numbered stands.jobs at_first);
        fed = rw aside.core at stopped.fed;
      }

-- one end is one answer
same_answer : (a b : answers.Answer) → Ended a ≡ Ended b → a ≡ b
same_answer a b e = cc

-- a job ends, and another state is left
pub ends_left : (v v1 v2 : Desk) (w new : State) (holds holds' : Option Cells)
    (faults faults' moment number place : ℕ) (ps ps' : List Provider) (action : Action) (r r' : Running)
    (reply : Reply) (answer : Answer) (t : Turn)
    → DeskStands v (devices holds faults ps) w → (next : ComesNext w number action None) →
    Acts w next.job action (Ended (machine_answer answer)) new → IsLeft v1 w new holds' faults' ps' →
    new.jobs ≡ without_job w.jobs number
    → place_in v.jobs.items number ≡ Some place → slice_get v.jobs.items place ≡ Some r →
    IsAside v v1 place r r'
    → IsStopped v1 number reply answer t v2 → Tells number reply (Ended (machine_answer answer)) new
    → ((a : Append) → new.append ≡ Some a → a.job ≡ number → entry_in v.core number ≡ Some a.entry)
    → (Ended (machine_answer answer) ≢ Ended answers.DiskFault →
    IsSameBeyond new (devices holds faults ps) (devices holds' faults' ps'))
    → (Ended (machine_answer answer) ≡ Ended answers.DiskFault →
    IsSamePast w number (devices holds faults ps) (devices holds' faults' ps'))
    → DeskMakesStep w moment number t v2 (devices holds faults ps) (devices holds' faults' ps')
ends_left v v1 v2 w new holds holds' faults faults' moment number place ps ps' action r r' reply answer t stands next acts left jobs at there aside stopped tells entry beyond torn =
    let gone = is_left v v1 (devices holds faults ps) w number place action r r' stands next at there aside v2
    reply answer t stopped in
    let happens = happens_by w new moment number action
    (Ended (machine_answer answer)) stands.core.is_open stands.core.none_alone next acts in
    let core = gone.fed.step w new (Ended (machine_answer answer)) moment stands.core happens
    (record { tells = tells; entry = entry }) in
    let are : AreRunning (setup_in w) v2.jobs.items new.jobs =
    subst (λ (js : List Job). AreRunning (setup_in w) v2.jobs.items js) (sym jobs) gone.jobs in
    let keeps : KeepsAll v v2 = record {
      setup = stopped.keeps.setup ∙ aside.keeps.setup;
      master = stopped.keeps.master ∙ aside.keeps.master;
      shape = stopped.keeps.shape ∙ aside.keeps.shape;
      base = stopped.keeps.base ∙ aside.keeps.base;
    } in
    subst (λ (x : Turn). DeskMakesStep w moment number x v2 (devices holds faults ps)
    (devices holds' faults' ps')) (sym gone.turn_is)
    (record {
      state = new;
      happens = happens;
      stands = stands_left v v1 v2 w new holds holds' faults faults' ps ps' stands left core keeps
          stopped.flight are (hands_without (setup_in w) v.core v2.core v.jobs.items w.jobs stands.streams new
          core gone.fed.streams number place r (sym (place_is v.jobs.items number) ∙ at) there v2.jobs.items
          gone.removed jobs);
      heard = gone.heard_is;
      beyond = beyond;
      torn = torn;
    })

-- a job ends, and another state is left of it alone, and of the providers
pub ends_by : (v v1 v2 : Desk) (w new : State) (holds : Option Cells) (faults moment number place : ℕ)
    (ps ps' : List Provider) (action : Action) (r r' : Running) (reply : Reply) (answer : Answer) (t : Turn)
    → DeskStands v (devices holds faults ps) w → (next : ComesNext w number action None) →
    Acts w next.job action (Ended (machine_answer answer)) new → IsQuiet w new →
    new.jobs ≡ without_job w.jobs number
    → place_in v.jobs.items number ≡ Some place → slice_get v.jobs.items place ≡ Some r →
    IsAside v v1 place r r' → v1.flight ≡ v.flight
    → IsStopped v1 number reply answer t v2 → Tells number reply (Ended (machine_answer answer)) new →
    AreHanded ps' new → (machine_answer answer ≡ answers.DiskFault → ⊥)
    → DeskMakesStep w moment number t v2 (devices holds faults ps) (devices holds faults ps')
ends_by v v1 v2 w new holds faults moment number place ps ps' action r r' reply answer t stands next acts quiet jobs at there aside flight stopped tells handed whole =
    ends_left v v1 v2 w new holds holds faults faults moment number place ps ps' action r r' reply answer t stands
    next acts (left_quiet v v1 w new holds faults ps ps' stands quiet handed flight) jobs at there aside stopped
    tells (λ a is. entry_kept v.core w number stands.core a (sym quiet.append ∙ is))
    (λ ended. same_beyond new holds faults ps ps')
    (λ e. absurd (whole (same_answer (machine_answer answer) answers.DiskFault e)))
