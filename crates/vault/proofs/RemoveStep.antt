-- A removal is a step of the machine.
use Rattle.vault.proofs.Words.{◌≡◌, ℕ, ◌<◌, List, Option, Some, None, refl, sym, subst, ◌∙◌, slice_get, slice_set, Cells, Provider, Removes, Remove, actions_left, Kind, PutJob, GetJob, DropJob, AuditJob, RepairJob, UpgradeJob, Job, advanced, State, setup_in, going_on, with_provider, next_action, ComesNext, Running, Task, Desk, AreHanded, devices, KeepsAll, IsFed, DeskStands, Comes, DeskMakesStep, IsTask, IsRunning}
use Rattle.std.proofs.Common.{length}
use Rattle.vault_core.specs.declared.reply.Reply.TheVariants as reply
use Rattle.vault.specs.declared.tasks.Task.TheVariants as task
use Rattle.vault.specs.declared.turn.Turn.TheVariants as turn
use Rattle.vault.proofs.Allowed.{IsAllowed, next_allowed}
use Rattle.vault.proofs.JobPlaces.{place_is}
use Rattle.vault.proofs.Ways.{set_same, working, is_handed, handed_on, goes_on}

module _ (w : State) (job : Job) (k o : ℕ) (next : next_action w job ≡ Some (Remove k o)) where
  not_allowed : (kind : Kind) → job.kind ≡ kind → IsAllowed (setup_in w).n kind (Remove k o)
  not_allowed kind is = rw is at (next_allowed w job (Remove k o) next)

  -- the provider is one of the setup's
  within : k < (setup_in w).n
  within = by_kind job.kind (next_allowed w job (Remove k o) next)
    where
      by_kind : (kind : Kind) → IsAllowed (setup_in w).n kind (Remove k o) → k < (setup_in w).n
      by_kind (PutJob name bytes) h = h
      by_kind (GetJob name) h = absurd h
      by_kind (DropJob name) h = h
      by_kind AuditJob h = absurd h
      by_kind RepairJob h = absurd h
      by_kind UpgradeJob h = absurd h

  -- a put and a drop work with the same as before
  runs_on : (r : Running) → IsRunning (setup_in w) r job → IsRunning (setup_in w) r (advanced job)
  runs_on r running = record { number = running.number; task = by_task r.task running.task }
    where
      by_task : (t : Task) → IsTask (setup_in w) job (actions_left (setup_in w) job) t →
          IsTask (setup_in w) (advanced job) (actions_left (setup_in w) (advanced job)) t
      by_task (task.Put t) is = record { name = is.name; kind = is.kind; bench = is.bench }
      by_task (task.Stream t) is =
          record { name = is.name; bytes = is.bytes; kind = is.kind; bench = is.bench; rows = is.rows }
      by_task (task.Get t) is = absurd (not_allowed (GetJob is.name) is.kind)
      by_task task.Drop is = record { name = is.name; kind = is.kind }
      by_task (task.Audit t) is = absurd (not_allowed AuditJob is.kind)
      by_task (task.Repair t) is = absurd (not_allowed RepairJob is.kind)
      by_task task.Upgrade is = absurd (not_allowed UpgradeJob is)

module _ (v : Desk) (w : State) (holds : Option Cells) (faults moment number k o : ℕ) (ps : List Provider)
    (stands : DeskStands v (devices holds faults ps) w) (comes : Comes v.core number (Remove k o)) where
  coming : ComesNext w number (Remove k o) None
  coming = comes.machine w stands.core

  -- the provider is there
  pub provider_there : k < length ps
  provider_there = is_handed v (devices holds faults ps) w k stands (within w coming.job k o coming.comes)

  -- the removal is a step of the machine
  pub remove_step : (v' : Desk) (ps' : List Provider) (p q : Provider) → Removes o p q →
      slice_get ps k ≡ Some p → ps' ≡ slice_set ps k q → v'.jobs.items ≡ v.jobs.items → KeepsAll v v' →
      v'.flight ≡ v.flight → IsFed v.core number reply.Done v'.core →
      DeskMakesStep w moment number turn.More v' (devices holds faults ps) (devices holds faults ps')
  remove_step v' ps' p q removes p_is ps_is jobs keeps flight fed =
      let job = coming.job in
      let f = working v (devices holds faults ps) w number (Remove k o) stands coming in
      let new : State = record (going_on w (advanced job)) { providers = with_provider w.providers k q } in
      let seen : p ≡ w.providers k = cc (sym p_is ∙ stands.devices.providers.each k provider_there) in
      goes_on v v' w new holds faults moment number f.place ps ps' (Remove k o) f.running f.running
      (advanced job) reply.Done stands coming
      (q, subst (λ (x : Provider). Removes o x q) seen removes, refl)
      (record { records = refl; journal = refl; area = refl; switching = refl; doubt = refl; append = refl; faults = refl; barred = refl })
      refl refl
      (runs_on w job k o coming.comes f.running f.is)
      (place_is v.jobs.items number ∙ f.at) f.there
      (jobs ∙ set_same v.jobs.items f.place f.running f.there)
      (subst (λ (l : List Provider). AreHanded l new) (sym ps_is)
      (handed_on ps w new k q stands.devices.providers provider_there refl (λ j. refl)))
      keeps flight fed tt
      (record {
        wants = comes.wants;
        number_is = refl;
        hand = refl;
        kind = refl;
        profile = refl;
        place_is = refl;
      })
