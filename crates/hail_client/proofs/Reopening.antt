-- A reopening by a client, as an event of the machine.
use Rattle.hail_client.proofs.Words.{◌≡◌, ℕ, ◌<◌, ◌≤◌, List, Option, Some, None, Result, IsSome, IsErrAnd, false≢true, Cells, Provider, Reopen, Opened, Refused, TooFewProviders, State, StartFault, Vault, devices, provider_count, IsStreamless, Client, ReopenFault, client_next_job, with_vault, without_vault, reopen_outcome, ClientStands, MakesEvent, err-is}
use Rattle.std.proofs.Common.{length, Ok, Err}
use Rattle.vault_open.specs.Disks.{StartsOver}
use Rattle.vault.specs.Started.{IsStarted}
use Rattle.hail_client.specs.declared.fault.ReopenFault.TheVariants as reopen_fault
use Rattle.hail_client.proofs.Standing.{devices-of, sound-of, next-of}
use Rattle.hail_client.proofs.Reopened as reopened

module _ (w : State) (moment : ℕ) (c left : Client) (left_is : left ≡ without_vault (client_next_job c)) where
  -- a client's reopening that fails, by the disk or by what it read, is one that the machine refuses
  pub refused-event : {T : Type 0} (old : Option Cells) {new : Option Cells} {f g : ℕ} (ps : List Provider)
      (why : StartFault) (result : Result Unit ReopenFault) → IsSome old →
      IsErrAnd result (λ e. e ≡ reopen_fault.NotOpened why) → StartsOver {T = T} old new f g (Err why) →
      ClientStands c (devices old f ps) w →
      MakesEvent w moment Reopen (reopen_outcome result) left (devices new g ps)
  refused-event None ps why result told is start S = absurd (false≢true told)
  refused-event (Some old) {new} {f} {g} ps why result told is start S =
      rw (left_is, err-is result (reopen_fault.NotOpened why) is)
      (reopened.fault-event w moment (client_next_job c) old f g ps
      (sound-of c.vault c.alone c.next_job (devices (Some old) f ps) w S)
      (devices-of c.vault c.alone c.next_job (devices (Some old) f ps) w S)
      (next-of c.vault c.alone c.next_job (devices (Some old) f ps) w S) start.disk.called.cause.never_falls
      why start)

  -- a client's reopening with too few providers is one that the machine refuses
  pub few-event : {T : Type 0} {x : T} (old : Option Cells) {new : Option Cells} {f g : ℕ}
      (ps : List Provider) {v : Vault} → IsSome old → StartsOver old new f g (Ok x) →
      IsStarted v old new g left.next_job → length ps < provider_count v →
      ClientStands c (devices old f ps) w →
      MakesEvent w moment Reopen (Refused TooFewProviders) left (devices new g ps)
  few-event None ps told start s few S = absurd (false≢true told)
  few-event (Some old) {new} {f} {g} ps {v} told start s few S =
      rw left_is (reopened.few-event w moment (client_next_job c) old f g ps
      (sound-of c.vault c.alone c.next_job (devices (Some old) f ps) w S)
      (devices-of c.vault c.alone c.next_job (devices (Some old) f ps) w S)
      (next-of c.vault c.alone c.next_job (devices (Some old) f ps) w S) start.disk.called.cause.never_falls
      (rw left_is at s) (start.disk.synced tt) few)

  -- a client's reopening with enough providers is one that the machine makes
  pub opened-event : {T : Type 0} {x : T} (old : Option Cells) {new : Option Cells} {f g : ℕ}
      (ps : List Provider) {v : Vault} → IsSome old → StartsOver old new f g (Ok x) →
      IsStarted v old new g left.next_job → provider_count v ≤ length ps → (streamless : IsStreamless v) →
      ClientStands c (devices old f ps) w →
      MakesEvent w moment Reopen Opened (with_vault v streamless left.next_job) (devices new g ps)
  opened-event None ps told start s enough streamless S = absurd (false≢true told)
  opened-event (Some old) {new} {f} {g} ps {v} told start s enough streamless S =
      rw left_is (reopened.opened-event w moment (client_next_job c) old f g ps
      (sound-of c.vault c.alone c.next_job (devices (Some old) f ps) w S)
      (devices-of c.vault c.alone c.next_job (devices (Some old) f ps) w S)
      (next-of c.vault c.alone c.next_job (devices (Some old) f ps) w S) start.disk.called.cause.never_falls
      (rw left_is at s) (start.disk.synced tt) enough streamless)
