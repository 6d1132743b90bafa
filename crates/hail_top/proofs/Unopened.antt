-- How a command ends for which no vault was opened.
use Rattle.hail_top.proofs.Words.{◌≡◌, ℕ, ◌<◌, Err, length, refl, subst, arith, Seen, Ending, setup_in_effect, Unstarted, disk_fault, not_set_up, bad_journal, Unopened, IsUnopened, unopened_ending}
use Rattle.std.specs.Prelude.{IsErrOf}
use Rattle.vault_open.specs.Disks.{ReadsDisk}
use Rattle.command_jobs.specs.Opened.{HasReadStore}
use Rattle.command_defs.specs.Opens.{too_few_providers, no_memory}
use Rattle.command_jobs.specs.declared.open.Unopened.TheVariants as unopened
use Rattle.hail_top.proofs.Refused.{refused-told}

-- why no vault was opened was told
pub unopened-told : {T : Type 0} (old new : Seen) (end : Ending) (why : Unopened) (handed : ℕ) →
    end ≡ unopened_ending why → handed ≡ length old.providers → IsUnopened old.disk handed why →
    ReadsDisk old.disk new.disk old.disk_faults new.disk_faults (HasReadStore {T = T} (Err why))
    (IsErrOf {T = T} (Err why) unopened.DiskFault) → new.providers ≡ old.providers → new.sink ≡ old.sink →
    Unstarted old new end
unopened-told old new end unopened.DiskFault handed is as_many cause disk same silent =
    disk_fault (disk.called.cause.rose refl)
    (refused-told 12 0 old new end is disk.resynced same silent (λ e. omega (arith, e)))
unopened-told old new end unopened.NotSetUp handed is as_many cause disk same silent = not_set_up cause
    (disk.synced tt) (refused-told 9 0 old new end is disk.resynced same silent (λ e. omega (arith, e)))
unopened-told old new end (unopened.BadJournal at) handed is as_many cause disk same silent =
    bad_journal at cause (refused-told 8 at old new end is disk.resynced same silent (λ e. omega (arith, e)))
unopened-told old new end unopened.TooFewProviders handed is as_many cause disk same silent =
    too_few_providers cause.0 cause.1 cause.2
    (subst (λ (n : ℕ). n < (setup_in_effect cause.1).n) as_many cause.3) (disk.synced tt)
    (refused-told 22 0 old new end is disk.resynced same silent (λ e. omega (arith, e)))
unopened-told old new end unopened.Memory handed is as_many cause disk same silent = no_memory
    (refused-told 70 0 old new end is disk.resynced same silent (λ e. disk.called.no_fault (λ f. absurd cc)))
